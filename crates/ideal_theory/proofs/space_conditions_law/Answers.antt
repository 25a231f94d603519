-- The theorem of `SideIdeals`.
use Rattle.ideal_theory.proofs.SideIdeals.{space_conditions}
use Rattle.ideal_theory.proofs.space_conditions_law.Goals as goal

pub returns : goal.returns
returns c = λ k e s D some on z. space_conditions e some s D on z
