use Rattle.value_theory.proofs.Laws.{ideals_as_sets}
use Rattle.value_theory.proofs.ideal_law.Goals as goal

pub returns : goal.returns
returns c = λ k p. ideals_as_sets k p
