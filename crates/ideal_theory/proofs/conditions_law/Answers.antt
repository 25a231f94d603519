-- The theorems of `FiniteSide` and `InfiniteSide`.
use Rattle.ideal_theory.proofs.FiniteSide.{finite_by_values}
use Rattle.ideal_theory.proofs.InfiniteSide.{infinite_by_values}
use Rattle.ideal_theory.proofs.conditions_law.Goals as goal

pub returns-clause-finite : goal.returns-clause-finite
returns-clause-finite c = λ k e D some on z. finite_by_values e some D on z

pub returns-clause-infinite : goal.returns-clause-infinite
returns-clause-infinite c = λ k e D some on z. infinite_by_values e some D on z
