-- The theorems of `PairSpaces`.
use Rattle.pair_theory.proofs.PairSpaces.{space_layers, space_spanned}
use Rattle.pair_theory.proofs.space_of_pair_law.Goals as goal

pub returns-clause-basis : goal.returns-clause-basis
returns-clause-basis g = λ k c D bs ds some is both. space_layers c some D is bs ds both

pub returns-clause-spanned : goal.returns-clause-spanned
returns-clause-spanned g = λ k c D bs ds some is both z. space_spanned c some D is bs ds both z
