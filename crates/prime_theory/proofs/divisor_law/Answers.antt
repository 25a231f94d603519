-- The theorems of `DivisorProducts`.
use Rattle.prime_theory.proofs.DivisorProducts.{product_append, product_opposite}
use Rattle.prime_theory.proofs.divisor_law.Goals as goal

pub returns-clause-sum : goal.returns-clause-sum
returns-clause-sum g c = λ R 𝓞 fam. product_append R g.O.Subset.members 𝓞 R.𝟙 𝓞.one_in _ g.P.Family.members fam

pub returns-clause-opposite : goal.returns-clause-opposite
returns-clause-opposite g c = λ R 𝓞 fam. product_opposite R g.O.Subset.members 𝓞 R.𝟙 𝓞.one_in _ g.P.Family.members fam
