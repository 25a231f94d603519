-- The theorems of `Invertible`.
use Rattle.ring_theory.proofs.Subsets.{product_member}
use Rattle.prime_theory.proofs.Invertible.{inverse_unique, inverse_of_product}
use Rattle.prime_theory.proofs.inverse_law.Goals as goal

pub returns-clause-unique : goal.returns-clause-unique
returns-clause-unique g c = λ R 𝓞 𝓙 same.
    inverse_unique R g.O.Subset.members 𝓞 g.M.Subset.members g.J.Subset.members 𝓙 ((same R.𝟙).1 𝓞.one_in)
    (λ a b m n. (same _).0 (product_member R g.O.Subset.members 𝓞 g.M.Subset.members g.J.Subset.members a b m n))

pub returns-clause-product : goal.returns-clause-product
returns-clause-product g c = λ R 𝓞. inverse_of_product R g.O.Subset.members 𝓞 g.M.Subset.members g.J.Subset.members
