-- Monomials.
use Rattle.std.specs.Prelude.{ℕ, zero, suc, List, [], ◌∷◌}
use Rattle.ring_lemmas.specs.Ring.{TestedRing}
use Rattle.ring_lemmas.specs.Polynomials.{Pol, pol_of}

module _ {A : Type 0} (k : TestedRing A) where
  -- the coefficients of a·x^s
  unfoldable pub spike : A → ℕ → List A
  spike a zero = a ∷ []
  spike a (suc s) = k.𝟘 ∷ spike a s

  -- a·x^s
  unfoldable pub monomial : A → ℕ → Pol k
  monomial a s = pol_of k (spike a s)
