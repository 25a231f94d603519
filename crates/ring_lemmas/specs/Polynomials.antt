-- Polynomials over a ring, as lists of coefficients without a zero on top.
use Rattle.std.specs.Prelude.{Bool, true, false, List, [], ◌∷◌}
use Rattle.ring_lemmas.specs.Ring.{Operations, TestedRing}
use Rattle.ring_lemmas.specs.Lists.{add_lists, neg_list, mul_lists, trim, IsTrimmed, IsTrimmed_trim}

-- a polynomial
abbrev pub Pol : {A : Type 0} → TestedRing A → Type 0
Pol {A = A} r = (xs : List A) × IsTrimmed r.is_zero xs

-- the list without the zeros on top
abbrev pub pol_of : {A : Type 0} (r : TestedRing A) → List A → Pol r
pol_of r xs = (trim r.is_zero xs, IsTrimmed_trim r.is_zero xs)

abbrev pub is_empty : {A : Type 0} → List A → Bool
is_empty [] = true
is_empty (x ∷ xs) = false

-- sums, negatives and products of polynomials
unfoldable pub pol_ops : {A : Type 0} (r : TestedRing A) → Operations (Pol r)
pol_ops r = record {
  𝟘 = ([], tt);
  𝟙 = pol_of r (r.𝟙 ∷ []);
  ◌⊕◌ = λ a b. pol_of r (add_lists r.ops a.0 b.0);
  ⊖◌ = λ a. pol_of r (neg_list r.ops a.0);
  ◌⊗◌ = λ a b. pol_of r (mul_lists r.ops a.0 b.0);
}

module _ {A : Type 0} (r : TestedRing A) where
  -- an element of the ring, as a polynomial
  abbrev pub constant : A → Pol r
  constant a = pol_of r (a ∷ [])
