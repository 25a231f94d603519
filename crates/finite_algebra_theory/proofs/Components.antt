-- Lists without repetition that have the same members have one length; the number of local components is a dimension.
use Rattle.std.proofs.Common.{◌≡◌, ◌≤◌, inl, inr, suc, List, [], ◌∷◌, length, refl, sym, ◌∙◌, ap, subst, arith}
use Rattle.ring_lemmas.specs.Ring.{CommRing}
use Rattle.ring_theory.specs.Members.{In, IsDistinct}
use Rattle.finite_algebra_theory.specs.Algebra.{FiniteAlgebra, Dependent}
use Rattle.finite_algebra_theory.specs.Idempotents.{FixedSpan}
use Rattle.finite_algebra_theory.specs.Laws.{ArePrimitives}
use Rattle.finite_algebra_theory.proofs.Existence.{primitives_counted}

module _ {A : Type 0} where
  -- the list without the member found
  without : (x : A) (ys : List A) → In x ys → List A
  without x [] i = absurd i
  without x (y ∷ ys) (inl e) = ys
  without x (y ∷ ys) (inr i) = y ∷ without x ys i

  length_without : (x : A) (ys : List A) (i : In x ys) → length ys ≡ suc (length (without x ys i))
  unfolding without
  length_without x [] i = absurd i
  length_without x (y ∷ ys) (inl e) = refl
  length_without x (y ∷ ys) (inr i) = ap suc (length_without x ys i)

  in_without : (x : A) (ys : List A) (i : In x ys) (z : A) → In z ys → ¬ (z ≡ x) → In z (without x ys i)
  unfolding without
  in_without x [] i z j other = absurd i
  in_without x (y ∷ ys) (inl e) z (inl f) other = absurd (other (f ∙ sym e))
  in_without x (y ∷ ys) (inl e) z (inr j) other = j
  in_without x (y ∷ ys) (inr i) z (inl f) other = inl f
  in_without x (y ∷ ys) (inr i) z (inr j) other = inr (in_without x ys i z j other)

  pub distinct_within : (xs ys : List A) → IsDistinct xs → ((x : A) → In x xs → In x ys) → length xs ≤ length ys
  distinct_within [] ys distinct h = omega arith
  distinct_within (x ∷ xs) ys distinct h =
      let i = h x (inl refl) in
      omega (
        arith,
        length_without x ys i,
        distinct_within xs (without x ys i) distinct.1 (λ z j.
            in_without x ys i z (h z (inr j)) (λ e. distinct.0 (subst (λ w. In w xs) e j))),
      )

module _ {A : Type 0} (R : CommRing A) (S : A → Type 0) (𝓐 : FiniteAlgebra R.ops S) where
  -- as many primitive idempotents as independent elements that span the fixed ones
  pub component_number : (es bs : List A) → ArePrimitives R.ops es → FixedSpan R.ops S 𝓐.codes bs
      → ¬ (Dependent R.ops S bs)
      → length bs ≡ length es
  component_number es bs all fs independent =
      let c = primitives_counted R S 𝓐 bs fs independent in
      omega (
        arith,
        c.3,
        distinct_within c.0 es c.2 (λ e i. (all.each e).0 ((c.1 e).1 i)),
        distinct_within es c.0 all.once (λ e i. (c.1 e).0 ((all.each e).1 i)),
      )
