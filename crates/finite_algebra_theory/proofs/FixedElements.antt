-- An element with a^q = a and a scalar c give the idempotent 1 - (a - c)^(q - 1).
use Rattle.std.proofs.Common.{◌≡◌, ℕ, zero, suc, ◌-◌, ◌↔◌, [], ◌∷◌, length, refl, sym, ◌∙◌, ap, subst, arith}
use Rattle.ring_lemmas.specs.Ring.{CommRing, pow}
use Rattle.ring_lemmas.proofs.Ring.{zero_add, one_mul, neg_mul, eq_of_sub, sub_of_eq}
use Rattle.ring_lemmas.proofs.Solver.{ring, reads, from_one, from_two}
use Rattle.finite_algebra_theory.specs.Algebra.{FiniteAlgebra, IsIdempotent, IsFixed}
use Rattle.finite_algebra_theory.specs.Minimal.{Minimal}
use Rattle.finite_algebra_theory.specs.Laws.{IsInjectivePower, idempotent_at}
use Rattle.finite_algebra_theory.proofs.Polynomial.{divide}
use Rattle.finite_algebra_theory.proofs.Frobenius.{frobenius_add, frobenius_scale, fixed_subring, size_two}

-- where b·b·p is b
module _ {A : Type 0} (R : CommRing A) where
  infixl 65 ◌⊕◌
  infixl 70 ◌⊗◌
  infixr 80 ⊖◌
  open R use {𝟘, 𝟙, ◌⊕◌, ◌⊗◌, ⊖◌}

  complement : (b p : A) → b ⊗ (b ⊗ p) ≡ b → IsIdempotent R.ops (𝟙 ⊕ ⊖ (b ⊗ p))
  complement b p f =
      from_one R p f (ring R (b ∷ p ∷ []) λ q h. simp (reads, q, h 0, h 1) (q.equal _ _ refl))

  zero_of_one : (b p : A) → b ⊗ (b ⊗ p) ≡ b → 𝟙 ⊕ ⊖ (b ⊗ p) ≡ 𝟙 → b ≡ 𝟘
  zero_of_one b p f g =
      from_two R (⊖ 𝟙) (⊖ b) f g (ring R (b ∷ p ∷ []) λ q h. simp (reads, q, h 0, h 1) (q.equal _ _ refl))

  cancel_of_zero : (b p y : A) → 𝟙 ⊕ ⊖ (b ⊗ p) ≡ 𝟘 → b ⊗ y ≡ 𝟘 → y ≡ 𝟘
  cancel_of_zero b p y g h =
      from_two R y p g h (ring R (b ∷ p ∷ y ∷ []) λ q h. simp (reads, q, h 0, h 1, h 2) (q.equal _ _ refl))

  module _ (S : A → Type 0) (𝓐 : FiniteAlgebra R.ops S) where
    -- the map is injective exactly where its kernel is 0
    pub injective_by_kernel : IsInjectivePower R.ops (length 𝓐.codes)
        ↔ ((a : A) → pow R.ops a (length 𝓐.codes) ≡ 𝟘 → a ≡ 𝟘)
    injective_by_kernel = (
      λ injective a e. injective a 𝟘 (e ∙ sym (𝓐.power 𝟘 𝓐.subring.zero_in)),
      λ kernel a b e.
          eq_of_sub R a b (kernel (a ⊕ ⊖ b)
          (frobenius_add R S 𝓐 a (⊖ b)
          ∙ ap (λ x. pow R.ops a (length 𝓐.codes) ⊕ x)
          (ap (λ x. pow R.ops x (length 𝓐.codes)) (sym (minus b))
          ∙ frobenius_scale R S 𝓐 (⊖ 𝟙) b (𝓐.subring.neg_in _ 𝓐.subring.one_in) ∙ minus _)
          ∙ sub_of_eq R _ _ e)),
    )
      where
        minus : (x : A) → ⊖ 𝟙 ⊗ x ≡ ⊖ x
        minus x = neg_mul R 𝟙 x ∙ ap ⊖◌ (one_mul R x)

    -- the power with exponent q - 2, and what it does
    pub record Inverted (b : A) : Type 0 where
      pub power : A
      pub product : b ⊗ (b ⊗ power) ≡ b
      pub is : pow R.ops b (length 𝓐.codes - 1) ≡ b ⊗ power

    inverted : (b : A) → IsFixed R.ops (length 𝓐.codes) b → Inverted b
    inverted b fixed = go (length 𝓐.codes - 2) (let l = size_two R S 𝓐 in omega arith)
      where
        go : (n : ℕ) → length 𝓐.codes ≡ suc (suc n) → Inverted b
        go n e = record {
          power = pow R.ops b n;
          product = ap (pow R.ops b) (sym e) ∙ fixed;
          is = ap (pow R.ops b) (let f : length 𝓐.codes - 1 ≡ suc n = omega (arith, e) in f);
        }

    module _ (a c : A) (a_fixed : IsFixed R.ops (length 𝓐.codes) a) (c_in : S c) where
      at : Inverted (a ⊕ ⊖ c)
      at =
          inverted (a ⊕ ⊖ c)
          ((fixed_subring R S 𝓐).sum_in a (⊖ c) a_fixed ((fixed_subring R S 𝓐).neg_in c (𝓐.power c c_in)))

      shape : idempotent_at R.ops (length 𝓐.codes) a c ≡ 𝟙 ⊕ ⊖ ((a ⊕ ⊖ c) ⊗ at.power)
      shape = ap (λ x. 𝟙 ⊕ ⊖ x) at.is

      pub idempotent_is : IsIdempotent R.ops (idempotent_at R.ops (length 𝓐.codes) a c)
      idempotent_is = subst (IsIdempotent R.ops) (sym shape) (complement (a ⊕ ⊖ c) at.power at.product)

      -- 1 only where a is c
      pub not_one : ¬ (S a) → ¬ (idempotent_at R.ops (length 𝓐.codes) a c ≡ 𝟙)
      not_one outside e =
          outside (subst S (sym (eq_of_sub R a c (zero_of_one (a ⊕ ⊖ c) at.power at.product (sym shape ∙ e)))) c_in)

      -- 0 only where a - c can be cancelled in the minimal polynomial
      pub not_zero : (n : ℕ) (f : A → A) → Minimal R.ops S a 𝟙 n f → f c ≡ 𝟘
          → ¬ (idempotent_at R.ops (length 𝓐.codes) a c ≡ 𝟘)
      not_zero zero f m root e = 𝓐.nonzero (sym (m.monic c) ∙ root)
      not_zero (suc n) f m root e =
          let d = divide R S 𝓐.subring 𝟙 n f c 𝓐.subring.one_in c_in m.monic in
          let killed : (a ⊕ ⊖ c) ⊗ d.quotient a ≡ 𝟘
          = sym (zero_add R _) ∙ ap (λ x. x ⊕ (a ⊕ ⊖ c) ⊗ d.quotient a) (sym root) ∙ sym (d.is a)
          ∙ sym (R.mul_one (f a)) ∙ m.kills in
          m.least n (omega arith) d.quotient d.quotient_in
          (R.mul_one _ ∙ cancel_of_zero (a ⊕ ⊖ c) at.power (d.quotient a) (sym shape ∙ e) killed)
