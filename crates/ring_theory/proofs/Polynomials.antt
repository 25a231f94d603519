-- Polynomials over a domain are a domain, and how long their products are.
use Rattle.std.proofs.Common.{◌≡◌, zero, suc, ◌+◌, ◌-◌, ◌≤◌, [], ◌∷◌, length, refl, sym, ap, ◌∙◌, arith}
use Rattle.ring_lemmas.specs.Ring.{TestedRing, IsDomain}
use Rattle.ring_lemmas.specs.Polynomials.{Pol, pol_ops}
use Rattle.ring_lemmas.specs.Lists.{coeff_of}
use Rattle.ring_lemmas.proofs.Ring.{mul_zero}
use Rattle.ring_lemmas.proofs.Lists.{coeff_trim}
use Rattle.ring_lemmas.proofs.Polynomials.{length_mul, same_pol}
use Rattle.ring_theory.specs.PolynomialRing.{pol_ring}

module _ {A : Type 0} (r : TestedRing A) where
  -- polynomials over a domain are a domain
  pub pol_domain : IsDomain r.ops → IsDomain (pol_ring r).ops
  unfolding pol_ops
  pol_domain domain = record {
    one_not_zero = λ e. domain.one_not_zero (sym (coeff_trim r (r.𝟙 ∷ []) zero) ∙ ap (λ p. coeff_of r.ops p.0 zero) e);
    cancel_zero = λ a b a_some null. go a b a_some (ap (λ p. length p.0) null);
  }
    where
      go : (a b : Pol r) → ¬ (a ≡ (pol_ring r).𝟘) → length ((pol_ring r).◌⊗◌ a b).0 ≡ 0 → b ≡ (pol_ring r).𝟘
      go a ([], t) a_some none = same_pol r ([], t) ((pol_ring r).𝟘) (λ n. refl)
      go ([], s) ((y ∷ ys), t) a_some none = absurd (a_some (same_pol r ([], s) ((pol_ring r).𝟘) (λ n. refl)))
      go ((x ∷ xs), s) ((y ∷ ys), t) a_some none = absurd (omega (arith, none, length_mul r domain x y xs ys s t))

  -- what a product has in codes: one less than its factors together
  pub length_product : IsDomain r.ops → (p q : Pol r) → ¬ (p ≡ (pol_ring r).𝟘) → ¬ (q ≡ (pol_ring r).𝟘)
      → suc (length ((pol_ring r).◌⊗◌ p q).0) ≡ length p.0 + length q.0
  unfolding pol_ops
  length_product domain ([], s) q p_some q_some = absurd (p_some (same_pol r ([], s) ((pol_ring r).𝟘) (λ n. refl)))
  length_product domain ((x ∷ xs), s) ([], t) p_some q_some = absurd
      (q_some (same_pol r ([], t) ((pol_ring r).𝟘) (λ n. refl)))
  length_product domain ((x ∷ xs), s) ((y ∷ ys), t) p_some q_some = omega (arith, length_mul r domain x y xs ys s t)

  pub length_product_le : IsDomain r.ops → (p q : Pol r) → length ((pol_ring r).◌⊗◌ p q).0 ≤ length p.0 + length q.0 - 1
  unfolding pol_ops
  length_product_le domain ([], s) q = omega arith
  length_product_le domain ((x ∷ xs), s) ([], t) =
      let null : length ((pol_ring r).◌⊗◌ ((x ∷ xs), s) ([], t)).0 ≡ 0
      = ap (λ w. length ((pol_ring r).◌⊗◌ ((x ∷ xs), s) w).0) (same_pol r ([], t) ((pol_ring r).𝟘) (λ n. refl))
      ∙ ap (λ w. length w.0) (mul_zero (pol_ring r).ring ((x ∷ xs), s)) in
      omega (arith, null)
  length_product_le domain ((x ∷ xs), s) ((y ∷ ys), t) = omega (arith, length_mul r domain x y xs ys s t)
