-- The multiple of a row by a monomial that clears a position.
use Rattle.std.proofs.Common.{◌≡◌, ◌≢◌, ℕ, suc, ◌<◌, ◌≤◌, ◌+◌, ◌*◌, ◌-◌, [], ◌∷◌, refl, ◌∙◌, ap, arith}
use Rattle.ring_lemmas.specs.Ring.{TestedRing, IsField}
use Rattle.ring_lemmas.specs.Lists.{coeff_of}
use Rattle.ring_lemmas.specs.Polynomials.{Pol, pol_of}
use Rattle.ring_theory.specs.Monomials.{spike, monomial}
use Rattle.ring_theory.proofs.Monomials.{monomial_at, monomial_off}
use Rattle.popov_theory.specs.Module.{PolynomialModule, measure}
use Rattle.popov_theory.proofs.Measure.{measure_past, measure_top, measure_bound, scale_top, scale_past}

module _ {A V : Type 0} {k : TestedRing A} (M : PolynomialModule k V) (field : IsField k.ops) where
  infixl 70 ◌·◌
  infixl 70 ◌⊗◌
  open M use {width, ◌·◌, coef}
  open k use {◌⊗◌}

  -- a multiple of v that ends at the position e, with the coefficient of u there
  pub record Clearing (u v : V) (e : ℕ) : Type 0 where
    pub scalar : A
    pub power : ℕ
    pub factor : Pol k
    pub factor_is : factor ≡ monomial k scalar power
    pub ends : measure M (factor · v) ≤ suc e
    pub same_top : coef (factor · v) e ≡ coef u e

  pub clearing_at : (u v : V) (e s n : ℕ) → measure M v ≡ suc n → suc e ≡ s * width + measure M v
      → (a : A) × (measure M (monomial k a s · v) ≤ suc e) × (coef (monomial k a s · v) e ≡ coef u e)
  clearing_at u v e s n m is = (
    a,
    measure_bound M (monomial k a s · v) (suc e) (λ i le.
        scale_past M (monomial k a s) v s n c_ends v_ends i (omega (arith, is, m, le))),
    same_top,
  )
    where
      inv : (b : A) × (coef v n ⊗ b ≡ k.𝟙)
      inv = field.inverse (coef v n) (measure_top M v n m)

      a : A
      a = coef u e ⊗ inv.0

      c_ends : (i : ℕ) → s < i → coeff_of k.ops (monomial k a s).0 i ≡ k.𝟘
      c_ends i after = monomial_off k a s i (λ z. absurd (omega (arith, z, after)))

      v_ends : (i : ℕ) → n < i → coef v i ≡ k.𝟘
      v_ends i after = measure_past M v i (omega (arith, m, after))

      same_top : coef (monomial k a s · v) e ≡ coef u e
      same_top =
          ap (coef (monomial k a s · v)) (omega (arith, is, m))
          ∙ scale_top M (monomial k a s) v s n c_ends v_ends
          ∙ ap (λ x. x ⊗ coef v n) (monomial_at k a s)
          ∙ k.mul_assoc (coef u e) inv.0 (coef v n)
          ∙ ap (λ x. coef u e ⊗ x) (k.mul_comm inv.0 (coef v n) ∙ inv.1)
          ∙ k.mul_one (coef u e)

  pub clearing : (u v : V) (e s : ℕ) → measure M v ≢ 0 → suc e ≡ s * width + measure M v → Clearing u v e
  clearing u v e s some is =
      let c = clearing_at u v e s (measure M v - 1) (omega (arith, some)) is in
      record { scalar = c.0; power = s; factor = monomial k c.0 s; factor_is = refl; ends = c.1; same_top = c.2 }

  -- the same by a scalar, for a row with the same measure
  pub scalar_clearing : (u v : V) (e : ℕ) → measure M v ≡ suc e
      → (a : A) × (measure M (pol_of k (a ∷ []) · v) ≤ suc e) × (coef (pol_of k (a ∷ []) · v) e ≡ coef u e)
  unfolding monomial spike
  scalar_clearing u v e m = clearing_at u v e 0 e m (omega (arith, m))
