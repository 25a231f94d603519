-- The coefficients of monomials.
use Rattle.std.proofs.Common.{◌≡◌, ◌≢◌, ℕ, zero, suc, length, refl, sym, ◌∙◌, ap, arith}
use Rattle.ring_lemmas.specs.Ring.{TestedRing}
use Rattle.ring_lemmas.specs.Lists.{coeff_of}
use Rattle.ring_lemmas.proofs.Lists.{coeff_trim}
use Rattle.ring_lemmas.proofs.Polynomials.{length_from_top}
use Rattle.ring_theory.specs.Monomials.{spike, monomial}

module _ {A : Type 0} (k : TestedRing A) where
  spike_at : (a : A) (s : ℕ) → coeff_of k.ops (spike k a s) s ≡ a
  unfolding spike
  spike_at a zero = refl
  spike_at a (suc s) = spike_at a s

  spike_off : (a : A) (s i : ℕ) → i ≢ s → coeff_of k.ops (spike k a s) i ≡ k.𝟘
  unfolding spike
  spike_off a zero zero differ = absurd (differ refl)
  spike_off a zero (suc i) differ = refl
  spike_off a (suc s) zero differ = refl
  spike_off a (suc s) (suc i) differ = spike_off a s i (λ e. differ (ap suc e))

  pub monomial_at : (a : A) (s : ℕ) → coeff_of k.ops (monomial k a s).0 s ≡ a
  unfolding monomial
  monomial_at a s = coeff_trim k (spike k a s) s ∙ spike_at a s

  pub monomial_off : (a : A) (s i : ℕ) → i ≢ s → coeff_of k.ops (monomial k a s).0 i ≡ k.𝟘
  unfolding monomial
  monomial_off a s i differ = coeff_trim k (spike k a s) i ∙ spike_off a s i differ

  -- it has the degree s where a is not zero
  pub monomial_length : (a : A) (s : ℕ) → a ≢ k.𝟘 → length (monomial k a s).0 ≡ suc s
  monomial_length a s some =
      length_from_top k (monomial k a s).0 s (monomial k a s).1 (λ z. some (sym (monomial_at a s) ∙ z))
      (λ i after. monomial_off a s i (λ z. absurd (omega (arith, z, after))))
