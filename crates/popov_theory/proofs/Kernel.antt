-- Linear maps of polynomial modules, and the measure of a pair of which one part is zero or falls away.
use Rattle.std.proofs.Common.{◌≡◌, ℕ, zero, suc, ◌<◌, ◌≤◌, ◌+◌, ◌*◌, ◌-◌, ◌⊎◌, inl, inr, sym, ◌∙◌, ap, ap₂, arith}
use Rattle.std.proofs.lemmas.Bool.{cases_lt}
use Rattle.ring_lemmas.specs.Ring.{CommRing, TestedRing}
use Rattle.ring_lemmas.specs.Lists.{convolution, tail_of}
use Rattle.ring_lemmas.proofs.Ring.{zero_mul, zero_add}
use Rattle.ring_lemmas.specs.Polynomials.{Pol}
use Rattle.popov_theory.specs.Module.{PolynomialModule, measure}
use Rattle.popov_theory.proofs.Positions.{row_le}
use Rattle.popov_theory.proofs.Measure.{measure_past, measure_top, pivot_is}
use Rattle.popov_theory.proofs.Product.{product_module, product_width, product_left, product_right}

-- where the first factor is zero up to s, so is the product at s
pub convolution_null_below : {A : Type 0} (r : CommRing A) (s : ℕ) (f g : ℕ → A) → ((i : ℕ) → i ≤ s → f i ≡ r.𝟘)
    → convolution r.ops f g s ≡ r.𝟘
convolution_null_below r zero f g h = ap (λ x. r.◌⊗◌ x (g zero)) (h zero (omega arith)) ∙ zero_mul r (g zero)
convolution_null_below r (suc s) f g h =
    ap₂ r.◌⊕◌ (ap (λ x. r.◌⊗◌ x (g (suc s))) (h zero (omega arith)) ∙ zero_mul r (g (suc s)))
    (convolution_null_below r s (tail_of f) g (λ i le. h (suc i) (omega (arith, le)))) ∙ zero_add r r.𝟘

pub record IsLinear {A V U : Type 0} {k : TestedRing A} (M : PolynomialModule k V) (N : PolynomialModule k U)
    (φ : V → U) : Type 0 where
  pub add : (u v : V) → φ (M.◌⊞◌ u v) ≡ N.◌⊞◌ (φ u) (φ v)
  pub scale : (c : Pol k) (v : V) → φ (M.◌·◌ c v) ≡ N.◌·◌ c (φ v)

module _ {A V U : Type 0} {k : TestedRing A} (M : PolynomialModule k V) (N : PolynomialModule k U) where
  abbrev pub W : PolynomialModule k (V × U)
  W = product_module M N

  pair_off : (z : V) (s j : ℕ) → j < W.width → M.width ≤ j → W.coef (z, N.𝟎) (s * W.width + j) ≡ k.𝟘
  pair_off z s j less le =
      ap (λ i. W.coef (z, N.𝟎) (s * W.width + i)) (omega (arith, le))
      ∙ product_right M N (z, N.𝟎) s (j - M.width) (omega (arith, less, le, product_width M N)) ∙ N.coef_zero _

  -- the measure of a pair with zero on the right
  pub measure_pair : (z : V) (d i : ℕ) → i < M.width → measure M z ≡ suc (d * M.width + i)
      → measure W (z, N.𝟎) ≡ suc (d * W.width + i)
  measure_pair z d i less is =
      (pivot_is W (z, N.𝟎) d i (omega (arith, less, product_width M N))
      (λ e. measure_top M z (d * M.width + i) is (sym (product_left M N (z, N.𝟎) d i less) ∙ e))
      (λ s j j_less after. higher s j j_less after (cases_lt j M.width))
      (λ j after j_less. right j after j_less (cases_lt j M.width))).0
    where
      higher : (s j : ℕ) → j < W.width → d < s → (j < M.width) ⊎ (M.width ≤ j) → W.coef (z, N.𝟎) (s * W.width + j) ≡ k.𝟘
      higher s j j_less after (inr out) = pair_off z s j j_less out
      higher s j j_less after (inl j_in) =
          product_left M N (z, N.𝟎) s j j_in
          ∙ measure_past M z (s * M.width + j) (omega (arith, is, less, row_le M.width M.positive d s after))

      right : (j : ℕ) → i < j → j < W.width → (j < M.width) ⊎ (M.width ≤ j) → W.coef (z, N.𝟎) (d * W.width + j) ≡ k.𝟘
      right j after j_less (inr out) = pair_off z d j j_less out
      right j after j_less (inl j_in) = product_left M N (z, N.𝟎) d j j_in
          ∙ measure_past M z (d * M.width + j) (omega (arith, is, after))

  -- and back
  pub measure_first : (z : V) (y : U) (d i : ℕ) → i < M.width → measure W (z, y) ≡ suc (d * W.width + i)
      → measure M z ≡ suc (d * M.width + i)
  measure_first z y d i less is =
      (pivot_is M z d i less
      (λ e. measure_top W (z, y) (d * W.width + i) is (product_left M N (z, y) d i less ∙ e))
      (λ s j j_less after.
      sym (product_left M N (z, y) s j j_less)
      ∙ measure_past W (z, y) (s * W.width + j)
      (omega (arith, is, less, product_width M N, row_le W.width W.positive d s after)))
      (λ j after j_less.
      sym (product_left M N (z, y) d j j_less) ∙ measure_past W (z, y) (d * W.width + j) (omega (arith, is, after)))).0
