-- A monic polynomial times the rows of a Popov form gives the Popov form of the multiples, and back.
use Rattle.std.proofs.Common.{◌≡◌, ◌≢◌, ℕ, zero, suc, ◌<◌, ◌≤◌, ◌+◌, ◌*◌, ◌-◌, ◌⊎◌, inl, inr, List, [], ◌∷◌, length, map, refl, sym, ◌∙◌, ap, ap₂, arith, subst, suc-mul}
use Rattle.std.proofs.lemmas.Bool.{cases_lt}
use Rattle.std.proofs.lemmas.Nat.{mul-le}
use Rattle.ring_lemmas.specs.Ring.{TestedRing, IsDomain}
use Rattle.ring_lemmas.specs.Lists.{coeff_of, tail_of}
use Rattle.ring_lemmas.proofs.Ring.{one_mul}
use Rattle.ring_lemmas.proofs.Sequences.{convolution_past, convolution_top, convolution_null_left, convolution_comm}
use Rattle.ring_lemmas.specs.Polynomials.{Pol}
use Rattle.ring_theory.specs.PolynomialRing.{pol_ring}
use Rattle.ring_lemmas.proofs.Polynomials.{coeff_past}
use Rattle.popov_theory.specs.Module.{PolynomialModule, measure, pivot, row_degree, column, top_position}
use Rattle.popov_theory.specs.Span.{row_at, InSpan, combine}
use Rattle.popov_theory.specs.Popov.{IsPopov, pivot_degree}
use Rattle.popov_theory.specs.Laws.{multiples}
use Rattle.popov_theory.proofs.Module.{scale_add, scale_scale, scale_zero}
use Rattle.popov_theory.proofs.Positions.{column_shift}
use Rattle.popov_theory.proofs.Measure.{measure_scale, measure_past, zero_from_measure, measure_zero, scale_top, top_past, top_some}
use Rattle.popov_theory.proofs.PredictableDegree.{degree_multiple}
pub use Rattle.popov_theory.specs.Module.{IsMonic}

module _ {A V : Type 0} {k : TestedRing A} (M : PolynomialModule k V) (domain : IsDomain k.ops) (h : Pol k)
    (monic : IsMonic k h) where
  infixl 65 ◌⊞◌
  infixl 70 ◌·◌
  infixl 70 ◌⊗◌
  open M use {width, 𝟎, ◌⊞◌, ◌·◌, coef}
  open k use {𝟘, 𝟙, ◌⊗◌}

  -- h times each row
  pub scaled : List V → List V
  scaled rs = map (λ r. h · r) rs

  pub scaled_at : (rs : List V) (i : ℕ) → row_at M (scaled rs) i ≡ h · row_at M rs i
  unfolding scaled
  scaled_at [] i = sym (scale_zero M h)
  scaled_at (r ∷ rs) zero = refl
  scaled_at (r ∷ rs) (suc i) = scaled_at rs i

  scaled_measure : (v : V) → measure M v ≢ 0 → measure M (h · v) ≡ monic.degree * width + measure M v
  scaled_measure v some = measure_scale M domain h v monic.degree monic.size some

  scaled_some : (v : V) → measure M v ≢ 0 → measure M (h · v) ≢ 0
  scaled_some v some z = some (omega (arith, scaled_measure v some, z))

  unscaled_some : (v : V) → measure M (h · v) ≢ 0 → measure M v ≢ 0
  unscaled_some v some z = some (ap (λ u. measure M (h · u)) (zero_from_measure M v z) ∙ ap (measure M) (scale_zero M h)
      ∙ measure_zero M)

  scaled_pivot : (v : V) → measure M v ≢ 0 → pivot M (h · v) ≡ pivot M v
  scaled_pivot v some = ap (column width) (scaled_measure v some)
      ∙ column_shift width M.positive monic.degree (measure M v) some

  scaled_degree : (v : V) → measure M v ≢ 0 → row_degree M (h · v) ≡ monic.degree + row_degree M v
  scaled_degree v some =
      degree_multiple M domain h v (record
      { degree = monic.degree; size = monic.size; row_some = some; is = scaled_measure v some })

  h_ends : (i : ℕ) → monic.degree < i → coeff_of k.ops h.0 i ≡ 𝟘
  h_ends i after = coeff_past k h.0 i (omega (arith, monic.size, after))

  scaled_top : (v : V) → measure M v ≢ 0 → coef (h · v) (measure M (h · v) - 1) ≡ coef v (measure M v - 1)
  scaled_top v some =
      ap (coef (h · v)) (omega (arith, scaled_measure v some, some))
      ∙ scale_top M h v monic.degree (measure M v - 1) h_ends (λ i after. measure_past M v i (omega (arith, after)))
      ∙ ap (λ x. x ⊗ coef v (measure M v - 1)) monic.top ∙ one_mul k.ring _

  -- the entry in a column has its degree raised by that of h
  entry_ends : (v : V) (j : ℕ) → j < width → (d : ℕ) → ((s : ℕ) → d ≤ s → coef v (s * width + j) ≡ 𝟘) → (s : ℕ)
      → monic.degree + d ≤ s → coef (h · v) (s * width + j) ≡ 𝟘
  entry_ends v j less zero ends s le =
      M.coef_scale h v s j less
      ∙ convolution_comm k.ring (coeff_of k.ops h.0) (λ t. coef v (t * width + j)) s
      ∙ convolution_null_left k.ring (λ t. coef v (t * width + j)) (coeff_of k.ops h.0) (λ t. ends t (omega arith)) s
  entry_ends v j less (suc d) ends s le =
      M.coef_scale h v s j less
      ∙ convolution_past k.ring monic.degree d (coeff_of k.ops h.0) (λ t. coef v (t * width + j)) h_ends
      (λ t after. ends t after) s (omega (arith, le))

  entry_ends_back : (v : V) (j : ℕ) → j < width → (d : ℕ)
      → ((s : ℕ) → monic.degree + d ≤ s → coef (h · v) (s * width + j) ≡ 𝟘) → (s : ℕ) → d ≤ s
      → coef v (s * width + j) ≡ 𝟘
  entry_ends_back v j less d ends s le = go (top_position k.is_zero g n) refl
    where
      g : ℕ → A
      g t = coef v (t * width + j)

      n : ℕ
      n = suc (M.bound v)

      past : (t : ℕ) → n ≤ t → g t ≡ 𝟘
      past t after = M.coef_past v (t * width + j) (omega (arith, mul-le t 1 t width (omega arith) M.positive, after))

      ends_at : (m : ℕ) → top_position k.is_zero g n ≤ m → (t : ℕ) → m ≤ t → g t ≡ 𝟘
      ends_at m top_le t m_le = at (cases_lt t n)
        where
          at : (t < n) ⊎ (n ≤ t) → g t ≡ 𝟘
          at (inl t_less) = top_past k g n t (omega (arith, top_le, m_le)) t_less
          at (inr after) = past t after

      go : (m : ℕ) → top_position k.is_zero g n ≡ m → g s ≡ 𝟘
      go zero e = ends_at 0 (omega (arith, e)) s (omega arith)
      go (suc m) e = at (cases_lt m s)
        where
          at : (m < s) ⊎ (s ≤ m) → g s ≡ 𝟘
          at (inl lower) = ends_at (suc m) (omega (arith, e)) s lower
          at (inr higher) =
              absurd (top_some k g n m e
              (sym (M.coef_scale h v (monic.degree + m) j less
              ∙ convolution_top k.ring monic.degree m (coeff_of k.ops h.0) g h_ends
              (λ t after. ends_at (suc m) (omega (arith, e)) t after)
              ∙ ap (λ x. x ⊗ g m) monic.top ∙ one_mul k.ring (g m))
              ∙ ends (monic.degree + m) (omega (arith, le, higher))))

  scaled_length : (rs : List V) → length (scaled rs) ≡ length rs
  unfolding scaled
  scaled_length [] = refl
  scaled_length (r ∷ rs) = ap suc (scaled_length rs)

  pub popov_scaled : (rs : List V) → IsPopov M rs → IsPopov M (scaled rs)
  popov_scaled rs p = record {
    size = scaled_length rs ∙ p.size;
    some = λ i less. subst (λ v. measure M v ≢ 0) (sym (scaled_at rs i)) (scaled_some (row_at M rs i) (p.some i less));
    pivot_at = λ i less. ap (pivot M) (scaled_at rs i) ∙ scaled_pivot (row_at M rs i) (p.some i less)
        ∙ p.pivot_at i less;
    monic = λ i less. ap (λ v. coef v (measure M v - 1)) (scaled_at rs i) ∙ scaled_top (row_at M rs i) (p.some i less)
        ∙ p.monic i less;
    small = λ i j s i_less j_less differ le.
        ap (λ v. coef v (s * width + j)) (scaled_at rs i)
        ∙ entry_ends (row_at M rs i) j j_less (row_degree M (row_at M rs j))
        (λ t t_le. p.small i j t i_less j_less differ t_le) s
        (omega (arith, le, ap (row_degree M) (scaled_at rs j), scaled_degree (row_at M rs j) (p.some j j_less)));
  }

  pub popov_unscaled : (rs : List V) → IsPopov M (scaled rs) → IsPopov M rs
  popov_unscaled rs p = record {
    size = sym (scaled_length rs) ∙ p.size;
    some = some;
    pivot_at = λ i less. sym (scaled_pivot (row_at M rs i) (some i less)) ∙ ap (pivot M) (sym (scaled_at rs i))
        ∙ p.pivot_at i less;
    monic = λ i less. sym (scaled_top (row_at M rs i) (some i less))
        ∙ ap (λ v. coef v (measure M v - 1)) (sym (scaled_at rs i)) ∙ p.monic i less;
    small = λ i j s i_less j_less differ le.
        entry_ends_back (row_at M rs i) j j_less (row_degree M (row_at M rs j))
        (λ t t_le. ap (λ v. coef v (t * width + j)) (sym (scaled_at rs i))
        ∙ p.small i j t i_less j_less differ
        (omega (arith, t_le, ap (row_degree M) (scaled_at rs j), scaled_degree (row_at M rs j) (some j j_less)))) s
        le;
  }
    where
      some : (i : ℕ) → i < width → measure M (row_at M rs i) ≢ 0
      some i less = unscaled_some (row_at M rs i) (subst (λ v. measure M v ≢ 0) (scaled_at rs i) (p.some i less))

  -- the span of the multiples is that of the multiples of the span
  pub combine_scaled : (rs : List V) (c : ℕ → Pol k) → combine M c (scaled rs) ≡ h · combine M c rs
  unfolding scaled
  combine_scaled [] c = sym (scale_zero M h)
  combine_scaled (r ∷ rs) c =
      ap₂ ◌⊞◌
      (sym (scale_scale M (c zero) h r) ∙ ap (λ d. d · r) ((pol_ring k).mul_comm (c zero) h)
      ∙ scale_scale M h (c zero) r)
      (combine_scaled rs (tail_of c))
      ∙ sym (scale_add M h _ _)

  pub span_scaled : (rs : List V) (v : V) → InSpan M rs v → InSpan M (scaled rs) (h · v)
  span_scaled rs v v_in = record {
    coefficients = v_in.coefficients;
    is = ap (λ u. h · u) v_in.is
        ∙ sym (combine_scaled rs v_in.coefficients);
  }

  pub span_unscaled : (rs : List V) (v : V) → InSpan M (scaled rs) v → (u : V) × InSpan M rs u × (v ≡ h · u)
  span_unscaled rs v v_in = (
    combine M v_in.coefficients rs,
    record { coefficients = v_in.coefficients; is = refl },
    v_in.is
        ∙ combine_scaled rs v_in.coefficients,
  )

  pub pivot_degree_scaled : (rs : List V) → ((i : ℕ) → i < length rs → measure M (row_at M rs i) ≢ 0)
      → pivot_degree M (scaled rs) ≡ length rs * monic.degree + pivot_degree M rs
  unfolding scaled
  pivot_degree_scaled [] some = omega arith
  pivot_degree_scaled (r ∷ rs) some =
      omega (
        arith,
        scaled_degree r (some 0 (omega arith)),
        pivot_degree_scaled rs
            (λ i less. some (suc i) (omega (arith, less))),
        suc-mul (length rs) monic.degree,
      )

  -- the rows of the multiples are the multiples of the rows
  pub multiples_are : (rs : List V) → multiples M h rs ≡ scaled rs
  unfolding scaled
  multiples_are rs = refl
