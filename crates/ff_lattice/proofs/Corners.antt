-- Where the factor t of the twisted pairs vanishes up to more than the degrees of multiples that the map takes into the
-- span, the right parts of the first rows of their Popov form are zero; and the pairs have full rank where the span
-- has.
use Rattle.std.proofs.Common.{◌≡◌, ℕ, suc, ◌<◌, ◌≤◌, ◌+◌, ◌*◌, ◌-◌, ◌/◌, ◌%◌, ◌⊎◌, inl, inr, List, length, sym, ◌∙◌, ap, ap₂, arith, subst}
use Rattle.std.proofs.lemmas.Bool.{cases_lt}
use Rattle.ring_lemmas.specs.Ring.{TestedRing, IsField, IsDomain}
use Rattle.ring_lemmas.specs.Lists.{coeff_of}
use Rattle.ring_lemmas.proofs.Ring.{field_domain}
use Rattle.ring_lemmas.specs.Polynomials.{Pol}
use Rattle.ring_theory.specs.PolynomialRing.{pol_ring}
use Rattle.popov_theory.specs.Module.{PolynomialModule, measure, row_degree, column}
use Rattle.popov_theory.specs.Span.{row_at, InSpan}
use Rattle.popov_theory.specs.Popov.{IsPopov}
use Rattle.popov_theory.proofs.Module.{split, column_below, v_add_sub, scale_add, scale_neg, scale_scale}
use Rattle.popov_theory.proofs.Positions.{column_at, row_le}
use Rattle.popov_theory.proofs.Measure.{measure_scale, measure_past}
use Rattle.popov_theory.proofs.Span.{span_row}
use Rattle.popov_theory.proofs.PopovForm.{popov_measure, popov_least}
use Rattle.popov_theory.proofs.FullRank.{measure_unit}
use Rattle.popov_theory.proofs.PredictableDegree.{empty_pol}
use Rattle.popov_theory.proofs.Product.{product_width, product_right}
use Rattle.popov_theory.proofs.Kernel.{W, IsLinear, measure_pair, convolution_null_below}
use Rattle.ff_lattice.proofs.KernelRows.{Twisted, twisted_zero}

module _ {A V U : Type 0} {k : TestedRing A} (M : PolynomialModule k V) (N : PolynomialModule k U)
    (field : IsField k.ops) (φ : V → U) (linear : IsLinear M N φ) (ls : List U)
    (t : Pol k) (cancel : (u : U) → N.◌·◌ t u ≡ N.𝟎 → u ≡ N.𝟎) where
  abbrev W₀ : PolynomialModule k (V × U)
  W₀ = W M N

  abbrev domain : IsDomain k.ops
  domain = field_domain k.ring field

  abbrev T : V × U → Type 0
  T q = Twisted M N field φ linear ls t cancel q

  -- t times what is left of w is twisted with t·h·z
  pub twisted_multiple : (z : V) (w : U) (h : Pol k) → InSpan N ls (N.◌·◌ h (N.◌⊞◌ w (N.⊟◌ (φ (M.◌·◌ t z)))))
      → T (M.◌·◌ ((pol_ring k).◌⊗◌ t h) z, N.◌·◌ ((pol_ring k).◌⊗◌ t h) w)
  twisted_multiple z w h h_in = record {
    offset = N.◌·◌ h (N.◌⊞◌ w (N.⊟◌ (φ (M.◌·◌ t z))));
    offset_in = h_in;
    is =
        scale_scale N t h w
        ∙ ap (N.◌·◌ t)
        (sym (v_add_sub N (N.◌·◌ h (φ (M.◌·◌ t z))) (N.◌·◌ h w))
        ∙ ap₂ N.◌⊞◌
        (sym (linear.scale h (M.◌·◌ t z))
        ∙ ap φ (sym (scale_scale M h t z) ∙ ap (λ c. M.◌·◌ c z) ((pol_ring k).mul_comm h t)))
        (ap (λ y. N.◌⊞◌ (N.◌·◌ h w) y) (sym (scale_neg N h (φ (M.◌·◌ t z))))
        ∙ sym (scale_add N h w (N.⊟◌ (φ (M.◌·◌ t z))))));
  }

  module _ (K : ℕ) (t_low : (i : ℕ) → i < K → coeff_of k.ops t.0 i ≡ k.𝟘) (rs : List (V × U)) (p : IsPopov W₀ rs)
      (left : (q : V × U) → InSpan W₀ rs q → T q) (right : (q : V × U) → T q → InSpan W₀ rs q)
      (i : ℕ) (less : i < M.width) (h : Pol k) (some : ¬ (h ≡ (pol_ring k).𝟘)) (short : length h.0 ≤ K)
      (multiple : InSpan N ls (N.◌·◌ h (φ (M.unit i)))) where
    low : (q : V × U) → T q → (s j : ℕ) → j < N.width → s < K → N.coef q.1 (s * N.width + j) ≡ k.𝟘
    low q q_in s j j_less s_less =
        ap (λ y. N.coef y (s * N.width + j)) q_in.is
        ∙ N.coef_scale t (N.◌⊞◌ (φ q.0) q_in.offset) s j j_less
        ∙ convolution_null_below k.ring s (coeff_of k.ops t.0)
        (λ e. N.coef (N.◌⊞◌ (φ q.0) q_in.offset) (e * N.width + j))
        (λ e le. t_low e (omega (arith, le, s_less)))

    w_less : i < W₀.width
    w_less = omega (arith, less, product_width M N)

    abbrev γ : ℕ
    γ = length h.0 - 1

    h_size : length h.0 ≡ suc (length h.0 - 1)
    h_size = go (cases_lt 0 (length h.0))
      where
        go : (0 < length h.0) ⊎ (length h.0 ≤ 0) → length h.0 ≡ suc (length h.0 - 1)
        go (inl more) = omega (arith, more)
        go (inr none) = absurd (some (empty_pol k h (omega (arith, none))))

    multiple_measure : measure W₀ (M.◌·◌ h (M.unit i), N.𝟎) ≡ suc (γ * W₀.width + i)
    multiple_measure =
        measure_pair M N (M.◌·◌ h (M.unit i)) γ i less
        (measure_scale M domain h (M.unit i) γ h_size (λ z. absurd (omega (arith, z, measure_unit M domain i)))
        ∙ omega (arith, measure_unit M domain i))

    multiple_in : InSpan W₀ rs (M.◌·◌ h (M.unit i), N.𝟎)
    multiple_in = right _ (twisted_zero M N field φ linear ls t cancel (M.◌·◌ h (M.unit i))
        (subst (InSpan N ls) (sym (linear.scale h (M.unit i))) multiple))

    degree_le : row_degree W₀ (row_at W₀ rs i) ≤ γ
    degree_le = go (cases_lt γ (row_degree W₀ (row_at W₀ rs i)))
      where
        at_pivot : measure W₀ (row_at W₀ rs i) ≤ suc (γ * W₀.width + i)
        at_pivot =
            subst (λ n. measure W₀ (row_at W₀ rs i) ≤ n) multiple_measure
            (subst (λ j. measure W₀ (row_at W₀ rs j) ≤ measure W₀ (M.◌·◌ h (M.unit i), N.𝟎))
            (ap (column W₀.width) multiple_measure ∙ column_at W₀.width W₀.positive γ i w_less)
            (popov_least W₀ domain rs p (M.◌·◌ h (M.unit i), N.𝟎) multiple_in
            (λ z. absurd (omega (arith, z, multiple_measure)))))

        go : (γ < row_degree W₀ (row_at W₀ rs i)) ⊎ (row_degree W₀ (row_at W₀ rs i) ≤ γ)
            → row_degree W₀ (row_at W₀ rs i) ≤ γ
        go (inr le) = le
        go (inl more) = absurd (omega (
          arith,
          at_pivot,
          popov_measure W₀ rs p i w_less,
          row_le W₀.width W₀.positive γ _
              more,
          W₀.positive,
        ))

    -- the right part of the row is zero
    pub right_null : (row_at W₀ rs i).1 ≡ N.𝟎
    right_null =
        N.same (row_at W₀ rs i).1 N.𝟎 (λ e.
        subst (λ n. N.coef (row_at W₀ rs i).1 n ≡ k.𝟘) (split N e)
        (at (e / N.width) (e % N.width) (column_below N e) (cases_lt (e / N.width) K))
        ∙ sym (N.coef_zero e))
      where
        at : (s j : ℕ) → j < N.width → (s < K) ⊎ (K ≤ s) → N.coef (row_at W₀ rs i).1 (s * N.width + j) ≡ k.𝟘
        at s j j_less (inl below) = low (row_at W₀ rs i) (left _ (span_row W₀ rs i)) s j j_less below
        at s j j_less (inr high) =
            sym (product_right M N (row_at W₀ rs i) s j j_less)
            ∙ measure_past W₀ (row_at W₀ rs i) (s * W₀.width + (M.width + j))
            (omega (
              arith,
              popov_measure W₀ rs p i w_less,
              degree_le,
              short,
              h_size,
              high,
              w_less,
              row_le W₀.width W₀.positive (row_degree W₀ (row_at W₀ rs i)) s
                  (omega (arith, degree_le, short, h_size, high)),
            ))
