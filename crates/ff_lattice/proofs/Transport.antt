-- Two modules of one width with the same coefficients: measures, Popov forms and spans are the same.
use Rattle.std.proofs.Common.{◌≡◌, ℕ, zero, suc, ◌+◌, ◌-◌, ◌*◌, ◌<◌, ◌≤◌, ◌/◌, List, [], ◌∷◌, map, refl, sym, ◌∙◌, ap, ap₂, subst, arith}
use Rattle.std.proofs.lemmas.List.{length-map}
use mathlib.Core.Path.{fun_ext}
use Rattle.ring_lemmas.specs.Ring.{TestedRing}
use Rattle.ring_lemmas.specs.Lists.{coeff_of, convolution, tail_of}
use Rattle.ring_lemmas.specs.Polynomials.{Pol}
use Rattle.popov_theory.specs.Module.{PolynomialModule, measure, pivot, row_degree, column}
use Rattle.popov_theory.specs.Span.{row_at, combine, InSpan}
use Rattle.popov_theory.specs.Popov.{IsPopov}
use Rattle.popov_theory.proofs.Module.{same_columns}
use Rattle.popov_theory.proofs.Measure.{measure_past, measure_top, measure_is, measure_bound}

module _ {A V U : Type 0} {k : TestedRing A} (M : PolynomialModule k V) (W : PolynomialModule k U) (ι : V → U)
    (width : W.width ≡ M.width)
    (coef : (v : V) (e : ℕ) → W.coef (ι v) e ≡ M.coef v e) where
  pub moved_zero : ι M.𝟎 ≡ W.𝟎
  moved_zero = W.same (ι M.𝟎) W.𝟎 (λ e. coef M.𝟎 e ∙ M.coef_zero e ∙ sym (W.coef_zero e))

  pub moved_add : (u v : V) → ι (M.◌⊞◌ u v) ≡ W.◌⊞◌ (ι u) (ι v)
  moved_add u v =
      W.same (ι (M.◌⊞◌ u v)) (W.◌⊞◌ (ι u) (ι v)) (λ e.
      coef (M.◌⊞◌ u v) e ∙ M.coef_add u v e ∙ sym (W.coef_add (ι u) (ι v) e ∙ ap₂ k.◌⊕◌ (coef u e) (coef v e)))

  pub moved_scale : (c : Pol k) (v : V) → ι (M.◌·◌ c v) ≡ W.◌·◌ c (ι v)
  moved_scale c v =
      same_columns W (ι (M.◌·◌ c v)) (W.◌·◌ c (ι v)) (λ s j less.
      let less' : j < M.width = omega (arith, less, width) in
      coef (M.◌·◌ c v) (s * W.width + j)
      ∙ ap (λ w. M.coef (M.◌·◌ c v) (s * w + j)) width
      ∙ M.coef_scale c v s j less'
      ∙ ap (λ g. convolution k.ops (coeff_of k.ops c.0) g s)
      (fun_ext (λ t. ap (λ w. M.coef v (t * w + j)) (sym width) ∙ sym (coef v (t * W.width + j))))
      ∙ sym (W.coef_scale c (ι v) s j less))

  pub moved_injective : (u v : V) → ι u ≡ ι v → u ≡ v
  moved_injective u v h = M.same u v (λ e. sym (coef u e) ∙ ap (λ x. W.coef x e) h ∙ coef v e)

  pub moved_measure : (v : V) → measure W (ι v) ≡ measure M v
  moved_measure v = go (measure M v) refl
    where
      go : (n : ℕ) → measure M v ≡ n → measure W (ι v) ≡ n
      go zero z =
          let le : measure W (ι v) ≤ 0 = measure_bound W (ι v) 0
          (λ e _. coef v e ∙ measure_past M v e (omega (arith, z))) in
          omega (arith, le)
      go (suc e) z = measure_is W (ι v) e (λ h. measure_top M v e z (sym (coef v e) ∙ h))
          (λ i past. coef v i ∙ measure_past M v i (omega (arith, z, past)))

  pub moved_pivot : (v : V) → pivot W (ι v) ≡ pivot M v
  moved_pivot v = ap₂ column width (moved_measure v)

  pub moved_degree : (v : V) → row_degree W (ι v) ≡ row_degree M v
  moved_degree v = ap₂ (λ n w. (n - 1) / w) (moved_measure v) width

  abbrev pub moved : List V → List U
  moved rs = map ι rs

  pub moved_at : (rs : List V) (i : ℕ) → row_at W (moved rs) i ≡ ι (row_at M rs i)
  moved_at [] i = sym moved_zero
  moved_at (r ∷ rs) zero = refl
  moved_at (r ∷ rs) (suc i) = moved_at rs i

  pub moved_popov : (rs : List V) → IsPopov M rs → IsPopov W (moved rs)
  moved_popov rs p = record {
    size = length-map rs ι ∙ p.size ∙ sym width;
    some = λ i less z. p.some i (inside i less)
        (sym (moved_measure (row_at M rs i)) ∙ ap (measure W) (sym (moved_at rs i)) ∙ z);
    pivot_at = λ i less. ap (pivot W) (moved_at rs i) ∙ moved_pivot (row_at M rs i) ∙ p.pivot_at i (inside i less);
    monic = λ i less.
        ap (λ u. W.coef u (measure W u - 1)) (moved_at rs i)
        ∙ ap (λ n. W.coef (ι (row_at M rs i)) (n - 1)) (moved_measure (row_at M rs i))
        ∙ coef (row_at M rs i) (measure M (row_at M rs i) - 1) ∙ p.monic i (inside i less);
    small = λ i j s i_less j_less differ le.
        ap (λ u. W.coef u (s * W.width + j)) (moved_at rs i) ∙ coef (row_at M rs i) (s * W.width + j)
        ∙ ap (λ w. M.coef (row_at M rs i) (s * w + j)) width
        ∙ p.small i j s (inside i i_less) (inside j j_less) differ
        (subst (λ d. d ≤ s) (ap (row_degree W) (moved_at rs j) ∙ moved_degree (row_at M rs j)) le);
  }
    where
      inside : (i : ℕ) → i < W.width → i < M.width
      inside i less = omega (arith, less, width)

  moved_combine : (rs : List V) (c : ℕ → Pol k) → ι (combine M c rs) ≡ combine W c (moved rs)
  moved_combine [] c = moved_zero
  moved_combine (r ∷ rs) c = moved_add (M.◌·◌ (c zero) r) (combine M (tail_of c) rs)
      ∙ ap₂ W.◌⊞◌ (moved_scale (c zero) r) (moved_combine rs (tail_of c))

  pub span_moved : (rs : List V) (v : V) → InSpan M rs v → InSpan W (moved rs) (ι v)
  span_moved rs v h = record { coefficients = h.coefficients; is = ap ι h.is ∙ moved_combine rs h.coefficients }

  pub span_back : (rs : List V) (v : V) → InSpan W (moved rs) (ι v) → InSpan M rs v
  span_back rs v h = record {
    coefficients = h.coefficients;
    is = moved_injective v (combine M h.coefficients rs) (h.is ∙ sym (moved_combine rs h.coefficients));
  }
