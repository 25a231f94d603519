-- What a linear map takes into a span, by a Popov form of the pairs (v, t·(φ v + l)): where the right parts of its
-- first rows are zero, their left parts are the Popov form of these elements.
use Rattle.std.proofs.Common.{◌≡◌, ℕ, suc, ◌<◌, ◌≤◌, ◌+◌, ◌*◌, ◌-◌, ◌/◌, ◌⊎◌, inl, inr, List, length, refl, sym, ◌∙◌, ap, ap₂, arith, subst, add-mul}
use Rattle.std.proofs.lemmas.Bool.{cases_lt}
use Rattle.std.proofs.lemmas.Nat.{div-mul-add}
use Rattle.ring_lemmas.specs.Ring.{TestedRing, IsField, IsDomain}
use Rattle.ring_lemmas.proofs.Ring.{field_domain}
use Rattle.ring_lemmas.proofs.Rows.{pair_path}
use Rattle.ring_lemmas.specs.Polynomials.{Pol}
use Rattle.ring_theory.specs.PolynomialRing.{pol_ring}
use Rattle.popov_theory.specs.Module.{PolynomialModule, measure, row_degree, column}
use Rattle.popov_theory.specs.Span.{row_at, InSpan, IsSubmodule}
use Rattle.popov_theory.specs.Popov.{IsPopov, Leading}
use Rattle.popov_theory.proofs.Module.{v_sub_sub, v_add_zero, v_zero_add, v_add_add, scale_zero, zero_scale, scale_add, scale_scale, v_add_neg, v_eq_of_sub, v_neg_neg}
use Rattle.popov_theory.proofs.Positions.{column_at}
use Rattle.popov_theory.proofs.Span.{span_submodule, neg_in, sub_in, span_zero, span_add, span_scale, span_row, span_least}
use Rattle.popov_theory.proofs.PopovForm.{popov_weak, popov_leading, row_past, popov_measure, tabulate, tabulate_at, tabulate_length}
use Rattle.popov_theory.proofs.Division.{normal_form, normal_form_reduced, difference_in, in_span_from_normal, reduced_in_span}
use Rattle.popov_theory.proofs.Dimension.{units, units_at, units_length, in_units}
use Rattle.popov_theory.proofs.Product.{product_zero, product_width, product_left, product_right, product_add, product_scale}
use Rattle.popov_theory.proofs.Kernel.{W, IsLinear, measure_first}

module _ {A V U : Type 0} {k : TestedRing A} (M : PolynomialModule k V) (N : PolynomialModule k U)
    (field : IsField k.ops) (φ : V → U) (linear : IsLinear M N φ) (ls : List U)
    (t : Pol k) (cancel : (u : U) → N.◌·◌ t u ≡ N.𝟎 → u ≡ N.𝟎) where
  abbrev W₀ : PolynomialModule k (V × U)
  W₀ = W M N

  abbrev domain : IsDomain k.ops
  domain = field_domain k.ring field

  -- what φ takes into the span
  abbrev pub Kernel : V → Type 0
  Kernel v = InSpan N ls (φ v)

  -- the pairs (v, t·(φ v + l)) with l in the span
  pub record Twisted (p : V × U) : Type 0 where
    pub offset : U
    pub offset_in : InSpan N ls offset
    pub is : p.1 ≡ N.◌·◌ t (N.◌⊞◌ (φ p.0) offset)

  φ_zero : φ M.𝟎 ≡ N.𝟎
  φ_zero = ap φ (sym (zero_scale M M.𝟎)) ∙ linear.scale (pol_ring k).𝟘 M.𝟎 ∙ zero_scale N (φ M.𝟎)

  swapped : (c : Pol k) (u : U) → N.◌·◌ c (N.◌·◌ t u) ≡ N.◌·◌ t (N.◌·◌ c u)
  swapped c u = sym (scale_scale N c t u) ∙ ap (λ p. N.◌·◌ p u) ((pol_ring k).mul_comm c t) ∙ scale_scale N t c u

  -- (v, 0) is twisted just where φ takes v into the span
  pub twisted_zero : (v : V) → InSpan N ls (φ v) → Twisted (v, N.𝟎)
  twisted_zero v v_in = record {
    offset = N.⊟◌ (φ v);
    offset_in = neg_in N (InSpan N ls) (span_submodule N ls) (φ v) v_in;
    is = sym (ap (N.◌·◌ t) (v_add_neg N (φ v)) ∙ scale_zero N t);
  }

  from_twisted_zero : (v : V) → Twisted (v, N.𝟎) → InSpan N ls (φ v)
  from_twisted_zero v h =
      subst (InSpan N ls)
      (sym (v_eq_of_sub N (φ v) (N.⊟◌ h.offset)
      (ap (λ y. N.◌⊞◌ (φ v) y) (v_neg_neg N h.offset) ∙ cancel (N.◌⊞◌ (φ v) h.offset) (sym h.is))))
      (neg_in N (InSpan N ls) (span_submodule N ls) h.offset h.offset_in)

  pub twisted_submodule : IsSubmodule W₀ Twisted
  twisted_submodule = record {
    zero_in = subst Twisted (sym (product_zero M N)) (record {
      offset = N.𝟎;
      offset_in = span_zero N ls;
      is = sym (ap (N.◌·◌ t) (ap (λ y. N.◌⊞◌ y N.𝟎) φ_zero ∙ v_add_zero N N.𝟎) ∙ scale_zero N t);
    });
    sum_in = λ p q p_in q_in. subst Twisted (sym (product_add M N p q)) (record {
      offset = N.◌⊞◌ p_in.offset q_in.offset;
      offset_in = span_add N ls p_in.offset q_in.offset p_in.offset_in q_in.offset_in;
      is =
          ap₂ N.◌⊞◌ p_in.is q_in.is ∙ sym (scale_add N t _ _)
          ∙ ap (N.◌·◌ t) (v_add_add N _ _ _ _
          ∙ ap (λ y. N.◌⊞◌ y (N.◌⊞◌ p_in.offset q_in.offset)) (sym (linear.add p.0 q.0)));
    });
    scale_in = λ c p p_in. subst Twisted (sym (product_scale M N c p)) (record {
      offset = N.◌·◌ c p_in.offset;
      offset_in = span_scale N ls c p_in.offset p_in.offset_in;
      is =
          ap (N.◌·◌ c) p_in.is ∙ swapped c (N.◌⊞◌ (φ p.0) p_in.offset)
          ∙ ap (N.◌·◌ t) (scale_add N c (φ p.0) p_in.offset
          ∙ ap (λ y. N.◌⊞◌ y (N.◌·◌ c p_in.offset)) (sym (linear.scale c p.0)));
    });
  }

  pub twisted_first : (v : V) → Twisted (v, N.◌·◌ t (φ v))
  twisted_first v = record { offset = N.𝟎; offset_in = span_zero N ls; is = ap (N.◌·◌ t) (sym (v_add_zero N (φ v))) }

  pub twisted_second : (l : U) → InSpan N ls l → Twisted (M.𝟎, N.◌·◌ t l)
  twisted_second l l_in = record {
    offset = l;
    offset_in = l_in;
    is = ap (N.◌·◌ t) (sym (ap (λ y. N.◌⊞◌ y l) φ_zero ∙ v_zero_add N l));
  }

  -- rows that have a generator for each column and one for each row of the list generate the twisted pairs
  module _ (gs : List (V × U)) (firsts : (i : ℕ) → i < M.width → InSpan W₀ gs (M.unit i, N.◌·◌ t (φ (M.unit i))))
      (seconds : (i : ℕ) → InSpan W₀ gs (M.𝟎, N.◌·◌ t (row_at N ls i))) where
    First : V → Type 0
    First v = InSpan W₀ gs (v, N.◌·◌ t (φ v))

    first_in : (v : V) → First v
    unfolding First
    first_in v = span_least M First 𝓕 (units M) (λ i. rows i (cases_lt i M.width)) v (in_units M field v)
      where
        𝓕 : IsSubmodule M First
        𝓕 = record {
          zero_in = subst (InSpan W₀ gs)
              (product_zero M N ∙ pair_path refl (sym (ap (N.◌·◌ t) φ_zero ∙ scale_zero N t))) (span_zero W₀ gs);
          sum_in = λ u v u_in v_in.
              subst (InSpan W₀ gs)
              (product_add M N (u, N.◌·◌ t (φ u)) (v, N.◌·◌ t (φ v))
              ∙ pair_path refl (sym (ap (N.◌·◌ t) (linear.add u v) ∙ scale_add N t (φ u) (φ v))))
              (span_add W₀ gs (u, N.◌·◌ t (φ u)) (v, N.◌·◌ t (φ v)) u_in v_in);
          scale_in = λ c v v_in.
              subst (InSpan W₀ gs)
              (product_scale M N c (v, N.◌·◌ t (φ v))
              ∙ pair_path refl (swapped c (φ v) ∙ ap (N.◌·◌ t) (sym (linear.scale c v))))
              (span_scale W₀ gs c (v, N.◌·◌ t (φ v)) v_in);
        }

        rows : (i : ℕ) → (i < M.width) ⊎ (M.width ≤ i) → First (row_at M (units M) i)
        rows i (inl less) = subst First (sym (units_at M i less)) (firsts i less)
        rows i (inr more) = subst First (sym (row_past M (units M) i (omega (arith, more, units_length M)))) 𝓕.zero_in

    Second : U → Type 0
    Second u = InSpan W₀ gs (M.𝟎, N.◌·◌ t u)

    second_in : (u : U) → InSpan N ls u → Second u
    unfolding Second
    second_in = span_least N Second 𝓢 ls seconds
      where
        𝓢 : IsSubmodule N Second
        𝓢 = record {
          zero_in = subst (InSpan W₀ gs) (product_zero M N ∙ pair_path refl (sym (scale_zero N t))) (span_zero W₀ gs);
          sum_in = λ u v u_in v_in.
              subst (InSpan W₀ gs)
              (product_add M N (M.𝟎, N.◌·◌ t u) (M.𝟎, N.◌·◌ t v)
              ∙ pair_path (v_add_zero M M.𝟎) (sym (scale_add N t u v)))
              (span_add W₀ gs (M.𝟎, N.◌·◌ t u) (M.𝟎, N.◌·◌ t v) u_in v_in);
          scale_in = λ c u u_in.
              subst (InSpan W₀ gs)
              (product_scale M N c (M.𝟎, N.◌·◌ t u) ∙ pair_path (scale_zero M c) (swapped c u))
              (span_scale W₀ gs c (M.𝟎, N.◌·◌ t u) u_in);
        }

    pub twisted_in : (q : V × U) → Twisted q → InSpan W₀ gs q
    unfolding First Second
    twisted_in q h =
        subst (InSpan W₀ gs)
        (product_add M N (q.0, N.◌·◌ t (φ q.0)) (M.𝟎, N.◌·◌ t h.offset)
        ∙ pair_path (v_add_zero M q.0) (sym (scale_add N t (φ q.0) h.offset) ∙ sym h.is))
        (span_add W₀ gs (q.0, N.◌·◌ t (φ q.0)) (M.𝟎, N.◌·◌ t h.offset) (first_in q.0) (second_in h.offset h.offset_in))

  module _ (rs : List (V × U)) (p : IsPopov W₀ rs) (left : (q : V × U) → InSpan W₀ rs q → Twisted q)
      (right : (q : V × U) → Twisted q → InSpan W₀ rs q)
      (right_zero : (i : ℕ) → i < M.width → (row_at W₀ rs i).1 ≡ N.𝟎) where
    w_less : (i : ℕ) → i < M.width → i < W₀.width
    w_less i less = omega (arith, less, product_width M N)

    pair_off : (z : V) (s j : ℕ) → j < W₀.width → M.width ≤ j → W₀.coef (z, N.𝟎) (s * W₀.width + j) ≡ k.𝟘
    pair_off z s j less le =
        ap (λ i. W₀.coef (z, N.𝟎) (s * W₀.width + i)) (omega (arith, le))
        ∙ product_right M N (z, N.𝟎) s (j - M.width) (omega (arith, less, le, product_width M N)) ∙ N.coef_zero _

    -- the left parts of the first rows
    pub kernel_rows : List V
    kernel_rows = tabulate M.width (λ i. (row_at W₀ rs i).0)

    pub kernel_at : (i : ℕ) → i < M.width → row_at M kernel_rows i ≡ (row_at W₀ rs i).0
    unfolding kernel_rows
    kernel_at i less = tabulate_at M M.width (λ i. (row_at W₀ rs i).0) i less

    pub kernel_length : length kernel_rows ≡ M.width
    unfolding kernel_rows
    kernel_length = tabulate_length M M.width (λ i. (row_at W₀ rs i).0)

    first_measure : (i : ℕ) → i < M.width
        → measure M (row_at M kernel_rows i) ≡ suc (row_degree W₀ (row_at W₀ rs i) * M.width + i)
    first_measure i less =
        ap (measure M) (kernel_at i less)
        ∙ measure_first M N (row_at W₀ rs i).0 (row_at W₀ rs i).1 (row_degree W₀ (row_at W₀ rs i)) i less
        (popov_measure W₀ rs p i (w_less i less))

    first_degree : (i : ℕ) → i < M.width → row_degree M (row_at M kernel_rows i) ≡ row_degree W₀ (row_at W₀ rs i)
    first_degree i less =
        let d = row_degree W₀ (row_at W₀ rs i) in
        let back : suc (d * M.width + i) - 1 ≡ d * M.width + i = omega arith in
        ap (λ n. (n - 1) / M.width) (first_measure i less) ∙ ap (λ n. n / M.width) back ∙ div-mul-add d M.width i less

    first_coef : (i s j : ℕ) → i < M.width → j < M.width
        → M.coef (row_at M kernel_rows i) (s * M.width + j) ≡ W₀.coef (row_at W₀ rs i) (s * W₀.width + j)
    first_coef i s j i_less j_less =
        ap (λ v. M.coef v (s * M.width + j)) (kernel_at i i_less) ∙ sym (product_left M N (row_at W₀ rs i) s j j_less)

    pub kernel_popov : IsPopov M kernel_rows
    kernel_popov = record {
      size = kernel_length;
      some = λ i less z. absurd (omega (arith, z, first_measure i less));
      pivot_at = λ i less. ap (column M.width) (first_measure i less)
          ∙ column_at M.width M.positive (row_degree W₀ (row_at W₀ rs i)) i less;
      monic = λ i less.
          let d = row_degree W₀ (row_at W₀ rs i) in
          ap (M.coef (row_at M kernel_rows i)) (omega (arith, first_measure i less))
          ∙ first_coef i d i less less
          ∙ ap (W₀.coef (row_at W₀ rs i)) (omega (arith, popov_measure W₀ rs p i (w_less i less)))
          ∙ p.monic i (w_less i less);
      small = λ i j s i_less j_less differ le.
          first_coef i s j i_less j_less
          ∙ p.small i j s (w_less i i_less) (w_less j j_less) differ (omega (arith, le, first_degree j j_less));
    }

    kernel_submodule : IsSubmodule M Kernel
    kernel_submodule = record {
      zero_in = subst (InSpan N ls) (sym φ_zero) (span_zero N ls);
      sum_in = λ u v u_in v_in. subst (InSpan N ls) (sym (linear.add u v)) (span_add N ls (φ u) (φ v) u_in v_in);
      scale_in = λ c v v_in. subst (InSpan N ls) (sym (linear.scale c v)) (span_scale N ls c (φ v) v_in);
    }

    -- their span is in the kernel
    pub kernel_in : (v : V) → InSpan M kernel_rows v → Kernel v
    kernel_in = span_least M Kernel kernel_submodule kernel_rows (λ i. go i (cases_lt i M.width))
      where
        go : (i : ℕ) → (i < M.width) ⊎ (M.width ≤ i) → Kernel (row_at M kernel_rows i)
        go i (inr more) = subst Kernel (sym (row_past M kernel_rows i (omega (arith, more, kernel_length))))
            kernel_submodule.zero_in
        go i (inl less) =
            subst Kernel (sym (kernel_at i less))
            (from_twisted_zero (row_at W₀ rs i).0
            (subst Twisted (pair_path {a = (row_at W₀ rs i).0} refl (right_zero i less))
            (left (row_at W₀ rs i) (span_row W₀ rs i))))

    -- and is all of it
    pub kernel_all : (v : V) → Kernel v → InSpan M kernel_rows v
    kernel_all v v_in = in_span_from_normal M field kernel_rows v (ap (λ q. q.0) pair_zero)
      where
        ρ : V
        ρ = normal_form M field kernel_rows v

        ρ_in : Kernel ρ
        ρ_in =
            subst Kernel (v_sub_sub M v ρ)
            (sub_in M Kernel kernel_submodule v (M.◌⊞◌ v (M.⊟◌ ρ)) v_in
            (kernel_in _ (difference_in M field kernel_rows v)))

        zero_at : (e : ℕ) → Leading W₀ rs (suc e) → W₀.coef (ρ, N.𝟎) e ≡ k.𝟘
        zero_at e l = subst (λ n. W₀.coef (ρ, N.𝟎) n ≡ k.𝟘) position (at (cases_lt l.index M.width))
          where
            d : ℕ
            d = row_degree W₀ (row_at W₀ rs l.index)

            index_less : l.index < W₀.width
            index_less = omega (arith, l.below, p.size)

            position : (l.times + d) * W₀.width + l.index ≡ e
            position = omega (arith, l.is, popov_measure W₀ rs p l.index index_less, add-mul l.times d W₀.width)

            at : (l.index < M.width) ⊎ (M.width ≤ l.index) → W₀.coef (ρ, N.𝟎) ((l.times + d) * W₀.width + l.index) ≡ k.𝟘
            at (inr out) = pair_off ρ (l.times + d) l.index index_less out
            at (inl less) =
                product_left M N (ρ, N.𝟎) (l.times + d) l.index less
                ∙ (normal_form_reduced M field kernel_rows v).zero_at ((l.times + d) * M.width + l.index)
                (popov_leading M kernel_rows kernel_popov l.index (l.times + d) less
                (omega (arith, first_degree l.index less)))

        pair_zero : ◌≡◌ {A = V × U} (ρ, N.𝟎) (M.𝟎, N.𝟎)
        pair_zero =
            reduced_in_span W₀ domain rs (popov_weak W₀ rs p) (ρ, N.𝟎) (right (ρ, N.𝟎) (twisted_zero ρ ρ_in))
            (record { zero_at = zero_at })
            ∙ product_zero M N
