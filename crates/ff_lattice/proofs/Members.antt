-- The span over k[x] of rows over a polynomial: the functions v/e with v in the module that the rows span.
use Rattle.std.proofs.Common.{◌≡◌, ℕ, zero, suc, List, [], ◌∷◌, map, refl, sym, ◌∙◌, ap, ap₂, subst, All, ◌↔◌}
use Rattle.std.proofs.lemmas.List.Elements.{All-nil, All-cons}
use Rattle.ring_lemmas.specs.Ring.{CommRing}
use Rattle.ring_lemmas.specs.Rows.{Row}
use Rattle.ring_theory.specs.Subsets.{IsSubring, IsModule, Span}
use Rattle.ring_theory.proofs.Subsets.{span_zero, span_sum, span_scale, span_head, span_tail, span_least}
use Rattle.ff_fields.specs.Field.{CodeField}
use Rattle.ff_fields.specs.Code.{code_ring}
use Rattle.ff_poly.specs.Polynomials.{Polynomial, polynomials}
use Rattle.function_field.specs.Functions.{Equation, FunctionOf, ring_of, of_poly, over, IsPolynomial}
use Rattle.function_field.proofs.ScalarRings.{polynomials_subring}
use Rattle.popov_theory.specs.Module.{PolynomialModule}
use Rattle.popov_theory.specs.Span.{row_at, InSpan}
use Rattle.popov_theory.specs.Span as theory
use Rattle.popov_theory.proofs.Span as spans
use Rattle.popov_theory.specs.RowModule.{row_module}
use Rattle.popov_theory.proofs.PolynomialRows.{row_module_zero, row_module_add, row_module_scale}
use Rattle.ff_lattice.proofs.Fracs.{over_zero, over_add, over_scale, over_injective}

module _ {k : CodeField} (c : Equation k) where
  -- the rows of the numerators
  abbrev pub rows_over : PolynomialModule (code_ring k) (Row (Polynomial k) (suc c.lower_degree))
  rows_over = row_module (code_ring k) c.lower_degree

  abbrev M : PolynomialModule (code_ring k) (Row (Polynomial k) (suc c.lower_degree))
  M = row_module (code_ring k) c.lower_degree

  abbrev F : CommRing (FunctionOf c)
  F = ring_of c

  module _ (e : Polynomial k) (some : ¬ (e ≡ (polynomials k).𝟘)) where
    abbrev frac : Row (Polynomial k) (suc c.lower_degree) → FunctionOf c
    frac v = over c v e some

    -- the rows over e
    abbrev pub overs : List (Row (Polynomial k) (suc c.lower_degree)) → List (FunctionOf c)
    overs rs = map (λ v. over c v e some) rs

    -- z is v/e with v in the span of the rows
    pub record Member (rs : List (Row (Polynomial k) (suc c.lower_degree))) (z : FunctionOf c) : Type 0 where
      pub numerator : Row (Polynomial k) (suc c.lower_degree)
      pub in_rows : InSpan (row_module (code_ring k) c.lower_degree) rs numerator
      pub is : z ≡ over c numerator e some

    frac_zero : frac M.𝟎 ≡ F.𝟘
    frac_zero = ap frac (row_module_zero (code_ring k) c.lower_degree) ∙ over_zero c e some

    pub frac_add : (u v : Row (Polynomial k) (suc c.lower_degree)) → F.◌⊕◌ (frac u) (frac v) ≡ frac (M.◌⊞◌ u v)
    frac_add u v = over_add c u v e some ∙ ap frac (sym (row_module_add (code_ring k) c.lower_degree u v))

    pub frac_scale : (a : Polynomial k) (v : Row (Polynomial k) (suc c.lower_degree))
        → F.◌⊗◌ (of_poly c a) (frac v) ≡ frac (M.◌·◌ a v)
    frac_scale a v = over_scale c a v e some ∙ ap frac (sym (row_module_scale (code_ring k) c.lower_degree a v))

    pub member_module : (rs : List (Row (Polynomial k) (suc c.lower_degree)))
        → IsModule F.ops (IsPolynomial c) (Member rs)
    member_module rs = record {
      zero_in = record { numerator = M.𝟎; in_rows = spans.span_zero M rs; is = sym frac_zero };
      sum_in = λ a b h g. record {
        numerator = M.◌⊞◌ h.numerator g.numerator;
        in_rows = spans.span_add M rs h.numerator g.numerator h.in_rows g.in_rows;
        is = ap₂ F.◌⊕◌ h.is g.is ∙ frac_add h.numerator g.numerator;
      };
      scale_in = λ s a m h. record {
        numerator = M.◌·◌ m.polynomial h.numerator;
        in_rows = spans.span_scale M rs m.polynomial h.numerator h.in_rows;
        is = ap₂ F.◌⊗◌ m.value h.is ∙ frac_scale m.polynomial h.numerator;
      };
    }

    all_members : (rs ss : List (Row (Polynomial k) (suc c.lower_degree))) → ((i : ℕ) → InSpan M rs (row_at M ss i))
        → All (Member rs) (overs ss)
    all_members rs [] h = All-nil (Member rs)
    all_members rs (s ∷ ss) h =
        All-cons (Member rs) (frac s) (overs ss) (record { numerator = s; in_rows = h zero; is = refl })
        (all_members rs ss (λ i. h (suc i)))

    abbrev 𝓢 : IsSubring F.ops (IsPolynomial c)
    𝓢 = polynomials_subring c

    frac_rows : (rs : List (Row (Polynomial k) (suc c.lower_degree))) (i : ℕ)
        → Span F.ops (IsPolynomial c) (overs rs) (frac (row_at M rs i))
    frac_rows [] i = frac_zero
    frac_rows (r ∷ rs) zero = span_head F (IsPolynomial c) 𝓢 (frac r) (overs rs)
    frac_rows (r ∷ rs) (suc i) = span_tail F (IsPolynomial c) 𝓢 (frac r) (overs rs) (frac (row_at M rs i))
        (frac_rows rs i)

    frac_span : (rs : List (Row (Polynomial k) (suc c.lower_degree))) (v : Row (Polynomial k) (suc c.lower_degree))
        → InSpan M rs v → Span F.ops (IsPolynomial c) (overs rs) (frac v)
    frac_span rs = spans.span_least M N 𝓝 rs (frac_rows rs)
      where
        N : Row (Polynomial k) (suc c.lower_degree) → Type 0
        N v = Span F.ops (IsPolynomial c) (overs rs) (frac v)

        𝓝 : theory.IsSubmodule M (λ v. Span F.ops (IsPolynomial c) (overs rs) (frac v))
        𝓝 = record {
          zero_in = subst (Span F.ops (IsPolynomial c) (overs rs)) (sym frac_zero)
              (span_zero F (IsPolynomial c) 𝓢 (overs rs));
          sum_in = λ u v u_in v_in. subst (Span F.ops (IsPolynomial c) (overs rs)) (frac_add u v)
              (span_sum F (IsPolynomial c) 𝓢 (overs rs) (frac u) (frac v) u_in v_in);
          scale_in = λ a v v_in.
              subst (Span F.ops (IsPolynomial c) (overs rs)) (frac_scale a v)
              (span_scale F (IsPolynomial c) 𝓢 (overs rs) (of_poly c a) (frac v)
              (record { polynomial = a; value = refl }) v_in);
        }

    -- the span is the set of these members
    pub span_member : (rs : List (Row (Polynomial k) (suc c.lower_degree))) (z : FunctionOf c)
        → Span F.ops (IsPolynomial c) (overs rs) z ↔ Member rs z
    span_member rs z = (
      span_least F (IsPolynomial c) 𝓢 (Member rs) (member_module rs) (overs rs)
          (all_members rs rs (spans.span_row M rs)) z,
      λ h. subst (Span F.ops (IsPolynomial c) (overs rs)) (sym h.is) (frac_span rs h.numerator h.in_rows),
    )

    -- v/e is a member exactly where v is in the span of the rows
    pub member_numerator : (rs : List (Row (Polynomial k) (suc c.lower_degree)))
        (v : Row (Polynomial k) (suc c.lower_degree)) → Member rs (over c v e some) → InSpan M rs v
    member_numerator rs v h = subst (InSpan M rs) (sym (over_injective c v h.numerator e some h.is)) h.in_rows
