-- Functions over one denominator d as rows of polynomials: spans of functions are those of their rows.
use Rattle.std.proofs.Common.{◌≡◌, ℕ, zero, suc, List, [], ◌∷◌, map, refl, sym, ◌∙◌, ap, ap₂, subst}
use Rattle.ring_lemmas.specs.Lists.{tail_of}
use Rattle.ring_lemmas.specs.Rows.{Row, row_zero, row_scale}
use Rattle.ring_theory.specs.Subsets.{Span}
use Rattle.ring_lemmas.proofs.Ring.{domain_cancel, product_not_zero, zero_mul}
use Rattle.ring_lemmas.proofs.Rows.{pair_path, row_scale_add, row_scale_scale, row_zero_scale}
use Rattle.popov_theory.specs.Module.{PolynomialModule}
use Rattle.popov_theory.specs.Span.{combine, InSpan}
use Rattle.popov_theory.specs.RowModule.{row_module}
use Rattle.popov_theory.proofs.PolynomialRows.{row_module_zero, row_module_add, row_module_scale}
use Rattle.popov_theory.proofs.Span.{span_zero, span_add, span_scale, span_head, span_later}
use Rattle.ff_fields.specs.Field.{CodeField}
use Rattle.ff_fields.specs.Code.{code_ring}
use Rattle.ff_poly.specs.Polynomials.{Polynomial, polynomials, polynomials_domain}
use Rattle.function_field.specs.Functions.{Equation, FunctionOf, ring_of, row_of, of_poly, over, IsPolynomial}
use Rattle.function_field.proofs.OnSide.{of_poly_zero}
use Rattle.function_field.proofs.ScalarRings.{bottoms_not_zero}
use Rattle.trace_theory.proofs.FunctionTraces.{over_sum, over_product, over_eq, over_same, row_of_times, as_row}

-- a factor other than 0 cancels
row_cancel : (k : CodeField) (n : ℕ) (d : Polynomial k) (v w : Row (Polynomial k) n) → ¬ (d ≡ (polynomials k).𝟘)
    → row_scale (polynomials k).ops n d v ≡ row_scale (polynomials k).ops n d w → v ≡ w
unfolding row_scale
row_cancel k zero d v w some h = refl
row_cancel k (suc m) d (a, v) (b, w) some h =
    pair_path (domain_cancel (polynomials k).ring (polynomials_domain k) d a b some (ap (λ t. t.0) h))
    (row_cancel k m d v w some (ap (λ t. t.1) h))

module _ {k : CodeField} (c : Equation k) where
  infixl 65 ◌⊕◌
  infixl 70 ◌⊗◌
  open ring_of c use {𝟘, 𝟙, ◌⊕◌, ◌⊗◌}

  abbrev pub Rows : Type 0
  Rows = Row (Polynomial k) (suc c.lower_degree)

  -- the rows as a module over the polynomials
  abbrev pub module_of : PolynomialModule (code_ring k) Rows
  module_of = row_module (code_ring k) c.lower_degree

  module _ (d : Polynomial k) (n : ¬ (d ≡ (polynomials k).𝟘)) where
    -- v/d
    abbrev pub part : Rows → FunctionOf c
    part v = over c v d n

    pub part_add : (u v : Rows) → part (module_of.◌⊞◌ u v) ≡ part u ⊕ part v
    part_add u v =
        ap part (row_module_add (code_ring k) c.lower_degree u v)
        ∙ sym (over_sum c u v d d n n
        ∙ over_eq c _ _ _ d (bottoms_not_zero c d d n n) n
        (ap (row_scale (polynomials k).ops (suc c.lower_degree) d)
        (sym (row_scale_add (polynomials k).ring (suc c.lower_degree) d u v))
        ∙ sym (row_scale_scale (polynomials k).ring (suc c.lower_degree) d d _)))

    pub part_scale : (a : Polynomial k) (v : Rows) → part (module_of.◌·◌ a v) ≡ of_poly c a ⊗ part v
    part_scale a v =
        ap part (row_module_scale (code_ring k) c.lower_degree a v)
        ∙ sym (over_product c (row_of c a) v (polynomials k).𝟙 d (polynomials_domain k).one_not_zero n
        ∙ over_eq c _ _ _ d _ n
        (ap (row_scale (polynomials k).ops (suc c.lower_degree) d) (row_of_times c a v)
        ∙ ap (λ e. row_scale (polynomials k).ops (suc c.lower_degree) e
        (row_scale (polynomials k).ops (suc c.lower_degree) a v))
        (sym ((polynomials k).mul_comm (polynomials k).𝟙 d ∙ (polynomials k).mul_one d))))

    pub part_zero : part module_of.𝟎 ≡ 𝟘
    part_zero =
        ap part (row_module_zero (code_ring k) c.lower_degree
        ∙ sym (row_zero_scale (polynomials k).ring (suc c.lower_degree)
        (row_zero (polynomials k).ops (suc c.lower_degree)))
        ∙ sym (row_module_scale (code_ring k) c.lower_degree (polynomials k).𝟘 _))
        ∙ part_scale (polynomials k).𝟘 (row_zero (polynomials k).ops (suc c.lower_degree))
        ∙ ap (λ x. x ⊗ part (row_zero (polynomials k).ops (suc c.lower_degree))) (sym (of_poly_zero c))
        ∙ zero_mul (ring_of c) (part (row_zero (polynomials k).ops (suc c.lower_degree)))

    pub part_same : (u v : Rows) → part u ≡ part v → u ≡ v
    part_same u v e = row_cancel k (suc c.lower_degree) d u v n (over_same c u v d d n n e)

    span_combine : (rs : List Rows) (e : ℕ → Polynomial k)
        → Span (ring_of c).ops (IsPolynomial c) (map part rs) (part (combine module_of e rs))
    span_combine [] e = part_zero
    span_combine (r ∷ rs) e = record {
      scalar = of_poly c (e 0);
      scalar_in = record { polynomial = e 0; value = refl };
      rest = part (combine module_of (tail_of e) rs);
      rest_in = span_combine rs (tail_of e);
      is = part_add _ _ ∙ ap (λ x. x ⊕ part (combine module_of (tail_of e) rs)) (part_scale (e 0) r);
    }

    pub span_of_rows : (rs : List Rows) (v : Rows) → InSpan module_of rs v
        → Span (ring_of c).ops (IsPolynomial c) (map part rs) (part v)
    span_of_rows rs v h =
        subst (Span (ring_of c).ops (IsPolynomial c) (map part rs)) (ap part (sym h.is))
        (span_combine rs h.coefficients)

    pub rows_of_span : (rs : List Rows) (z : FunctionOf c) → Span (ring_of c).ops (IsPolynomial c) (map part rs) z
        → (v : Rows) × InSpan module_of rs v × (z ≡ part v)
    rows_of_span [] z h = (module_of.𝟎, span_zero module_of [], h ∙ sym part_zero)
    rows_of_span (r ∷ rs) z h =
        let s = h.scalar_in in
        let t = rows_of_span rs h.rest h.rest_in in (
          module_of.◌⊞◌ (module_of.◌·◌ s.polynomial r) t.0,
          span_add module_of (r ∷ rs) _ _ (span_scale module_of (r ∷ rs) s.polynomial r (span_head module_of r rs))
              (span_later module_of r rs t.0 t.1),
          h.is ∙ ap₂ ◌⊕◌ (ap (λ x. x ⊗ part r) s.value ∙ sym (part_scale s.polynomial r)) t.2 ∙ sym (part_add _ _),
        )

    pub rows_of_part : (rs : List Rows) (v : Rows) → Span (ring_of c).ops (IsPolynomial c) (map part rs) (part v)
        → InSpan module_of rs v
    rows_of_part rs v h = let t = rows_of_span rs (part v) h in
        subst (InSpan module_of rs) (sym (part_same v t.0 t.2)) t.1

  -- the list is that of rows over d
  pub record OverOne (d : Polynomial k) (n : ¬ (d ≡ (polynomials k).𝟘)) (gs : List (FunctionOf c)) : Type 0 where
    pub rows : List Rows
    pub is : gs ≡ map (part d n) rows

  -- so it is that of rows over a multiple of d
  pub more : (e d d' : Polynomial k) (n : ¬ (d ≡ (polynomials k).𝟘)) (m : ¬ (d' ≡ (polynomials k).𝟘)) → d'
      ≡ (polynomials k).◌⊗◌ e d
      → (gs : List (FunctionOf c)) → OverOne d n gs → OverOne d' m gs
  more e d d' n m product gs h =
      record { rows = map (row_scale (polynomials k).ops (suc c.lower_degree) e) h.rows; is = h.is ∙ go h.rows }
    where
      go : (rs : List Rows) → map (part d n) rs
          ≡ map (part d' m) (map (row_scale (polynomials k).ops (suc c.lower_degree) e) rs)
      go [] = refl
      go (r ∷ rs) =
          ap₂ ◌∷◌
          (over_eq c r _ d _ n m
          (ap (λ a. row_scale (polynomials k).ops (suc c.lower_degree) a r) (product ∙ (polynomials k).mul_comm e d)
          ∙ row_scale_scale (polynomials k).ring (suc c.lower_degree) d e r)) (go rs)

  -- a common denominator
  pub record Common (gs : List (FunctionOf c)) : Type 0 where
    pub den : Polynomial k
    pub not_zero : ¬ (den ≡ (polynomials k).𝟘)
    pub over_one : OverOne den not_zero gs

  pub common : (gs : List (FunctionOf c)) → Common gs
  common [] =
      record {
        den = (polynomials k).𝟙;
        not_zero = (polynomials_domain k).one_not_zero;
        over_one = record { rows = []; is = refl };
      }
  common (g ∷ gs) =
      let r = as_row c g in
      let t = common gs in
      let both = product_not_zero (polynomials_domain k) r.den t.den r.not_zero t.not_zero in
      let u = more r.den t.den ((polynomials k).◌⊗◌ r.den t.den) t.not_zero both refl gs t.over_one in
      record {
        den = (polynomials k).◌⊗◌ r.den t.den;
        not_zero = both;
        over_one = record {
          rows = row_scale (polynomials k).ops (suc c.lower_degree) t.den r.num ∷ u.rows;
          is =
              ap₂ ◌∷◌ (r.is
              ∙ over_eq c r.num _ r.den _ r.not_zero both
              (row_scale_scale (polynomials k).ring (suc c.lower_degree) r.den t.den r.num)) u.is;
        };
      }
