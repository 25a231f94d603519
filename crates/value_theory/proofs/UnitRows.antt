-- The functions with polynomials as coordinates, over a denominator: the lattice of the unit rows, with its pivot
-- degree.
use Rattle.std.proofs.Common.{◌≡◌, ℕ, suc, ◌-◌, ◌<◌, ◌≤◌, ◌⊎◌, inl, inr, ◌↔◌, List, [], ◌∷◌, refl, sym, ◌∙◌, ap, subst, arith}
use Rattle.std.proofs.lemmas.Bool.{cases_lt}
use Rattle.ring_lemmas.specs.Rows.{Row, row_scale}
use Rattle.ff_fields.specs.Field.{CodeField}
use Rattle.ff_fields.specs.Code.{code_ring, code_field}
use Rattle.ff_fields.specs.Over.{IsOver}
use Rattle.ff_poly.specs.Words.{IsMonicList}
use Rattle.ff_poly.specs.Value.{value}
use Rattle.ff_poly.specs.Polynomials.{Polynomial, polynomials, polynomials_domain, value_one}
use Rattle.popov_theory.specs.Module.{PolynomialModule}
use Rattle.popov_theory.specs.Span as theory
use Rattle.popov_theory.proofs.Span as spans
use Rattle.popov_theory.proofs.PopovForm.{row_past}
use Rattle.popov_theory.proofs.Dimension.{units, units_at, units_length, in_units}
use Rattle.ff_popov.specs.Reading.{read_row, row_space, read_rows}
use Rattle.ff_popov.proofs.ReadRows.{read_row_at}
use Rattle.ff_popov.proofs.Measures.{space_width}
use Rattle.function_field.specs.Functions.{over}
use Rattle.function_field.specs.Values.{PresValue, Functions, functions, equation_of}
use Rattle.trace_theory.specs.Traces.{HasPolynomialCoordinates}
use Rattle.infinite_theory.proofs.SupportedLattices.{coordinates_ring}
use Rattle.ff_lattice.specs.Lattices.{LatticeValue, IsLatticeValue, Contains, IsSpannedBy, IsFullLattice, elems_over}
use Rattle.ff_lattice.specs.Orders.{IsOrderLattice}
use Rattle.ff_lattice.specs.Units.{unit_rows}
use Rattle.ff_lattice.proofs.Elements.{in_span_of}
use Rattle.ff_lattice.proofs.Fracs.{over_eq}
use Rattle.ff_lattice.proofs.Normal.{monic_poly}
use Rattle.ff_lattice.proofs.PivotIndices.{IsOverMonic}
use Rattle.ff_lattice.proofs.Preimages.{read_unit}
use Rattle.ff_lattice.proofs.SpannedSets.{full_from_rank}
use Rattle.ff_lattice.proofs.UnitRows.{unit_rows_at, unit_rows_in, unit_popov}

-- the unit rows over a denominator
abbrev pub unit_lattice : ℕ → List ℕ → LatticeValue
unit_lattice n den = record { rows = unit_rows n n; den = den }

module _ (k : CodeField) (p : PresValue) where
  abbrev M : PolynomialModule (code_ring k) (Row (Polynomial k) (suc (p.n - 1)))
  M = row_space k p.n

  abbrev rows : List (List (List ℕ))
  rows = unit_rows p.n p.n

  pub unit_over_monic : (den : List ℕ) → IsOver k.ops den → IsMonicList den → IsOverMonic k p (unit_lattice p.n den)
  unit_over_monic den den_in monic =
      record {
        rows_in = unit_rows_in k p.n;
        popov = unit_popov p.n;
        den_in = den_in;
        den_poly = monic_poly den monic;
        monic = monic;
      }

  module _ (positive : 0 < p.n) where
    -- each row of polynomials is a combination of the unit rows
    pub all_in_units : (v : Row (Polynomial k) (suc (p.n - 1))) → theory.InSpan M (read_rows k p.n rows) v
    all_in_units v =
        spans.span_least M (theory.InSpan M (read_rows k p.n rows)) 𝓢 (units M) (λ i. at i (cases_lt i p.n)) v
        (in_units M (code_field k) v)
      where
        𝓢 : theory.IsSubmodule M (theory.InSpan M (read_rows k p.n rows))
        𝓢 = record {
          zero_in = spans.span_zero M (read_rows k p.n rows);
          sum_in = spans.span_add M (read_rows k p.n rows);
          scale_in = spans.span_scale M (read_rows k p.n rows);
        }

        wide : (row_space k p.n).width ≡ p.n
        wide = let e = space_width k p.n in omega arith

        at : (i : ℕ) → (i < p.n) ⊎ (p.n ≤ i) → theory.InSpan M (read_rows k p.n rows) (theory.row_at M (units M) i)
        at i (inl less) =
            subst (theory.InSpan M (read_rows k p.n rows))
            (read_row_at k p.n rows i ∙ ap (read_row k (suc (p.n - 1))) (unit_rows_at p.n p.n i less)
            ∙ read_unit k p.n i positive less
            ∙ sym (units_at M i (omega (arith, wide))))
            (spans.span_row M (read_rows k p.n rows) i)
        at i (inr more) =
            subst (theory.InSpan M (read_rows k p.n rows))
            (sym (row_past M (units M) i (omega (arith, wide, units_length M))))
            (spans.span_zero M (read_rows k p.n rows))

    module _ (den : List ℕ) (some : ¬ (value k den ≡ (polynomials k).𝟘)) where
      -- each row over the denominator is a member, and there are no others
      pub unit_members : (v : Row (Polynomial k) (suc (p.n - 1)))
          → Contains k p (unit_lattice p.n den) (over (equation_of k p) v (value k den) some)
      unit_members v =
          (in_span_of k p den some rows _).1 (record { numerator = v; in_rows = all_in_units v; is = refl })

      pub unit_numerator : (z : Functions k p) → Contains k p (unit_lattice p.n den) z
          → (v : Row (Polynomial k) (suc (p.n - 1))) × (z ≡ over (equation_of k p) v (value k den) some)
      unit_numerator z h = let m = (in_span_of k p den some rows z).0 h in (m.numerator, m.is)

      pub unit_full : IsFullLattice k p (Contains k p (unit_lattice p.n den))
      unit_full =
          full_from_rank k p den some rows
          (record {
            multiple = λ v.
                record {
                  factor = (polynomials k).𝟙;
                  some = (polynomials_domain k).one_not_zero;
                  in_span = all_in_units (M.◌·◌ (polynomials k).𝟙 v);
                };
          })

    one_some : ¬ (value k (1 ∷ []) ≡ (polynomials k).𝟘)
    one_some e = (polynomials_domain k).one_not_zero (sym (value_one k) ∙ e)

    -- over 1 they are the functions with polynomials as coordinates
    pub coordinate_members : (z : Functions k p) → Contains k p (unit_lattice p.n (1 ∷ [])) z
        ↔ HasPolynomialCoordinates (equation_of k p) z
    coordinate_members z = (
      λ h. let t = unit_numerator (1 ∷ []) one_some z h in record { coordinates = t.0; value = t.1 ∙ same_over t.0 },
      λ h. subst (Contains k p (unit_lattice p.n (1 ∷ []))) (sym (h.value ∙ sym (same_over h.coordinates)))
          (unit_members (1 ∷ []) one_some h.coordinates),
    )
      where
        same_over : (v : Row (Polynomial k) (suc (p.n - 1)))
            → over (equation_of k p) v (value k (1 ∷ [])) one_some ≡ over (equation_of k p) v (polynomials k).𝟙
            (polynomials_domain k).one_not_zero
        same_over v =
            over_eq (equation_of k p) v v (value k (1 ∷ [])) (polynomials k).𝟙 one_some
            (polynomials_domain k).one_not_zero
            (ap (λ d. row_scale (polynomials k).ops (suc (p.n - 1)) d v) (sym (value_one k)))

    -- what the unit rows span over 1 are these functions, and they are an order
    pub coordinate_lattice : (l : LatticeValue) → IsSpannedBy k p.n (elems_over (unit_rows p.n p.n) (1 ∷ [])) l
        → (z : Functions k p) → Contains k p l z ↔ HasPolynomialCoordinates (equation_of k p) z
    coordinate_lattice l spanned z =
        let s = spanned.members p refl z in
        let m = coordinate_members z in (
          λ h. m.0 (s.0 h),
          λ h. s.1 (m.1 h),
        )

    pub coordinate_order : (l : LatticeValue) → IsLatticeValue k.ops p.n l
        → IsSpannedBy k p.n (elems_over (unit_rows p.n p.n) (1 ∷ [])) l → IsOrderLattice k p l
    coordinate_order l form spanned = record {
      lattice = form;
      one_in = (members (functions k p).𝟙).1 (coordinates_ring (equation_of k p)).one_in;
      product_in = λ u v u_in v_in.
          (members _).1 ((coordinates_ring (equation_of k p)).product_in u v ((members u).0 u_in) ((members v).0 v_in));
    }
      where
        members : (z : Functions k p) → Contains k p l z ↔ HasPolynomialCoordinates (equation_of k p) z
        members = coordinate_lattice l spanned
