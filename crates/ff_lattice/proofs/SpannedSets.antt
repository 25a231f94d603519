-- The sets of functions that rows over a polynomial span: common factors, rows with the same lattice, and full rank.
use Rattle.std.proofs.Common.{◌≡◌, ℕ, suc, ◌-◌, ◌<◌, ◌↔◌, List, [], ◌∷◌, length, map, refl, sym, ◌∙◌, ap, ap₂, subst, All}
use Rattle.std.proofs.lemmas.List.Elements.{All-nil, All-cons, All-head, All-tail}
use Rattle.ring_lemmas.specs.Ring.{CommRing}
use Rattle.ring_lemmas.specs.Rows.{Row, row_scale}
use Rattle.ring_theory.specs.Subsets.{Span}
use Rattle.ring_lemmas.proofs.Ring.{product_not_zero}
use Rattle.ring_lemmas.proofs.Rows.{row_scale_scale}
use Rattle.ff_fields.specs.Field.{CodeField}
use Rattle.ff_fields.specs.Code.{code_ring, code_field}
use Rattle.ff_fields.specs.Over.{IsOver}
use Rattle.ff_poly.specs.Words.{IsPoly, IsMonicList, product_of}
use Rattle.ff_poly.specs.Value.{value, value_product}
use Rattle.ff_poly.specs.Polynomials.{Polynomial, polynomials, polynomials_domain, codes_of, IsOver_codes_of, IsPoly_codes_of, value_codes_of, value_nil}
use Rattle.ff_poly.specs.Popov.{row_at, IsRow, IsPopovMatrix, multiple_of_row, HaveSameRowSpan}
use Rattle.ff_poly.specs.Popov as codes
use Rattle.ff_poly.proofs.Parts.{IsPoly_product_of}
use Rattle.popov_theory.specs.Module.{PolynomialModule}
use Rattle.popov_theory.specs.Span as theory
use Rattle.popov_theory.proofs.Span.{span_scale}
use Rattle.popov_theory.proofs.Existence.{rank_from_full}
use Rattle.ff_popov.proofs.PopovBasis.{basis_weak, basis_full}
use Rattle.popov_theory.proofs.PolynomialRows.{row_module_scale}
use Rattle.ff_popov.specs.Reading.{read_row, row_space, read_rows}
use Rattle.ff_popov.proofs.ReadRows.{read_multiple}
use Rattle.ff_popov.proofs.Spans.{from_space, space_multiple, multiple_row}
use Rattle.function_field.specs.Functions.{Equation, RowOver, of_poly, over, IsPolynomial}
use Rattle.function_field.specs.Values.{PresValue, Functions, functions, function_of, equation_of}
use Rattle.function_field.proofs.Stages.{row_of_function}
use Rattle.ff_lattice.specs.Lattices.{LatticeValue, IsLatticeValue, elems_over, InSpanOf, Contains, HasMultipleInLattice, IsFullLattice, IsSpannedBy}
use Rattle.ff_lattice.proofs.Normal.{monic_poly, popov_poly}
use Rattle.ff_lattice.specs.Steps.{IsReducedTo}
use Rattle.ff_lattice.proofs.Fracs.{over_eq, over_scale}
use Rattle.ff_lattice.proofs.Members.{Member, member_numerator}
use Rattle.ff_lattice.proofs.Elements.{elem_over, in_span_of}
use Rattle.ff_lattice.proofs.Divisors.{monic_value}
use Rattle.ff_lattice.proofs.Spaces.{same_space}

-- a list of polynomials, none with a zero on top
pub polys_at : (rows : List (List (List ℕ))) → All (All IsPoly) rows → (i : ℕ) → i < length rows
    → All IsPoly (row_at rows i)
polys_at rows all i less = all i [] less

pub multiple_poly : (k : CodeField) (c : List ℕ) (v : List (List ℕ)) → All IsPoly (multiple_of_row k.ops c v)
multiple_poly k c [] = All-nil IsPoly
multiple_poly k c (a ∷ v) = All-cons IsPoly (product_of k.ops c a) (multiple_of_row k.ops c v)
    (IsPoly_product_of k.ops c a) (multiple_poly k c v)

module _ (k : CodeField) (p : PresValue) where
  abbrev c : Equation k
  c = equation_of k p

  abbrev S : CommRing (Polynomial k)
  S = (polynomials k).ring

  abbrev n : ℕ
  n = suc (p.n - 1)

  abbrev M : PolynomialModule (code_ring k) (Row (Polynomial k) (suc (p.n - 1)))
  M = row_space k p.n

  -- a common factor of the rows and the denominator
  pub factor_elem : (g den : List ℕ) (v : List (List ℕ)) → IsOver k.ops g → IsOver k.ops den → All (IsOver k.ops) v
      → ¬ (value k g ≡ (polynomials k).𝟘) → ¬ (value k den ≡ (polynomials k).𝟘)
      → function_of k p (record { num = multiple_of_row k.ops g v; den = product_of k.ops g den })
      ≡ function_of k p (record { num = v; den = den })
  factor_elem g den v g_in den_in v_in g_some den_some =
      elem_over k p (product_of k.ops g den) both_some (multiple_of_row k.ops g v)
      ∙ over_eq c (read_row k n (multiple_of_row k.ops g v)) (read_row k n v) (value k (product_of k.ops g den))
      (value k den) both_some den_some
      (ap (row_scale S.ops n (value k den)) (read_multiple k n g v g_in v_in)
      ∙ sym (row_scale_scale S n (value k den) (value k g) (read_row k n v))
      ∙ ap (λ d. row_scale S.ops n d (read_row k n v))
      (S.mul_comm (value k den) (value k g) ∙ sym (value_product k g den g_in den_in)))
      ∙ sym (elem_over k p den den_some v)
    where
      both_some : ¬ (value k (product_of k.ops g den) ≡ (polynomials k).𝟘)
      both_some e = product_not_zero (polynomials_domain k) (value k g) (value k den) g_some den_some
          (sym (value_product k g den g_in den_in) ∙ e)

  pub factor_elems : (m : ℕ) (g den : List ℕ) (rows : List (List (List ℕ))) → IsOver k.ops g → IsOver k.ops den
      → All (IsRow k.ops m) rows → ¬ (value k g ≡ (polynomials k).𝟘) → ¬ (value k den ≡ (polynomials k).𝟘)
      → map (function_of k p) (elems_over (map (multiple_of_row k.ops g) rows) (product_of k.ops g den))
      ≡ map (function_of k p) (elems_over rows den)
  factor_elems m g den [] g_in den_in rows_in g_some den_some = refl
  factor_elems m g den (v ∷ rows) g_in den_in rows_in g_some den_some =
      ap₂ ◌∷◌ (factor_elem g den v g_in den_in (All-head (IsRow k.ops m) v rows rows_in).over g_some den_some)
      (factor_elems m g den rows g_in den_in (All-tail (IsRow k.ops m) v rows rows_in) g_some den_some)

  abbrev InSpan : List (Functions k p) → Functions k p → Type 0
  InSpan fs = Span (functions k p).ops (IsPolynomial c) fs

  pub reduced_set : (m : ℕ) (rows : List (List (List ℕ))) (e : List ℕ) (l : LatticeValue) → IsLatticeValue k.ops m l
      → IsReducedTo k.ops rows e l → (z : Functions k p) → Contains k p l z ↔ InSpanOf k p (elems_over rows e) z
  reduced_set m rows e l lattice r z =
      let same : map (function_of k p) (elems_over rows e) ≡ map (function_of k p) (elems_over l.rows l.den)
      = ap₂ (λ xs d. map (function_of k p) (elems_over xs d)) (sym r.rows_are) r.den_is
      ∙ factor_elems m r.factor l.den l.rows r.factor_in lattice.den_in lattice.rows_in
      (monic_value k r.factor r.factor_in r.factor_poly r.factor_monic)
      (monic_value k l.den lattice.den_in lattice.den_poly lattice.monic) in (
        subst (λ fs. InSpan fs z) (sym same),
        subst (λ fs. InSpan fs z) same,
      )

  -- rows with the same lattice of numerators
  module _ (e : List ℕ) (some : ¬ (value k e ≡ (polynomials k).𝟘)) where
    same_set_to : (rows rows' : List (List (List ℕ))) → theory.IsWithin M (read_rows k p.n rows) (read_rows k p.n rows')
        → (z : Functions k p) → InSpanOf k p (elems_over rows e) z → InSpanOf k p (elems_over rows' e) z
    same_set_to rows rows' h z z_in =
        let m = (in_span_of k p e some rows z).0 z_in in
        (in_span_of k p e some rows' z).1
        (record { numerator = m.numerator; in_rows = h.within m.numerator m.in_rows; is = m.is })

    pub same_set : (rows rows' : List (List (List ℕ))) → All (IsRow k.ops p.n) rows → All (IsRow k.ops p.n) rows'
        → All (All IsPoly) rows → All (All IsPoly) rows' → HaveSameRowSpan k.ops p.n rows rows'
        → (z : Functions k p) → InSpanOf k p (elems_over rows e) z ↔ InSpanOf k p (elems_over rows' e) z
    same_set rows rows' rows_in rows_in' polys polys' h z =
        let s = same_space k p.n rows rows' rows_in rows_in' (polys_at rows polys) (polys_at rows' polys') h in (
          same_set_to rows rows' s.left z,
          same_set_to rows' rows s.right z,
        )

    codes_some : (q : Polynomial k) → ¬ (q ≡ (polynomials k).𝟘) → ¬ (codes_of k q ≡ [])
    codes_some q q_some none = q_some (sym (value_codes_of k q) ∙ ap (value k) none ∙ value_nil k)

    -- full rank of the rows is that of the set
    pub full_from_rank : (rows : List (List (List ℕ))) → theory.HasFullRank M (read_rows k p.n rows)
        → IsFullLattice k p (InSpanOf k p (elems_over rows e))
    full_from_rank rows full = record { multiple = multiple }
      where
        multiple : (z : Functions k p) → HasMultipleInLattice k p (InSpanOf k p (elems_over rows e)) z
        multiple z = record {
          factor = codes_of k factor;
          factor_in = IsOver_codes_of k factor;
          factor_poly = IsPoly_codes_of k factor;
          some = codes_some factor (product_not_zero (polynomials_domain k) q d (full.multiple v).some a.den_not_zero);
          is_in =
              (in_span_of k p e some rows ((functions k p).◌⊗◌ (of_poly c (value k (codes_of k factor))) z)).1
              (record {
                numerator = row_scale S.ops n (value k e) (row_scale S.ops n q v);
                in_rows = in_rows;
                is = is;
              });
        }
          where
            a : RowOver (equation_of k p)
            a = (row_of_function (equation_of k p) z).0

            v : Row (Polynomial k) (suc (p.n - 1))
            v = ((row_of_function (equation_of k p) z).0).num

            d : Polynomial k
            d = ((row_of_function (equation_of k p) z).0).den

            q : Polynomial k
            q = (full.multiple ((row_of_function (equation_of k p) z).0).num).factor

            factor : Polynomial k
            factor = (polynomials k).◌⊗◌ q d

            in_rows : theory.InSpan M (read_rows k p.n rows) (row_scale S.ops n (value k e) (row_scale S.ops n q v))
            in_rows =
                subst (theory.InSpan M (read_rows k p.n rows))
                (row_module_scale (code_ring k) (p.n - 1) (value k e) (row_scale S.ops n q v))
                (span_scale M (read_rows k p.n rows) (value k e) (row_scale S.ops n q v)
                (subst (theory.InSpan M (read_rows k p.n rows)) (row_module_scale (code_ring k) (p.n - 1) q v)
                (full.multiple v).in_span))

            is : (functions k p).◌⊗◌ (of_poly c (value k (codes_of k factor))) z
                ≡ over c (row_scale S.ops n (value k e) (row_scale S.ops n q v)) (value k e) some
            is =
                ap₂ (functions k p).◌⊗◌ (ap (of_poly c) (value_codes_of k factor))
                (sym (row_of_function (equation_of k p) z).1)
                ∙ over_scale c factor v d a.den_not_zero
                ∙ over_eq c (row_scale S.ops n factor v) (row_scale S.ops n (value k e) (row_scale S.ops n q v)) d
                (value k e) a.den_not_zero some
                (sym (row_scale_scale S n (value k e) factor v)
                ∙ ap (λ x. row_scale S.ops n x v) (moved (value k e) q d)
                ∙ row_scale_scale S n d ((polynomials k).◌⊗◌ (value k e) q) v
                ∙ ap (row_scale S.ops n d) (row_scale_scale S n (value k e) q v))
              where
                moved : (e q d : Polynomial k)
                    → (polynomials k).◌⊗◌ e ((polynomials k).◌⊗◌ q d) ≡ (polynomials k).◌⊗◌ d ((polynomials k).◌⊗◌ e q)
                moved e q d = sym (S.mul_assoc e q d) ∙ S.mul_comm ((polynomials k).◌⊗◌ e q) d

    pub rank_of_full : (rows : List (List (List ℕ))) → All (IsRow k.ops p.n) rows
        → IsFullLattice k p (InSpanOf k p (elems_over rows e)) → codes.HasFullRankMatrix k.ops p.n rows
    rank_of_full rows rows_in full = record { multiple = multiple }
      where
        multiple : (v : List (List ℕ)) → IsRow k.ops p.n v → codes.HasMultipleInRows k.ops p.n rows v
        multiple v v_row =
            let z = over c (read_row k n v) (value k e) some in
            let m = full.multiple z in
            let q = value k m.factor in
            let member = (in_span_of k p e some rows ((functions k p).◌⊗◌ (of_poly c q) z)).0 m.is_in in
            let numerator = member_numerator c (value k e) some (read_rows k p.n rows)
            (row_scale S.ops n q (read_row k n v))
            (subst (Member c (value k e) some (read_rows k p.n rows)) (over_scale c q (read_row k n v) (value k e) some)
            member) in
            record {
              factor = m.factor;
              factor_in = m.factor_in;
              factor_poly = m.factor_poly;
              factor_some = m.some;
              in_span =
                  from_space k p.n rows rows_in (multiple_of_row k.ops m.factor v)
                  (multiple_row k p.n m.factor v m.factor_in v_row) (multiple_poly k m.factor v)
                  (subst (theory.InSpan M (read_rows k p.n rows))
                  (sym (space_multiple k p.n m.factor v m.factor_in v_row.over
                  ∙ row_module_scale (code_ring k) (p.n - 1) q (read_row k n v))) numerator);
            }

  -- each function has a multiple in a lattice
  pub lattice_full : (l : LatticeValue) → 0 < p.n → IsLatticeValue k.ops p.n l → IsFullLattice k p (Contains k p l)
  lattice_full l positive lattice =
      full_from_rank l.den (monic_value k l.den lattice.den_in lattice.den_poly lattice.monic) l.rows
      (rank_from_full M (code_field k) (read_rows k p.n l.rows) (basis_weak k p.n l.rows lattice.rows_in lattice.popov)
      (basis_full k p.n l.rows lattice.rows_in lattice.popov positive))

-- rows, their Popov basis, and the lattice that it makes
pub rows_spanned : (k : CodeField) (n : ℕ) (rows basis : List (List (List ℕ))) (e : List ℕ) (l : LatticeValue)
    → All (IsRow k.ops n) rows → All (All IsPoly) rows → All (IsRow k.ops n) basis → IsPopovMatrix n basis
    → HaveSameRowSpan k.ops n rows basis
    → IsOver k.ops e → IsMonicList e → IsLatticeValue k.ops n l → IsReducedTo k.ops basis e l
    → IsSpannedBy k n (elems_over rows e) l
rows_spanned k n rows basis e l rows_in rows_poly basis_in popov same e_in e_monic lattice reduced = record {
  members = λ p n_is z.
      let reduced_to = reduced_set k p n basis e l lattice reduced z in
      let sets =
      same_set k p e (monic_value k e e_in (monic_poly e e_monic) e_monic) rows basis
      (subst (λ m. All (IsRow k.ops m) rows) (sym n_is) rows_in)
      (subst (λ m. All (IsRow k.ops m) basis) (sym n_is) basis_in) rows_poly (popov_poly n basis popov)
      (subst (λ m. HaveSameRowSpan k.ops m rows basis) (sym n_is) same) z in (
        λ h. sets.1 (reduced_to.0 h),
        λ h. reduced_to.1 (sets.0 h),
      );
}
