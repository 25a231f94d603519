-- Two Popov bases that span multiples of one lattice make the same functions, with the same degrees.
use Rattle.std.proofs.Common.{◌≡◌, ℕ, suc, ◌+◌, ◌-◌, ◌*◌, ◌/◌, ◌<◌, List, length, get_or, refl, sym, ◌∙◌, ap, subst, arith, add-mul}
use Rattle.std.proofs.lemmas.Int.{ints}
use Rattle.std.proofs.Math.Nat.{mul-div_cancel}
use Rattle.std.proofs.Math.IntN.{pos, ◌-ℤ◌}
use Rattle.ring_lemmas.specs.Rows.{Row}
use Rattle.ring_lemmas.proofs.Ring.{mul_left_comm}
use Rattle.ff_fields.specs.Field.{CodeField}
use Rattle.ff_fields.specs.Code.{code_ring, code_domain, same_code}
use Rattle.ff_fields.specs.Over.{IsOver}
use Rattle.ff_poly.specs.Words.{IsMonicList}
use Rattle.ff_poly.specs.Popov.{row_at, entry_at, IsPopovMatrix}
use Rattle.ff_poly.specs.Value.{value}
use Rattle.ff_poly.specs.Polynomials.{Polynomial, polynomials}
use Rattle.ff_poly.proofs.Parts.{top_of_monic}
use Rattle.popov_theory.specs.Module.{PolynomialModule, IsMonic, measure}
use Rattle.popov_theory.specs.Span.{IsWithin}
use Rattle.popov_theory.specs.Span as rows_span
use Rattle.popov_theory.proofs.Measure.{measure_scale}
use Rattle.popov_theory.proofs.PopovForm.{popov_unique}
use Rattle.popov_theory.proofs.Scaling.{scaled, scaled_at, popov_scaled, span_scaled, span_unscaled}
use Rattle.function_field.specs.Functions.{Equation, FunctionOf, ring_of, of_poly, over, row_of}
use Rattle.function_field.specs.Values.{Functions, functions, equation_of}
use Rattle.function_field.specs.Curves.{CurveValue, IsCurve}
use Rattle.function_field.proofs.OnSide.{den_inverse}
use Rattle.linear_theory.specs.Lists.{entry}
use Rattle.space_theory.proofs.FunctionModule.{cancel}
use Rattle.ff_popov.specs.Reading.{row_space, read_rows}
use Rattle.ff_popov.proofs.PopovBasis.{basis_popov, basis_measured}
use Rattle.ff_popov.proofs.ReadRows.{read_row_at}
use Rattle.ff_lattice.specs.Lattices.{LatticeValue, IsLatticeValue}
use Rattle.ff_lattice.proofs.Divisors.{monic_value}
use Rattle.ff_lattice.proofs.Normal.{monic_poly}
use Rattle.ff_lattice.proofs.Scaled.{value_length, coeff_code}
use Rattle.value_theory.proofs.InfiniteLattices.{some}
use Rattle.split_theory.specs.Splits.{row_function, SpanMultiple, AreRowsOver, split_degree}
use Rattle.split_theory.proofs.RowFunctions.{same_entries_list}
use Rattle.split_theory.proofs.RowSpaces.{row_at_h, row_is, h_scale, h_combine, h_injective}
use Rattle.split_theory.proofs.SplitBases.{cancel_polynomial}

-- a monic list of codes is a monic polynomial
monic_of : (k : CodeField) (d : List ℕ) → IsOver k.ops d → IsMonicList d → IsMonic (code_ring k) (value k d)
monic_of k d d_in monic =
    let t = top_of_monic d monic in
    let size : length d ≡ suc (length d - 1) = omega (arith, t.1) in
    let position : length d - 1 ≡ t.0 = omega (arith, t.1) in
    record {
      degree = length d - 1;
      size = value_length k d d_in (monic_poly d monic) ∙ size;
      top = same_code k _ _ (coeff_code k d (length d - 1) d_in ∙ ap (λ m. get_or d m 0) position ∙ t.2);
    }

-- each function is a polynomial times another
divided : {k : CodeField} (c : Equation k) (a : Polynomial k) → ¬ (a ≡ (polynomials k).𝟘) → (y : FunctionOf c)
    → (z : FunctionOf c) × ((ring_of c).◌⊗◌ (of_poly c a) z ≡ y)
divided {k} c a some y = (
  (ring_of c).◌⊗◌ (over c (row_of c (polynomials k).𝟙) a some) y,
  cancel c (of_poly c a) (over c (row_of c (polynomials k).𝟙) a some) y (den_inverse c a some),
)

module _ (k : CodeField) (c : CurveValue) (curve : IsCurve k c) (fin inf : LatticeValue)
    (form : IsLatticeValue k.ops c.inf.n inf) where
  infixl 70 ◌⊗◌
  open functions k c.fin use {𝟘, ◌⊗◌}

  abbrev E : Equation k
  E = equation_of k c.fin

  abbrev M : PolynomialModule (code_ring k) (Row (Polynomial k) (suc (c.fin.n - 1)))
  M = row_space k c.fin.n

  abbrev R : List (List (List ℕ)) → List (Row (Polynomial k) (suc (c.fin.n - 1)))
  R m = read_rows k c.fin.n m

  -- u'·m lies in the span of u·m', where m spans u·I and m' spans u'·I
  module _ (u u' : List ℕ) (u_some : ¬ (value k u ≡ (polynomials k).𝟘))
      (monic : IsMonic (code_ring k) (value k u)) (monic' : IsMonic (code_ring k) (value k u'))
      (m m' : List (List (List ℕ))) (spanned : SpanMultiple k c inf fin u m)
      (spanned' : SpanMultiple k c inf fin u' m') where
    cross : IsWithin M (scaled M (code_domain k) (value k u') monic' (R m))
        (scaled M (code_domain k) (value k u) monic (R m'))
    cross = record {
      within = λ v v_in.
          let w = span_unscaled M (code_domain k) (value k u') monic' (R m) v v_in in
          let z = divided E (value k u) u_some (row_at_h k c curve inf form w.0) in
          let z_in = (spanned.members z.0).1 (record {
            coefficient = w.1.coefficients;
            is = z.1 ∙ ap (row_at_h k c curve inf form) w.1.is ∙ h_combine k c curve inf form w.1.coefficients m;
          }) in
          let y = (spanned'.members z.0).0 z_in in
          let w' = rows_span.combine M y.coefficient (R m') in
          subst (rows_span.InSpan M (scaled M (code_domain k) (value k u) monic (R m')))
          (sym (w.2
          ∙ h_injective k c curve inf form (M.◌·◌ (value k u') w.0) (M.◌·◌ (value k u) w')
          (h_scale k c curve inf form (value k u') w.0
          ∙ ap (λ x. of_poly E (value k u') ⊗ x) (sym z.1)
          ∙ mul_left_comm (functions k c.fin) (of_poly E (value k u')) (of_poly E (value k u)) z.0
          ∙ ap (λ x. of_poly E (value k u) ⊗ x) (y.is ∙ sym (h_combine k c curve inf form y.coefficient m'))
          ∙ sym (h_scale k c curve inf form (value k u) w'))))
          (span_scaled M (code_domain k) (value k u) monic (R m') w'
          (record { coefficients = y.coefficient; is = refl }));
    }

  module _ (u u' : List ℕ) (u_in : IsOver k.ops u) (u_monic : IsMonicList u) (u_in' : IsOver k.ops u')
      (u_monic' : IsMonicList u') (m m' : List (List (List ℕ))) (popov : IsPopovMatrix c.fin.n m)
      (popov' : IsPopovMatrix c.fin.n m') (spanned : SpanMultiple k c inf fin u m)
      (spanned' : SpanMultiple k c inf fin u' m') where
    monic : IsMonic (code_ring k) (value k u)
    monic = monic_of k u u_in u_monic

    monic' : IsMonic (code_ring k) (value k u')
    monic' = monic_of k u' u_in' u_monic'

    u_some : ¬ (value k u ≡ (polynomials k).𝟘)
    u_some = monic_value k u u_in (monic_poly u u_monic) u_monic

    u_some' : ¬ (value k u' ≡ (polynomials k).𝟘)
    u_some' = monic_value k u' u_in' (monic_poly u' u_monic') u_monic'

    same_rows : scaled M (code_domain k) (value k u') monic' (R m) ≡ scaled M (code_domain k) (value k u) monic (R m')
    same_rows =
        popov_unique M (code_domain k) _ _
        (popov_scaled M (code_domain k) (value k u') monic' (R m)
        (basis_popov k c.fin.n m spanned.rows_in popov (some k c curve)))
        (popov_scaled M (code_domain k) (value k u) monic (R m')
        (basis_popov k c.fin.n m' spanned'.rows_in popov' (some k c curve)))
        (record {
          left = cross u u' u_some monic monic' m m' spanned spanned';
          right = cross u' u u_some' monic' monic m' m spanned' spanned;
        })

    row_same : (i : ℕ) → M.◌·◌ (value k u') (get_or (R m) i M.𝟎) ≡ M.◌·◌ (value k u) (get_or (R m') i M.𝟎)
    row_same i =
        sym (scaled_at M (code_domain k) (value k u') monic' (R m) i) ∙ ap (λ rs. get_or rs i M.𝟎) same_rows
        ∙ scaled_at M (code_domain k) (value k u) monic (R m') i

    function_same : (i : ℕ)
        → of_poly E (value k u') ⊗ row_function k c inf (row_at m i)
        ≡ of_poly E (value k u) ⊗ row_function k c inf (row_at m' i)
    function_same i =
        ap (λ x. of_poly E (value k u') ⊗ x) (row_value m i)
        ∙ sym (h_scale k c curve inf form (value k u') (get_or (R m) i M.𝟎))
        ∙ ap (row_at_h k c curve inf form) (row_same i)
        ∙ h_scale k c curve inf form (value k u) (get_or (R m') i M.𝟎)
        ∙ ap (λ x. of_poly E (value k u) ⊗ x) (sym (row_value m' i))
      where
        row_value : (rows : List (List (List ℕ))) (i : ℕ)
            → row_function k c inf (row_at rows i) ≡ row_at_h k c curve inf form (get_or (R rows) i M.𝟎)
        row_value rows i =
            row_is k c curve inf form (row_at rows i)
            ∙ ap (row_at_h k c curve inf form) (sym (read_row_at k c.fin.n rows i))

    -- the functions are the same
    pub one_basis : (bs bs' : List (Functions k c.fin)) → AreRowsOver k c inf u m bs → AreRowsOver k c inf u' m' bs'
        → bs ≡ bs'
    one_basis bs bs' rows rows' =
        same_entries_list 𝟘 bs bs' (rows.count ∙ sym rows'.count) (λ i less.
        let l : i < c.fin.n = omega (arith, less, rows.count) in
        cancel_polynomial E (value k u) u_some _ _
        (cancel_polynomial E (value k u') u_some' _ _
        (ap (λ x. of_poly E (value k u') ⊗ x) (rows.each i l) ∙ function_same i
        ∙ ap (λ x. of_poly E (value k u) ⊗ x) (sym (rows'.each i l))
        ∙ mul_left_comm (functions k c.fin) (of_poly E (value k u)) (of_poly E (value k u')) (entry 𝟘 bs' i))))

    -- and their degrees
    pub one_degree : (i : ℕ) → i < c.fin.n → split_degree u m i ≡ split_degree u' m' i
    unfolding monic_of
    one_degree i less =
        let a = basis_measured k c.fin.n m spanned.rows_in popov i less in
        let a' = basis_measured k c.fin.n m' spanned'.rows_in popov' i less in
        let p = popov.pivot_at i less in
        let p' = popov'.pivot_at i less in
        let t = top_of_monic u u_monic in
        let t' = top_of_monic u' u_monic' in
        let s = measure_scale M (code_domain k) (value k u') (get_or (R m) i M.𝟎) (length u' - 1)
        (monic_of k u' u_in' u_monic').size (λ e. absurd (omega (arith, e, a.0))) in
        let s' = measure_scale M (code_domain k) (value k u) (get_or (R m') i M.𝟎) (length u - 1)
        (monic_of k u u_in u_monic).size (λ e. absurd (omega (arith, e, a'.0))) in
        let e = ap (measure M) (row_same i) in
        degrees (length u) (length u') (length (entry_at (row_at m i) i)) (length (entry_at (row_at m' i) i)) M.width i
        (omega (arith, t.1)) (omega (arith, t'.1)) p.some p'.some M.positive
        (sym (s ∙ ap (λ x. (length u' - 1) * M.width + x) a.0) ∙ e
        ∙ s' ∙ ap (λ x. (length u - 1) * M.width + x) a'.0)
      where
        degrees : (x x' y y' w i : ℕ) → 0 < x → 0 < x' → 0 < y → 0 < y' → 0 < w
            → (x' - 1) * w + suc ((y - 1) * w + i) ≡ (x - 1) * w + suc ((y' - 1) * w + i)
            → pos y -ℤ pos x ≡ pos y' -ℤ pos x'
        degrees x x' y y' w i x_some x_some' y_some y_some' w_some h =
            let a = add-mul (x' - 1) (y - 1) w in
            let b = add-mul (x - 1) (y' - 1) w in
            let e : (x' - 1 + (y - 1)) ≡ (x - 1 + (y' - 1))
            = sym (mul-div_cancel (x' - 1 + (y - 1)) w_some)
            ∙ ap (λ n. n / w)
            (let f : (x' - 1 + (y - 1)) * w ≡ (x - 1 + (y' - 1)) * w = omega (arith, a, b, h) in f)
            ∙ mul-div_cancel (x - 1 + (y' - 1)) w_some in
            omega (arith, ints)
