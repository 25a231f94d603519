-- A lattice has one form: its least denominator and its Popov basis are determined by the set.
use Rattle.std.proofs.Common.{◌≡◌, ◌≢◌, ℕ, zero, suc, ◌-◌, ◌<◌, ◌≤◌, ◌⊎◌, ◌↔◌, inl, inr, List, [], ◌∷◌, length, get_or, refl, sym, ◌∙◌, ap, ap₂, subst, arith, All}
use Rattle.std.proofs.lemmas.Bool.{cases_lt}
use Rattle.std.proofs.lemmas.List.{length-map}
use Rattle.std.proofs.lemmas.List.Elements.{All-nil, All-cons, All-head, All-tail}
use Rattle.ring_lemmas.specs.Ring.{CommRing}
use Rattle.ring_lemmas.specs.Lists.{coeff_of, scale_list, add_lists, neg_list}
use Rattle.ring_lemmas.specs.Rows.{Row, row_zero, row_add, row_scale}
use Rattle.ring_lemmas.proofs.Ring.{mul_zero, one_mul, eq_of_sub, neg_mul, add_mul}
use Rattle.ring_lemmas.proofs.Rows.{pair_path, row_scale_add, row_scale_zero, row_scale_comm, row_scale_one}
use Rattle.ring_lemmas.proofs.Polynomials.{series_add, series_neg}
use Rattle.ring_theory.proofs.Division.{length_add, length_neg}
use Rattle.ff_fields.specs.Field.{CodeField}
use Rattle.ff_fields.specs.Code.{code_ring, code_domain, same_code, raw_ring, is_zero_code}
use Rattle.ff_fields.specs.Over.{IsOver, get_or_below}
use Rattle.ff_poly.specs.Words.{IsPoly, IsMonicList, DividesList, product_of, difference_of, multiple_of, top_of}
use Rattle.ff_poly.specs.PolyOver.{IsPoly_poly_of, IsOver_difference_of, IsOver_multiple_of}
use Rattle.ff_poly.specs.Value.{value, same_from_value}
use Rattle.ff_poly.specs.Terms.{value_difference}
use Rattle.ff_poly.specs.Polynomials.{Polynomial, polynomials, polynomials_domain, numbers_discrete, constant_poly, value_nil}
use Rattle.ff_poly.specs.Popov.{row_at, IsRow, IsPopovMatrix}
use Rattle.ff_poly.proofs.Parts.{IsMonic_multiple, value_multiple, top_of_monic}
use Rattle.ff_poly.proofs.Quotients.{top_some}
use Rattle.popov_theory.specs.Module.{PolynomialModule}
use Rattle.popov_theory.specs.Span as theory
use Rattle.popov_theory.proofs.Span.{span_least, span_row}
use Rattle.popov_theory.proofs.PopovForm.{popov_unique, row_past}
use Rattle.popov_theory.proofs.PolynomialRows.{row_module_zero, row_module_add, row_module_scale}
use Rattle.ff_popov.specs.Reading.{read_row, row_space, read_rows}
use Rattle.ff_popov.proofs.ReadRows.{read_row_at, same_from_read}
use Rattle.ff_popov.proofs.PopovBasis.{basis_popov}
use Rattle.ff_popov.proofs.Entries.{any_default}
use Rattle.ff_popov.proofs.Lengths.{trim_length}
use Rattle.function_field.specs.Functions.{Equation, of_poly, over}
use Rattle.function_field.specs.Values.{PresValue, Functions, functions, equation_of}
use Rattle.function_field.proofs.OnSide.{of_poly_plus, of_poly_times}
use Rattle.ff_lattice.specs.Lattices.{LatticeValue, IsLatticeValue, IsMultiplier, InSpanOf, elems_over, Contains}
use Rattle.ff_lattice.proofs.Fracs.{over_eq, over_same, over_scale, over_add}
use Rattle.ff_lattice.proofs.Members.{Member, member_numerator}
use Rattle.ff_lattice.proofs.Elements.{in_span_of}
use Rattle.ff_lattice.proofs.Divisors.{divides_product, pol_self, monic_value}
use Rattle.ff_lattice.proofs.Normal.{monic_poly, popov_poly}
use Rattle.ff_lattice.proofs.Scaled.{value_length, coeff_code}

module _ (k : CodeField) where
  abbrev S : CommRing (Polynomial k)
  S = (polynomials k).ring

  -- E·v is D·w for some row w
  pub record RowDivides (n : ℕ) (D E : Polynomial k) (v : Row (Polynomial k) n) : Type 0 where
    pub quotient : Row (Polynomial k) n
    pub is : row_scale S.ops n E v ≡ row_scale S.ops n D quotient

  row_divides : (n : ℕ) (d e : List ℕ) (row : List (List ℕ)) → IsOver k.ops d → IsOver k.ops e → All (IsOver k.ops) row
      → All (λ v. DividesList k.ops d (product_of k.ops e v)) row
      → RowDivides n (value k d) (value k e) (read_row k n row)
  unfolding row_scale
  row_divides zero d e row d_in e_in over h = record { quotient = tt; is = refl }
  row_divides (suc n) d e [] d_in e_in over h =
      let rest = row_divides n d e [] d_in e_in over h in
      record {
        quotient = (S.𝟘, rest.quotient);
        is = pair_path (mul_zero S (value k e) ∙ sym (mul_zero S (value k d)))
            rest.is;
      }
  row_divides (suc n) d e (v ∷ row) d_in e_in over h =
      let v_in = All-head (IsOver k.ops) v row over in
      let first = (divides_product k d e v d_in e_in v_in).0
      (All-head (λ v. DividesList k.ops d (product_of k.ops e v)) v row h) in
      let rest = row_divides n d e row d_in e_in (All-tail (IsOver k.ops) v row over)
      (All-tail (λ v. DividesList k.ops d (product_of k.ops e v)) v row h) in
      record { quotient = (first.quotient, rest.quotient); is = pair_path first.is rest.is }

  divides_row : (n : ℕ) (d e : List ℕ) (row : List (List ℕ)) (w : Row (Polynomial k) n) → length row ≤ n
      → IsOver k.ops d → IsOver k.ops e → All (IsOver k.ops) row
      → row_scale S.ops n (value k e) (read_row k n row) ≡ row_scale S.ops n (value k d) w
      → All (λ v. DividesList k.ops d (product_of k.ops e v)) row
  unfolding row_scale
  divides_row n d e [] w le d_in e_in over is = All-nil (λ v. DividesList k.ops d (product_of k.ops e v))
  divides_row zero d e (v ∷ row) w le d_in e_in over is = absurd (omega (arith, le))
  divides_row (suc n) d e (v ∷ row) (a, w) le d_in e_in over is =
      let v_in = All-head (IsOver k.ops) v row over in
      All-cons (λ v. DividesList k.ops d (product_of k.ops e v)) v row
      ((divides_product k d e v d_in e_in v_in).1 (record { quotient = a; is = ap (λ t. t.0) is }))
      (divides_row n d e row w (omega (arith, le)) d_in e_in (All-tail (IsOver k.ops) v row over) (ap (λ t. t.1) is))

  module _ (p : PresValue) where
    abbrev c : Equation k
    c = equation_of k p

    abbrev n : ℕ
    n = suc (p.n - 1)

    abbrev M : PolynomialModule (code_ring k) (Row (Polynomial k) (suc (p.n - 1)))
    M = row_space k p.n

    -- a polynomial that takes each member of the set to a row of polynomials
    pub Takes : (Functions k p → Type 0) → Polynomial k → Type 0
    Takes L E = (z : Functions k p) → L z
        → (w : Row (Polynomial k) (suc (p.n - 1)))
        × ((functions k p).◌⊗◌ (of_poly c E) z ≡ over c w (polynomials k).𝟙 ((polynomials_domain k).one_not_zero))

    rows_from_read : (xs ys : List (List (List ℕ))) → All (IsRow k.ops p.n) xs → All (IsRow k.ops p.n) ys
        → All (All IsPoly) xs → All (All IsPoly) ys → read_rows k p.n xs ≡ read_rows k p.n ys → xs ≡ ys
    rows_from_read [] [] xs_in ys_in xs_poly ys_poly e = refl
    rows_from_read [] (y ∷ ys) xs_in ys_in xs_poly ys_poly e = absurd (omega (arith, ap length e))
    rows_from_read (x ∷ xs) [] xs_in ys_in xs_poly ys_poly e = absurd (omega (arith, ap length e))
    rows_from_read (x ∷ xs) (y ∷ ys) xs_in ys_in xs_poly ys_poly e =
        let first : read_row k (suc (p.n - 1)) x ≡ read_row k (suc (p.n - 1)) y = cc in
        let rest : read_rows k p.n xs ≡ read_rows k p.n ys = cc in
        ap₂ ◌∷◌
        (same_from_read k p.n x y (All-head (IsRow k.ops p.n) x xs xs_in) (All-head (IsRow k.ops p.n) y ys ys_in)
        (All-head (All IsPoly) x xs xs_poly) (All-head (All IsPoly) y ys ys_poly) first)
        (rows_from_read xs ys (All-tail (IsRow k.ops p.n) x xs xs_in) (All-tail (IsRow k.ops p.n) y ys ys_in)
        (All-tail (All IsPoly) x xs xs_poly) (All-tail (All IsPoly) y ys ys_poly) rest)

    module _ (d : List ℕ) (some : ¬ (value k d ≡ (polynomials k).𝟘)) where
      within : (xs ys : List (List (List ℕ)))
          → ((z : Functions k p) → InSpanOf k p (elems_over xs d) z → InSpanOf k p (elems_over ys d) z)
          → theory.IsWithin M (read_rows k p.n xs) (read_rows k p.n ys)
      within xs ys h = record {
        within = λ v v_in.
            member_numerator c (value k d) some (read_rows k p.n ys) v
            ((in_span_of k p d some ys (over c v (value k d) some)).0
            (h (over c v (value k d) some)
            ((in_span_of k p d some xs (over c v (value k d) some)).1
            (record { numerator = v; in_rows = v_in; is = refl }))));
      }

      -- rows in Popov form over one polynomial that span the same functions are the same
      pub one_basis : (xs ys : List (List (List ℕ))) → All (IsRow k.ops p.n) xs → All (IsRow k.ops p.n) ys
          → IsPopovMatrix p.n xs → IsPopovMatrix p.n ys
          → ((z : Functions k p) → InSpanOf k p (elems_over xs d) z ↔ InSpanOf k p (elems_over ys d) z) → 0 < p.n
          → xs ≡ ys
      one_basis xs ys xs_in ys_in xs_popov ys_popov same positive =
          rows_from_read xs ys xs_in ys_in (popov_poly p.n xs xs_popov) (popov_poly p.n ys ys_popov)
          (popov_unique M (code_domain k) (read_rows k p.n xs) (read_rows k p.n ys)
          (basis_popov k p.n xs xs_in xs_popov positive) (basis_popov k p.n ys ys_in ys_popov positive)
          (record { left = within xs ys (λ z. (same z).0); right = within ys xs (λ z. (same z).1) }))

    module _ (l : LatticeValue) (lattice : IsLatticeValue k.ops p.n l) where
      abbrev D : Polynomial k
      D = value k l.den

      D_some : ¬ (value k l.den ≡ (polynomials k).𝟘)
      D_some = monic_value k l.den lattice.den_in lattice.den_poly lattice.monic

      abbrev rs : List (Row (Polynomial k) (suc (p.n - 1)))
      rs = read_rows k p.n l.rows

      takes_of : (e : List ℕ) → IsOver k.ops e → IsMultiplier k.ops l.rows l.den e → Takes (Contains k p l) (value k e)
      unfolding Takes
      takes_of e e_in m z z_in = (
        u_divides.quotient,
        ap ((functions k p).◌⊗◌ (of_poly c (value k e))) member.is ∙ over_scale c (value k e) member.numerator D D_some
            ∙ over_eq c (row_scale S.ops n (value k e) member.numerator) u_divides.quotient D (polynomials k).𝟙 D_some
            ((polynomials_domain k).one_not_zero)
            (row_scale_one S n (row_scale S.ops n (value k e) member.numerator) ∙ u_divides.is),
      )
        where
          member : Member c (value k l.den) D_some (read_rows k p.n l.rows) z
          member = (in_span_of k p l.den D_some l.rows z).0 z_in

          T : Row (Polynomial k) (suc (p.n - 1)) → Type 0
          T v = RowDivides n D (value k e) v

          𝓣 : theory.IsSubmodule M (λ v. RowDivides (suc (p.n - 1)) (value k l.den) (value k e) v)
          𝓣 = record {
            zero_in = subst T (sym (row_module_zero (code_ring k) (p.n - 1)))
                (record {
                  quotient = row_zero S.ops n;
                  is = row_scale_zero S n (value k e)
                      ∙ sym (row_scale_zero S n D);
                });
            sum_in = λ u v u_in v_in. subst T (sym (row_module_add (code_ring k) (p.n - 1) u v)) (record {
              quotient = row_add S.ops n u_in.quotient v_in.quotient;
              is = row_scale_add S n (value k e) u v ∙ ap₂ (row_add S.ops n) u_in.is v_in.is
                  ∙ sym (row_scale_add S n D u_in.quotient v_in.quotient);
            });
            scale_in = λ a v v_in. subst T (sym (row_module_scale (code_ring k) (p.n - 1) a v)) (record {
              quotient = row_scale S.ops n a v_in.quotient;
              is = row_scale_comm S n (value k e) a v ∙ ap (row_scale S.ops n a) v_in.is
                  ∙ row_scale_comm S n a D v_in.quotient;
            });
          }

          rows : (i : ℕ) → (i < length l.rows) ⊎ (length l.rows ≤ i) → T (theory.row_at M rs i)
          rows i (inr past) = subst T (sym
              (row_past M rs i (omega (arith, past, length-map l.rows (read_row k (suc (p.n - 1))))))) 𝓣.zero_in
          rows i (inl less) =
              subst T (sym (read_row_at k p.n l.rows i))
              (row_divides n l.den e (row_at l.rows i) lattice.den_in e_in (lattice.rows_in i [] less).over
              (m.each i [] less))

          u_divides : RowDivides (suc (p.n - 1)) (value k l.den) (value k e)
              ((in_span_of k p l.den D_some l.rows z).0 z_in).numerator
          u_divides = span_least M T 𝓣 rs (λ i. rows i (cases_lt i (length l.rows))) member.numerator member.in_rows

      of_takes : (e : List ℕ) → IsOver k.ops e → Takes (Contains k p l) (value k e) → IsMultiplier k.ops l.rows l.den e
      unfolding Takes
      of_takes e e_in h = record {
        each = λ i d less.
            let row = row_at l.rows i in
            let row_in = lattice.rows_in i [] less in
            let z = over c (read_row k n row) D D_some in
            let member = (in_span_of k p l.den D_some l.rows z).1
            (record {
              numerator = read_row k n row;
              in_rows = subst (theory.InSpan M rs)
                  (read_row_at k p.n l.rows i) (span_row M rs i);
              is = refl;
            }) in
            let t = h z member in
            let same = over_same c (row_scale S.ops n (value k e) (read_row k n row)) t.0 D (polynomials k).𝟙 D_some
            ((polynomials_domain k).one_not_zero)
            (sym (over_scale c (value k e) (read_row k n row) D D_some) ∙ t.1) in
            subst (All (λ v. DividesList k.ops l.den (product_of k.ops e v))) (any_default l.rows i [] d less)
            (divides_row n l.den e row t.0 (omega (arith, row_in.size)) lattice.den_in e_in row_in.over
            (sym (row_scale_one S n (row_scale S.ops n (value k e) (read_row k n row))) ∙ same));
      }

      den_takes : Takes (Contains k p l) (value k l.den)
      den_takes = takes_of l.den lattice.den_in
          (record { each = λ i d less. row (get_or l.rows i d) (lattice.rows_in i d less).over })
        where
          row : (v : List (List ℕ)) → All (IsOver k.ops) v
              → All (λ v. DividesList k.ops l.den (product_of k.ops l.den v)) v
          row [] over = All-nil (λ v. DividesList k.ops l.den (product_of k.ops l.den v))
          row (a ∷ v) over =
              All-cons (λ v. DividesList k.ops l.den (product_of k.ops l.den v)) a v
              ((divides_product k l.den l.den a lattice.den_in lattice.den_in (All-head (IsOver k.ops) a v over)).1
              (pol_self k D (value k a)))
              (row v (All-tail (IsOver k.ops) a v over))

      -- the denominator is the least
      takes_long : (e : List ℕ) → IsOver k.ops e → IsMonicList e → Takes (Contains k p l) (value k e)
          → length l.den ≤ length e
      takes_long e e_in e_monic h = lattice.least e e_in e_monic (of_takes e e_in h)

      takes_multiple : (a E : Polynomial k) → Takes (Contains k p l) E
          → Takes (Contains k p l) ((polynomials k).◌⊗◌ a E)
      unfolding Takes
      takes_multiple a E h z z_in =
          let t = h z z_in in (
            row_scale S.ops n a t.0,
            ap (λ f. (functions k p).◌⊗◌ f z) (sym (of_poly_times c a E))
                ∙ (functions k p).mul_assoc (of_poly c a) (of_poly c E) z
                ∙ ap ((functions k p).◌⊗◌ (of_poly c a)) t.1
                ∙ over_scale c a t.0 (polynomials k).𝟙 ((polynomials_domain k).one_not_zero),
          )

      takes_sum : (E G : Polynomial k) → Takes (Contains k p l) E → Takes (Contains k p l) G
          → Takes (Contains k p l) ((polynomials k).◌⊕◌ E G)
      unfolding Takes
      takes_sum E G h h' z z_in =
          let t = h z z_in in
          let t' = h' z z_in in (
            row_add S.ops n t.0 t'.0,
            ap (λ f. (functions k p).◌⊗◌ f z) (sym (of_poly_plus c E G))
                ∙ add_mul (functions k p) (of_poly c E) (of_poly c G) z
                ∙ ap₂ (functions k p).◌⊕◌ t.1 t'.1
                ∙ over_add c t.0 t'.0 (polynomials k).𝟙 ((polynomials_domain k).one_not_zero),
          )

      -- another monic polynomial of the same degree that takes the lattice to rows is the denominator
      den_unique : (e : List ℕ) → IsOver k.ops e → IsMonicList e → length e ≡ length l.den
          → Takes (Contains k p l) (value k e) → e ≡ l.den
      den_unique e e_in e_monic size h = go r (IsOver_difference_of k e_in lattice.den_in) r_poly refl
          (numbers_discrete r [])
        where
          r : List ℕ
          r = difference_of k.ops e l.den

          r_poly : IsPoly (difference_of k.ops e l.den)
          r_poly = IsPoly_poly_of (add_lists (raw_ring k.ops) e (neg_list (raw_ring k.ops) l.den))

          r_value : value k (difference_of k.ops e l.den)
              ≡ (polynomials k).◌⊕◌ (value k e) ((polynomials k).⊖◌ (value k l.den))
          r_value = value_difference k e l.den e_in lattice.den_in

          takes_r : Takes (Contains k p l) (value k (difference_of k.ops e l.den))
          takes_r =
              subst (Takes (Contains k p l))
              (sym (r_value ∙ ap ((polynomials k).◌⊕◌ (value k e)) (minus (value k l.den))))
              (takes_sum (value k e) ((polynomials k).◌⊗◌ ((polynomials k).⊖◌ (polynomials k).𝟙) (value k l.den)) h
              (takes_multiple ((polynomials k).⊖◌ (polynomials k).𝟙) (value k l.den) den_takes))
            where
              minus : (a : Polynomial k)
                  → (polynomials k).⊖◌ a ≡ (polynomials k).◌⊗◌ ((polynomials k).⊖◌ (polynomials k).𝟙) a
              minus a = sym (neg_mul S (polynomials k).𝟙 a ∙ ap (polynomials k).⊖◌ (one_mul S a))

          m : ℕ
          m = (top_of_monic l.den lattice.monic).0

          l_size : length l.den ≡ suc (top_of_monic l.den lattice.monic).0
          l_size = (top_of_monic l.den lattice.monic).1

          top : (a : List ℕ) (a_in : IsOver k.ops a) (a_monic : IsMonicList a) → length a ≡ length l.den
              → coeff_of (code_ring k).ops (value k a).0 m ≡ (code_ring k).𝟙
          top a a_in a_monic a_size =
              let t = top_of_monic a a_monic in
              same_code k (coeff_of (code_ring k).ops (value k a).0 m) (code_ring k).𝟙
              (coeff_code k a m a_in ∙ ap (λ i. get_or a i 0) (position t.0 t.1) ∙ t.2)
            where
              position : (i : ℕ) → length a ≡ suc i → m ≡ i
              position i is = omega (arith, is, a_size, l_size)

          r_top : get_or (difference_of k.ops e l.den) m 0 ≡ 0
          r_top =
              sym (coeff_code k r m (IsOver_difference_of k e_in lattice.den_in))
              ∙ ap (λ (q : Polynomial k). (coeff_of (code_ring k).ops q.0 m).0) r_value
              ∙ ap (λ x. x.0)
              (series_add (code_ring k) (value k e) ((polynomials k).⊖◌ (value k l.den)) m
              ∙ ap₂ (code_ring k).◌⊕◌ (top e e_in e_monic size)
              (series_neg (code_ring k) (value k l.den) m
              ∙ ap (code_ring k).⊖◌ (top l.den lattice.den_in lattice.monic refl))
              ∙ (code_ring k).add_neg (code_ring k).𝟙)

          r_short : length (difference_of k.ops e l.den) ≤ suc (top_of_monic l.den lattice.monic).0
          r_short =
              let e_length = value_length k e e_in (monic_poly e e_monic) in
              let d_length = value_length k l.den lattice.den_in lattice.den_poly in
              let whole = length_add (code_ring k) (value k e) ((polynomials k).⊖◌ (value k l.den)) (suc m)
              (omega (arith, e_length, size, l_size))
              (length_neg (code_ring k) (value k l.den) (suc m) (omega (arith, d_length, l_size))) in
              omega (
                arith,
                whole,
                ap (λ (q : Polynomial k). length q.0) r_value,
                value_length k r
                    (IsOver_difference_of k e_in lattice.den_in) r_poly,
              )

          go : (q : List ℕ) → IsOver k.ops q → IsPoly q → q ≡ difference_of k.ops e l.den → Dec (q ≡ []) → e ≡ l.den
          go q q_in q_poly q_is (yes none) =
              same_from_value k e l.den e_in lattice.den_in (monic_poly e e_monic) lattice.den_poly
              (eq_of_sub S (value k e) (value k l.den) (sym r_value ∙ ap (value k) (sym q_is ∙ none) ∙ value_nil k))
          go q q_in q_poly q_is (no some) =
              let t = top_some q q_poly some in
              let short : length q ≤ suc m = omega (arith, r_short, ap length q_is) in
              let shorter : length q ≤ m = shrink q (length q) refl short t.0 t.1 (ap (λ x. get_or x m 0) q_is ∙ r_top)
              in
              let inverse = k.inv (top_of q) in
              let top_in = get_or_below k q (length q - 1) q_in in
              let inverse_in = k.laws.inv_below (top_of q) top_in t.1 in
              let monic = IsMonic_multiple k q q_in t.1 t.0 in
              let long = takes_long (multiple_of k.ops q inverse) (IsOver_multiple_of k q_in inverse_in) monic
              (subst (Takes (Contains k p l)) (sym (value_multiple k q inverse q_in inverse_in))
              (takes_multiple (constant_poly k inverse) (value k q)
              (subst (λ x. Takes (Contains k p l) (value k x)) (sym q_is) takes_r))) in
              absurd (omega (arith, long, l_size, shorter, multiple_short q inverse))
            where
              shrink : (q : List ℕ) (i : ℕ) → length q ≡ i → i ≤ suc m → 0 < length q → get_or q (length q - 1) 0 ≢ 0
                  → get_or q m 0 ≡ 0 → i ≤ m
              shrink q i is le positive some none = at (cases_lt m i)
                where
                  at : (m < i) ⊎ (i ≤ m) → i ≤ m
                  at (inr lower) = lower
                  at (inl higher) = absurd (some (ap (λ j. get_or q j 0) (omega (arith, is, le, higher)) ∙ none))

              multiple_short : (q : List ℕ) (a : ℕ) → length (multiple_of k.ops q a) ≤ length q
              multiple_short q a = omega (
                arith,
                trim_length is_zero_code (scale_list (raw_ring k.ops) a q),
                length-map q
                    ((raw_ring k.ops).◌⊗◌ a),
              )

    -- the same functions: the same multipliers, so the same denominator, and the same span
    module _ (l l' : LatticeValue) (lattice : IsLatticeValue k.ops p.n l) (lattice' : IsLatticeValue k.ops p.n l')
        (same : (z : Functions k p) → Contains k p l z ↔ Contains k p l' z) where
      takes_same : (E : Polynomial k) → Takes (Contains k p l') E → Takes (Contains k p l) E
      unfolding Takes
      takes_same E h z z_in = h z ((same z).0 z_in)

      takes_same' : (E : Polynomial k) → Takes (Contains k p l) E → Takes (Contains k p l') E
      unfolding Takes
      takes_same' E h z z_in = h z ((same z).1 z_in)

      den_same : l'.den ≡ l.den
      den_same =
          let d = takes_same (value k l'.den) (den_takes l' lattice') in
          den_unique l lattice l'.den lattice'.den_in lattice'.monic
          (omega (
            arith,
            takes_long l lattice l'.den lattice'.den_in lattice'.monic d,
            takes_long l' lattice' l.den lattice.den_in lattice.monic
                (takes_same' (value k l.den) (den_takes l lattice)),
          ))
          d

      pub one_form : 0 < p.n → l ≡ l'
      one_form positive =
          ap₂ (λ xs d. record { rows = xs; den = d })
          (one_basis l.den (D_some l lattice) l.rows l'.rows lattice.rows_in lattice'.rows_in lattice.popov
          lattice'.popov
          (λ z. subst (λ d. InSpanOf k p (elems_over l.rows l.den) z ↔ InSpanOf k p (elems_over l'.rows d) z) den_same
          (same z)) positive)
          (sym den_same)
