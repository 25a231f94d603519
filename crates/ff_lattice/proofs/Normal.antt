-- Rows in Popov form over a monic polynomial, with the denominator made least.
use Rattle.std.proofs.Common.{◌≡◌, ◌≢◌, ℕ, zero, suc, ◌<◌, ◌≤◌, ◌⊎◌, inl, inr, List, [], ◌∷◌, length, get_or, map, refl, sym, ◌∙◌, ap, subst, arith, All}
use Rattle.std.proofs.lemmas.Bool.{cases_lt}
use Rattle.std.proofs.lemmas.List.Elements.{All-nil, All-cons, All-head, All-tail}
use Rattle.ring_lemmas.proofs.Lists.{IsTrimmed_push}
use Rattle.ring_lemmas.proofs.Solver.{ring, reads}
use Rattle.ff_fields.specs.Field.{CodeField}
use Rattle.ff_fields.specs.Code.{is_zero_code}
use Rattle.ff_fields.specs.Over.{IsOver}
use Rattle.ff_poly.specs.Words.{IsPoly, IsMonicList, DividesList, product_of}
use Rattle.ff_poly.specs.PolyOver.{IsOver_product_of}
use Rattle.ff_poly.specs.Value.{value, value_product}
use Rattle.ff_poly.specs.Polynomials.{Polynomial, polynomials}
use Rattle.ff_poly.specs.Popov.{row_at, entry_at, IsRow, IsPopovMatrix, multiple_of_row}
use Rattle.ff_poly.proofs.Parts.{top_of_monic}
use Rattle.ff_poly.proofs.Results.{product_of_nil}
use Rattle.ff_popov.proofs.Entries.{any_default}
use Rattle.ff_popov.proofs.ReadRows.{past_row}
use Rattle.ff_lattice.specs.Lattices.{LatticeValue, IsForm, IsLatticeValue, IsMultiplier}
use Rattle.ff_lattice.specs.Steps.{IsLeastMultiplier, IsQuotientOfRows, IsReducedTo}
use Rattle.ff_lattice.proofs.Elements.{DividesPol, divides_codes}
use Rattle.ff_lattice.proofs.Scaled.{monic_factor, popov_from_multiples}
use Rattle.ff_lattice.proofs.Divisors.{pol_self, pol_scale, pol_cancel, divides_product, divides_self, divisor_short, monic_value, product_comm}

-- what is monic has no zero on top
pub monic_poly : (d : List ℕ) → IsMonicList d → IsPoly d
monic_poly d (lower, d_is) = subst IsPoly (sym d_is) (record { trimmed = IsTrimmed_push is_zero_code lower 1 refl })

pub monic_positive : (d : List ℕ) → IsMonicList d → 0 < length d
monic_positive d monic = omega (arith, (top_of_monic d monic).1)

pub monic_some : (d : List ℕ) → IsMonicList d → d ≢ []
monic_some d monic e = absurd (omega (arith, monic_positive d monic, ap length e))

-- a fact of each entry of rows in Popov form
pub popov_poly : (n : ℕ) (rows : List (List (List ℕ))) → IsPopovMatrix n rows → All (All IsPoly) rows
popov_poly n rows p i d less j e j_less =
    subst (λ row. IsPoly (get_or row j e)) (any_default rows i [] d less)
    (subst IsPoly (any_default (row_at rows i) j [] e
    (subst (λ row. j < length row) (sym (any_default rows i [] d less)) j_less)) (p.trimmed i j))

-- and back
pub trimmed_rows : (rows : List (List (List ℕ))) → All (All IsPoly) rows → (i j : ℕ)
    → IsPoly (entry_at (row_at rows i) j)
trimmed_rows rows all i j = go (cases_lt i (length rows))
  where
    entry : (row : List (List ℕ)) → All IsPoly row → IsPoly (entry_at row j)
    entry row h = at (cases_lt j (length row))
      where
        at : (j < length row) ⊎ (length row ≤ j) → IsPoly (entry_at row j)
        at (inl less) = h j [] less
        at (inr past) = subst IsPoly (sym (past_row row j past)) (record { trimmed = tt })

    past_rows : (xs : List (List (List ℕ))) (i : ℕ) → length xs ≤ i → row_at xs i ≡ []
    past_rows [] i le = refl
    past_rows (x ∷ xs) zero le = absurd (omega (arith, le))
    past_rows (x ∷ xs) (suc i) le = past_rows xs i (omega (arith, le))

    go : (i < length rows) ⊎ (length rows ≤ i) → IsPoly (entry_at (row_at rows i) j)
    go (inl less) = entry (row_at rows i) (all i [] less)
    go (inr past) = subst (λ row. IsPoly (entry_at row j)) (sym (past_rows rows i past)) (record { trimmed = tt })

module _ (k : CodeField) where
  -- u·v for v = g·w
  inner : (u g w : Polynomial k) → (polynomials k).◌⊗◌ u ((polynomials k).◌⊗◌ g w)
      ≡ (polynomials k).◌⊗◌ g ((polynomials k).◌⊗◌ u w)
  inner u g w = ring (polynomials k).ring (u ∷ g ∷ w ∷ []) λ q x. simp (reads, q, x 0, x 1, x 2) (q.equal _ _ refl)

  module _ (g h e : List ℕ) (g_in : IsOver k.ops g) (h_in : IsOver k.ops h) (e_in : IsOver k.ops e)
      (e_is : e ≡ product_of k.ops h g) where
    e_value : value k e ≡ (polynomials k).◌⊗◌ (value k g) (value k h)
    e_value = ap (value k) e_is ∙ value_product k h g h_in g_in ∙ (polynomials k).mul_comm (value k h) (value k g)

    -- h divides u·w, so e divides u·(g·w)
    scaled_entry : (u w : List ℕ) → IsOver k.ops u → IsOver k.ops w → DividesList k.ops h (product_of k.ops u w)
        → DividesList k.ops e (product_of k.ops u (product_of k.ops g w))
    scaled_entry u w u_in w_in d =
        (divides_product k e u (product_of k.ops g w) e_in u_in (IsOver_product_of k g_in w_in)).1
        (subst (λ x. DividesPol k x ((polynomials k).◌⊗◌ (value k u) (value k (product_of k.ops g w)))) (sym e_value)
        (subst (DividesPol k ((polynomials k).◌⊗◌ (value k g) (value k h)))
        (sym (ap ((polynomials k).◌⊗◌ (value k u)) (value_product k g w g_in w_in)
        ∙ inner (value k u) (value k g) (value k w)))
        (pol_scale k (value k g) (value k h) ((polynomials k).◌⊗◌ (value k u) (value k w))
        ((divides_product k h u w h_in u_in w_in).0 d))))

    scaled_row : (u : List ℕ) (row : List (List ℕ)) → IsOver k.ops u → All (IsOver k.ops) row
        → All (λ w. DividesList k.ops h (product_of k.ops u w)) row
        → All (λ v. DividesList k.ops e (product_of k.ops u v)) (multiple_of_row k.ops g row)
    scaled_row u [] u_in over d = All-nil (λ v. DividesList k.ops e (product_of k.ops u v))
    scaled_row u (w ∷ row) u_in over d =
        All-cons (λ v. DividesList k.ops e (product_of k.ops u v)) (product_of k.ops g w) (multiple_of_row k.ops g row)
        (scaled_entry u w u_in (All-head (IsOver k.ops) w row over)
        (All-head (λ w. DividesList k.ops h (product_of k.ops u w)) w row d))
        (scaled_row u row u_in (All-tail (IsOver k.ops) w row over)
        (All-tail (λ w. DividesList k.ops h (product_of k.ops u w)) w row d))

    scaled_rows : (n : ℕ) (u : List ℕ) (rows : List (List (List ℕ))) → IsOver k.ops u → All (IsRow k.ops n) rows
        → IsMultiplier k.ops rows h u → IsMultiplier k.ops (map (multiple_of_row k.ops g) rows) e u
    scaled_rows n u rows u_in over m = record { each = go rows over m.each }
      where
        T : List (List ℕ) → Type 0
        T row = All (λ w. DividesList k.ops h (product_of k.ops u w)) row

        T' : List (List ℕ) → Type 0
        T' row = All (λ v. DividesList k.ops e (product_of k.ops u v)) row

        go : (rows : List (List (List ℕ))) → All (IsRow k.ops n) rows
            → All (λ row. All (λ w. DividesList k.ops h (product_of k.ops u w)) row) rows
            → All (λ row. All (λ v. DividesList k.ops e (product_of k.ops u v)) row)
            (map (multiple_of_row k.ops g) rows)
        go [] over d = All-nil (λ row. All (λ v. DividesList k.ops e (product_of k.ops u v)) row)
        go (row ∷ rows) over d =
            All-cons (λ row. All (λ v. DividesList k.ops e (product_of k.ops u v)) row) (multiple_of_row k.ops g row)
            (map (multiple_of_row k.ops g) rows)
            (scaled_row u row u_in (All-head (IsRow k.ops n) row rows over).over
            (All-head (λ row. All (λ w. DividesList k.ops h (product_of k.ops u w)) row) row rows d))
            (go rows (All-tail (IsRow k.ops n) row rows over)
            (All-tail (λ row. All (λ w. DividesList k.ops h (product_of k.ops u w)) row) row rows d))

  module _ (n : ℕ) (rows : List (List (List ℕ))) (e h : List ℕ) (rows_in : All (IsRow k.ops n) rows)
      (popov : IsPopovMatrix n rows) (e_in : IsOver k.ops e) (e_monic : IsMonicList e)
      (m : IsLeastMultiplier k.ops rows e h) where
    e_poly : IsPoly e
    e_poly = monic_poly e e_monic

    e_each : (row : List (List ℕ)) → All (IsOver k.ops) row → All (λ v. DividesList k.ops e (product_of k.ops e v)) row
    e_each [] over = All-nil (λ v. DividesList k.ops e (product_of k.ops e v))
    e_each (v ∷ row) over =
        let v_in = All-head (IsOver k.ops) v row over in
        All-cons (λ v. DividesList k.ops e (product_of k.ops e v)) v row
        ((divides_product k e e v e_in e_in v_in).1 (pol_self k (value k e) (value k v)))
        (e_each row (All-tail (IsOver k.ops) v row over))

    -- e takes the rows into its multiples, so that h divides it
    pub h_divides : DividesList k.ops h e
    h_divides = (m.divides e e_in e_poly).1 (record { each = go rows rows_in })
      where
        go : (rows : List (List (List ℕ))) → All (IsRow k.ops n) rows
            → All (λ row. All (λ v. DividesList k.ops e (product_of k.ops e v)) row) rows
        go [] over = All-nil (λ row. All (λ v. DividesList k.ops e (product_of k.ops e v)) row)
        go (row ∷ rows) over =
            All-cons (λ row. All (λ v. DividesList k.ops e (product_of k.ops e v)) row) row rows
            (e_each row (All-head (IsRow k.ops n) row rows over).over)
            (go rows (All-tail (IsRow k.ops n) row rows over))

    module _ (g : List ℕ) (g_in : IsOver k.ops g) (g_poly : IsPoly g) (e_is : e ≡ product_of k.ops h g) where
      pub g_some : g ≢ []
      g_some none = absurd (omega (
        arith,
        monic_positive e e_monic,
        ap length
            (e_is ∙ ap (product_of k.ops h) none ∙ product_of_nil k.ops h),
      ))

      g_positive : (g : List ℕ) → g ≢ [] → 0 < length g
      g_positive [] some = absurd (some refl)
      g_positive (c ∷ g) some = omega arith

      pub g_monic : IsMonicList g
      g_monic = monic_factor k h g m.over m.poly m.monic g_in g_poly (g_positive g g_some) (subst IsMonicList e_is e_monic)

      entry_divides : (v : List ℕ) → IsOver k.ops v → IsPoly v → DividesList k.ops e (product_of k.ops h v)
          → DividesList k.ops g v
      entry_divides v v_in v_poly d =
          divides_codes k g v g_in v_in v_poly
          (pol_cancel k (value k h) (value k g) (value k v) (monic_value k h m.over m.poly m.monic)
          (subst (λ x. DividesPol k x ((polynomials k).◌⊗◌ (value k h) (value k v)))
          (ap (value k) e_is ∙ value_product k h g m.over g_in)
          ((divides_product k e h v e_in m.over v_in).0 d)))

      row_divides : (row : List (List ℕ)) → All (IsOver k.ops) row → All IsPoly row
          → All (λ v. DividesList k.ops e (product_of k.ops h v)) row → All (DividesList k.ops g) row
      row_divides [] over poly d = All-nil (DividesList k.ops g)
      row_divides (v ∷ row) over poly d =
          All-cons (DividesList k.ops g) v row
          (entry_divides v (All-head (IsOver k.ops) v row over) (All-head IsPoly v row poly)
          (All-head (λ v. DividesList k.ops e (product_of k.ops h v)) v row d))
          (row_divides row (All-tail (IsOver k.ops) v row over) (All-tail IsPoly v row poly)
          (All-tail (λ v. DividesList k.ops e (product_of k.ops h v)) v row d))

      -- the common factor divides each entry
      pub g_divides : All (All (DividesList k.ops g)) rows
      g_divides = go rows rows_in (popov_poly n rows popov)
          ((m.divides h m.over m.poly).0 (divides_self k h m.over m.poly)).each
        where
          go : (rows : List (List (List ℕ))) → All (IsRow k.ops n) rows → All (All IsPoly) rows
              → All (λ row. All (λ v. DividesList k.ops e (product_of k.ops h v)) row) rows
              → All (All (DividesList k.ops g)) rows
          go [] over poly d = All-nil (All (DividesList k.ops g))
          go (row ∷ rows) over poly d =
              All-cons (All (DividesList k.ops g)) row rows
              (row_divides row (All-head (IsRow k.ops n) row rows over).over (All-head (All IsPoly) row rows poly)
              (All-head (λ row. All (λ v. DividesList k.ops e (product_of k.ops h v)) row) row rows d))
              (go rows (All-tail (IsRow k.ops n) row rows over) (All-tail (All IsPoly) row rows poly)
              (All-tail (λ row. All (λ v. DividesList k.ops e (product_of k.ops h v)) row) row rows d))

      module _ (quotients : List (List (List ℕ))) (q : IsQuotientOfRows k.ops g n rows quotients) where
        quotients_popov : IsPopovMatrix n quotients
        quotients_popov =
            popov_from_multiples k g g_in g_poly g_monic n quotients q.rows_in (trimmed_rows quotients q.poly)
            (subst (IsPopovMatrix n) (sym q.is) popov)

        least : (u : List ℕ) → IsOver k.ops u → IsMonicList u → IsMultiplier k.ops quotients h u → length h ≤ length u
        least u u_in u_monic mult =
            divisor_short k h u m.over m.poly
            ((m.divides u u_in (monic_poly u u_monic)).1
            (subst (λ xs. IsMultiplier k.ops xs e u) q.is
            (scaled_rows g h e g_in m.over e_in e_is n u quotients u_in q.rows_in mult)))
            (monic_positive u u_monic)

        pub normal_lattice : IsLatticeValue k.ops n (record { rows = quotients; den = h })
        normal_lattice = record {
          rows_in = q.rows_in;
          popov = quotients_popov;
          den_in = m.over;
          den_poly = m.poly;
          monic = m.monic;
          least = least;
        }

        pub normal_reduced : IsReducedTo k.ops rows e (record { rows = quotients; den = h })
        normal_reduced = record {
          factor = g;
          factor_in = g_in;
          factor_poly = g_poly;
          factor_monic = g_monic;
          den_is = e_is ∙ product_comm k h g m.over g_in;
          rows_are = q.is;
        }

-- the form without the field
pub form_of : (k : CodeField) (n : ℕ) (l : LatticeValue) → IsLatticeValue k.ops n l → IsForm l
form_of k n l h = record {
  popov = subst (λ m. IsPopovMatrix m l.rows) (sym h.popov.size) h.popov;
  den_poly = h.den_poly;
  monic = h.monic;
}
