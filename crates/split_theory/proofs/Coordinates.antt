-- The coordinates of the powers of y in the functions of the rows of an infinite lattice.
use Rattle.std.proofs.Common.{◌≡◌, ℕ, zero, suc, ◌+◌, ◌-◌, ◌*◌, ◌<◌, ◌≤◌, ◌⊎◌, inl, inr, List, [], ◌∷◌, length, map, refl, sym, ◌∙◌, ap, ap₂, subst, arith, All}
use Rattle.std.proofs.lemmas.Bool.{cases_lt}
use Rattle.std.proofs.lemmas.List.{length-map}
use Rattle.std.proofs.lemmas.List.Elements.{All-nil, All-cons, All-head, All-tail}
use Rattle.ring_lemmas.specs.Ring.{pow}
use Rattle.ring_lemmas.proofs.Solver.{ring, reads}
use Rattle.ff_fields.specs.Field.{CodeField}
use Rattle.ff_fields.specs.Code.{code_ring}
use Rattle.ff_fields.specs.Over.{IsOver, IsOver_trim, IsOver_append, IsOver_zeros}
use Rattle.ff_poly.specs.Words.{shifted}
use Rattle.ff_poly.specs.Value.{value}
use Rattle.ff_poly.specs.Popov.{row_at, entry_at, IsRow}
use Rattle.ff_poly.specs.Polynomials.{Polynomial, polynomials, x_poly, codes_of, value_codes_of, IsOver_codes_of}
use Rattle.function_field.specs.Functions.{y_of}
use Rattle.function_field.specs.Values.{Functions, functions, setting, function_of, equation_of}
use Rattle.function_field.specs.Curves.{CurveValue, IsCurve, reversed_of}
use Rattle.function_field.proofs.InfinitePresentations.{over_reversed}
use Rattle.linear_theory.specs.Module.{combine}
use Rattle.linear_theory.proofs.Combination.{combine_cong}
use Rattle.lattice_theory.specs.Lattices.{polynomial_ops}
use Rattle.infinite_theory.specs.Supported.{IsSupportedAt}
use Rattle.space_theory.proofs.FunctionModule.{functions_module}
use Rattle.space_theory.proofs.LatticeBases.{lattice_of_span}
use Rattle.reduced_basis_theory.specs.Reduced.{InLattice}
use Rattle.ff_popov.proofs.Spans.{listed, listed_length, listed_at}
use Rattle.ff_lattice.specs.Lattices.{LatticeValue, IsLatticeValue, Contains, row_elems}
use Rattle.value_theory.proofs.InfiniteLattices.{some, image_of}
use Rattle.split_theory.specs.Splits.{infinite_rows, row_function, AreCoordinatesInT, AreCoordinates, turned_row, turned_from}
use Rattle.split_theory.proofs.InfiniteRows.{map_is, images, rows_count}
use Rattle.split_theory.proofs.RowFunctions.{get_map}
use Rattle.split_theory.proofs.Turned.{xs, ts, less_powers, image_power, y_power, image_combination}

-- rows of turned entries
turned_at : (c m j : ℕ) (q : List (List (List ℕ))) (i : ℕ) → i < length q
    → row_at (turned_from c m j q) i ≡ turned_row m (c * (j + i)) (row_at q i)
turned_at c m j [] i less = absurd (omega (arith, less))
turned_at c m j (row ∷ q) zero less = ap (λ l. turned_row m (c * l) row) (omega arith)
turned_at c m j (row ∷ q) (suc i) less =
    turned_at c m (suc j) q i (omega (arith, less)) ∙ ap (λ l. turned_row m (c * l) (row_at q i)) (omega arith)

turned_length : (c m j : ℕ) (q : List (List (List ℕ))) → length (turned_from c m j q) ≡ length q
turned_length c m j [] = refl
turned_length c m j (row ∷ q) = ap suc (turned_length c m (suc j) q)

module _ (k : CodeField) where
  turned_over : (m e : ℕ) (row : List (List ℕ)) → All (IsOver k.ops) row → All (IsOver k.ops) (turned_row m e row)
  turned_over m e [] h = All-nil (IsOver k.ops)
  turned_over m e (a ∷ row) h =
      All-cons (IsOver k.ops) (shifted (reversed_of a m) e) (turned_row m e row)
      (IsOver_trim _ (IsOver_append (IsOver_zeros k e) (over_reversed k a m (All-head (IsOver k.ops) a row h))))
      (turned_over m e row (All-tail (IsOver k.ops) a row h))

  turned_rows : (n c m j : ℕ) (q : List (List (List ℕ))) → All (IsRow k.ops n) q
      → All (IsRow k.ops n) (turned_from c m j q)
  turned_rows n c m j [] h = All-nil (IsRow k.ops n)
  turned_rows n c m j (row ∷ q) h =
      let r = All-head (IsRow k.ops n) row q h in
      All-cons (IsRow k.ops n) (turned_row m (c * j) row) (turned_from c m (suc j) q)
      (record {
        size = length-map row (λ a. shifted (reversed_of a m) (c * j)) ∙ r.size;
        over = turned_over m (c * j) row r.over;
      })
      (turned_rows n c m (suc j) q (All-tail (IsRow k.ops n) row q h))

-- a bound of all lengths
row_long : List (List ℕ) → ℕ
row_long [] = 0
row_long (a ∷ row) = length a + row_long row

all_long : List (List (List ℕ)) → ℕ
all_long [] = 0
all_long (row ∷ q) = row_long row + all_long q

row_bound : (row : List (List ℕ)) (i : ℕ) → length (entry_at row i) ≤ row_long row
unfolding row_long
row_bound [] i = omega arith
row_bound (a ∷ row) zero = omega arith
row_bound (a ∷ row) (suc i) = let h = row_bound row i in omega (arith, h)

all_bound : (q : List (List (List ℕ))) (j i : ℕ) → length (entry_at (row_at q j) i) ≤ all_long q
unfolding all_long
all_bound [] j i = omega arith
all_bound (row ∷ q) zero i = let h = row_bound row i in omega (arith, h)
all_bound (row ∷ q) (suc j) i = let h = all_bound q j i in omega (arith, h)

module _ (k : CodeField) (c : CurveValue) (curve : IsCurve k c) (inf : LatticeValue)
    (form : IsLatticeValue k.ops c.inf.n inf) where
  abbrev Y : ℕ → Functions k c.inf
  Y j = pow (functions k c.inf).ops (y_of (equation_of k c.inf)) j

  abbrev rows : List (Functions k c.inf)
  rows = map (function_of k c.inf) (row_elems inf)

  rows_size : length rows ≡ c.fin.n
  rows_size =
      let one = some k c curve in
      let a : length (map (image_of k c curve) rows) ≡ length rows = length-map rows (image_of k c curve) in
      let b : length (map (image_of k c curve) rows) ≡ length (infinite_rows k c inf)
      = ap length (images k c curve inf form) in
      let e = rows_count k c curve inf form in
      omega (arith, one, a, b, e)

  -- a power of t takes each power of Y into the lattice, so that there are coordinates
  module _ (tame : IsSupportedAt (equation_of k c.inf) (x_poly k) (Contains k c.inf inf)) where
    abbrev e : ℕ
    e = tame.exponent

    power : ℕ → Functions k c.inf
    power j = (functions k c.inf).◌⊗◌ (pow (functions k c.inf).ops (setting k c.inf).x tame.exponent) (Y j)

    has : (j : ℕ) → j < c.fin.n → InLattice (code_ring k) (polynomial_ops (equation_of k c.inf)) rows (power j)
    unfolding power
    has j less =
        let same : c.inf.n ≡ c.fin.n = curve.infinite.degree in
        lattice_of_span (equation_of k c.inf) rows _ (tame.has j (omega (arith, less, same)))

    choose : (j : ℕ) → (j < c.fin.n) ⊎ (c.fin.n ≤ j) → ℕ → Polynomial k
    choose j (inl less) = (has j less).coefficient
    choose j (inr more) = λ i. (polynomials k).𝟘

    coefficient : ℕ → ℕ → Polynomial k
    coefficient j = choose j (cases_lt j c.fin.n)

    coefficient_is : (j : ℕ) → j < c.fin.n
        → power j ≡ combine (polynomial_ops (equation_of k c.inf)) (coefficient j) rows
    unfolding coefficient choose
    coefficient_is j less = go (cases_lt j c.fin.n)
      where
        go : (s : (j < c.fin.n) ⊎ (c.fin.n ≤ j))
            → power j ≡ combine (polynomial_ops (equation_of k c.inf)) (choose j s) rows
        go (inl less) = (has j less).is
        go (inr more) = absurd (omega (arith, less, more))

    codes : ℕ → List (List ℕ)
    codes j = listed c.fin.n (λ i. codes_of k (coefficient j i))

    codes_row : (j : ℕ) → IsRow k.ops c.fin.n (codes j)
    unfolding codes
    codes_row j =
        let f = λ (i : ℕ). codes_of k (coefficient j i) in
        record {
          size = listed_length c.fin.n f;
          over = λ i d less.
              subst (IsOver k.ops) (sym (listed_at c.fin.n f i d (omega (arith, less, listed_length c.fin.n f))))
              (IsOver_codes_of k (coefficient j i));
        }

    codes_value : (j i : ℕ) → i < c.fin.n → value k (entry_at (codes j) i) ≡ coefficient j i
    unfolding codes
    codes_value j i less =
        ap (value k) (listed_at c.fin.n (λ i. codes_of k (coefficient j i)) i [] less)
        ∙ value_codes_of k (coefficient j i)

    matrix : List (List (List ℕ))
    matrix = listed c.fin.n codes

    matrix_at : (j : ℕ) → j < c.fin.n → row_at matrix j ≡ codes j
    unfolding matrix
    matrix_at j less = listed_at c.fin.n codes j [] less

    pub coordinates_in_t : (e : ℕ) × (q : List (List (List ℕ))) × AreCoordinatesInT k c inf e q
    unfolding matrix power
    coordinates_in_t = (
      tame.exponent,
      matrix,
      record {
        rows_in = λ j d less.
            subst (IsRow k.ops c.fin.n)
            (sym (listed_at c.fin.n codes j d (omega (arith, less, listed_length c.fin.n codes)))) (codes_row j);
        count = listed_length c.fin.n codes;
        each = λ j less.
            coefficient_is j less
            ∙ combine_cong (functions_module (equation_of k c.inf)) _ _ rows
            (λ i l. sym (ap (λ v. value k (entry_at v i)) (matrix_at j less)
            ∙ codes_value j i (omega (arith, l, rows_size))));
      },
    )

  -- from t to x
  pub turned_coordinates : (e D : ℕ) (q : List (List (List ℕ))) → AreCoordinatesInT k c inf e q → e ≤ D
      → ((j i : ℕ) → length (entry_at (row_at q j) i) ≤ D + 1)
      → AreCoordinates k c inf (D - e) (turned_from c.c (D + 1) 0 q)
  turned_coordinates e D q h le short = record {
    rows_in = turned_rows k c.fin.n c.c (D + 1) 0 q h.rows_in;
    count = turned_length c.c (D + 1) 0 q ∙ h.count;
    each = each;
  }
    where
      f : Functions k c.inf → Functions k c.fin
      f = image_of k c curve

      each : (j : ℕ) → j < c.fin.n
          → (functions k c.fin).◌⊗◌ (xs k c.fin (D - e))
          (pow (functions k c.fin).ops (y_of (equation_of k c.fin)) j)
          ≡ row_function k c inf (row_at (turned_from c.c (D + 1) 0 q) j)
      each j less =
          let q_j = row_at q j in
          let row : IsRow k.ops c.fin.n (row_at q j) = h.rows_in j [] (omega (arith, less, h.count)) in
          let F = f (pow (functions k c.inf).ops (y_of (equation_of k c.inf)) j) in
          ap₂ (functions k c.fin).◌⊗◌ (sym (less_powers k c.fin D e le))
          (sym (y_power k c.fin c.inf c.c f (map_is k c curve inf form) j))
          ∙ group (xs k c.fin D) (ts k c.fin e) (xs k c.fin (c.c * j)) F
          ∙ ap ((functions k c.fin).◌⊗◌ ((functions k c.fin).◌⊗◌ (xs k c.fin (c.c * j)) (xs k c.fin D)))
          (ap (λ w. (functions k c.fin).◌⊗◌ w F)
          (ap (λ w. pow (functions k c.fin).ops w e) (sym (map_is k c curve inf form).variable)
          ∙ sym (image_power k c.fin c.inf c.c f (map_is k c curve inf form) (setting k c.inf).x e))
          ∙ sym ((map_is k c curve inf form).isomorphism.hom.mul
          (pow (functions k c.inf).ops (setting k c.inf).x e) (Y j))
          ∙ ap f (h.each j less))
          ∙ image_combination k c.fin c.inf c.c f (map_is k c curve inf form) D (c.c * j) (λ i. entry_at q_j i) rows
          (λ i l. short j i)
          ∙ ap (combine (polynomial_ops (equation_of k c.fin))
          (λ i. value k (shifted (reversed_of (entry_at q_j i) (D + 1)) (c.c * j)))) (images k c curve inf form)
          ∙ combine_cong (functions_module (equation_of k c.fin)) _ _ (infinite_rows k c inf)
          (λ i l. ap (value k) (sym (entry_is j i (omega (arith, less, h.count))
          (omega (arith, l, row.size, rows_count k c curve inf form, some k c curve)))))
        where
          group : (D T E F : Functions k c.fin)
              → (functions k c.fin).◌⊗◌ ((functions k c.fin).◌⊗◌ D T) ((functions k c.fin).◌⊗◌ E F)
              ≡ (functions k c.fin).◌⊗◌ ((functions k c.fin).◌⊗◌ E D) ((functions k c.fin).◌⊗◌ T F)
          group D T E F =
              ring (functions k c.fin) (D ∷ T ∷ E ∷ F ∷ []) λ q i. simp (reads, q, i 0, i 1, i 2, i 3)
              (q.equal _ _ refl)

          entry_is : (j i : ℕ) → j < length q → i < length (row_at q j)
              → entry_at (row_at (turned_from c.c (D + 1) 0 q) j) i
              ≡ shifted (reversed_of (entry_at (row_at q j) i) (D + 1)) (c.c * j)
          entry_is j i j_in i_in =
              ap (λ v. entry_at v i)
              (turned_at c.c (D + 1) 0 q j j_in
              ∙ ap (λ l. turned_row (D + 1) (c.c * l) (row_at q j)) (omega arith))
              ∙ get_map (λ a. shifted (reversed_of a (D + 1)) (c.c * j)) [] [] (row_at q j) i i_in

  pub coordinates_in_x : IsSupportedAt (equation_of k c.inf) (x_poly k) (Contains k c.inf inf) → (s : ℕ)
      × (Q : List (List (List ℕ))) × AreCoordinates k c inf s Q
  coordinates_in_x tame =
      let t = coordinates_in_t tame in
      let D : ℕ = t.0 + all_long t.1 in (
        D - t.0,
        turned_from c.c (D + 1) 0 t.1,
        turned_coordinates t.0 D t.1 t.2 (omega arith)
            (λ j i. let b = all_bound t.1 j i in omega (arith, b)),
      )
