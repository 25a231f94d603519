-- The steps of the calls on quotients.
use Rattle.std.proofs.Common.{◌≡◌, ℕ, suc, ◌+◌, ◌-◌, ◌<◌, ◌≤◌, ◌↔◌, ◌⊎◌, inl, inr, List, [], ◌∷◌, ◌++◌, length, get_or, map, take, refl, sym, ◌∙◌, ap, ap₂, subst, arith, All, Some}
use Rattle.std.specs.Prelude.{slice_get}
use Rattle.std.specs.Global.{Vec}
use Rattle.std.proofs.lemmas.Bool.{cases_lt}
use Rattle.std.proofs.lemmas.List.{get_or-map, length-map, length-append, get_or_append_left, get_or-append_right, take_more}
use Rattle.std.proofs.lemmas.Option.{get_or_from_slice_get}
use Rattle.ring_theory.specs.Subsets.{Span}
use Rattle.ff_fields.specs.Field.{CodeField}
use Rattle.ff_poly.specs.Words.{IsPoly}
use Rattle.ff_poly.specs.Value.{value}
use Rattle.ff_poly.specs.Polynomials.{polynomials}
use Rattle.ff_poly.specs.Popov.{rows_of, row_at, IsRow, IsPopovMatrix, HaveSameRowSpan, HasFullRankMatrix}
use Rattle.ff_popov.proofs.Entries.{any_default}
use Rattle.function_field.specs.Functions.{IsPolynomial}
use Rattle.function_field.specs.Values.{ElemValue, PresValue, Functions, functions, function_of, equation_of}
use Rattle.ff_lattice.specs.Lattices.{LatticeValue, IsLatticeValue, Contains, InSpanOf, IsFullLattice, elems_over, row_elems}
use Rattle.ff_lattice.specs.Quotients.{IsRowOf, IsRowsOf, AreRowProducts, AreProducts}
use Rattle.ff_lattice.proofs.Divisors.{monic_value}
use Rattle.ff_lattice.proofs.Normal.{popov_poly}
use Rattle.ff_lattice.proofs.Pushes.{rows_push}
use Rattle.ff_lattice.proofs.RowElems.{elem_at, elems_length}
use Rattle.ff_lattice.proofs.SpannedSets.{rank_of_full, lattice_full, same_set}
use Rattle.ff_lattice.proofs.SumsAndProducts.{map_join}

-- the matrices that vectors hold
abbrev pub matrices_of : List (Vec (Vec (List ℕ))) → List (List (List (List ℕ)))
matrices_of ms = map (λ m. rows_of m.items) ms

pub read_matrix : (ms : List (Vec (Vec (List ℕ)))) (i : ℕ) (m : Vec (Vec (List ℕ))) → i < length ms → m ≡ get_or ms i m
    → rows_of m.items ≡ get_or (matrices_of ms) i []
read_matrix ms i m less is = ap (λ m. rows_of m.items) is ∙ sym (get_or-map (λ m. rows_of m.items) ms i m [] less)

-- one row more
-- one list of rows more of the same
pub copied_matrices : (old new ms : List (Vec (Vec (List ℕ)))) (i : ℕ) (m v : Vec (Vec (List ℕ)))
    → matrices_of old ≡ take i (matrices_of ms) → i < length ms → m ≡ get_or ms i m → rows_of v.items ≡ rows_of m.items
    → new ≡ old ++ v ∷ []
    → matrices_of new ≡ take (i + 1) (matrices_of ms)
copied_matrices old new ms i m v so_far less m_is v_is new_is =
    let more : i < length (matrices_of ms) = omega (arith, less, length-map ms (λ m. rows_of m.items)) in
    ap matrices_of new_is ∙ map_join (λ m. rows_of m.items) old (v ∷ [])
    ∙ ap₂ (λ xs x. xs ++ x ∷ []) so_far (v_is ∙ read_matrix ms i m less m_is)
    ∙ sym (take_more (matrices_of ms) i [] more)

pub rows_more : (f : List (List (List ℕ)) → List (List ℕ)) (products : List (List (List (List ℕ))))
    (old new : List (Vec (List ℕ))) (q : Vec (List ℕ)) (i : ℕ) (rows : List (List (List ℕ))) → i < length products
    → rows ≡ get_or products i [] → q.items ≡ f rows → new ≡ old ++ q ∷ [] → rows_of old ≡ map f (take i products)
    → rows_of new ≡ map f (take (i + 1) products)
rows_more f products old new q i rows less rows_is q_is new_is so_far =
    ap rows_of new_is ∙ rows_push old q ∙ ap₂ (λ xs x. xs ++ x ∷ []) so_far (q_is ∙ ap f rows_is)
    ∙ sym (ap (map f) (take_more products i [] less) ∙ map_join f (take i products) (get_or products i [] ∷ []))

module _ (k : CodeField) (p : PresValue) (l : LatticeValue) where
  -- one element more, and its row
  pub rows_of_push : (zs : List ElemValue) (rows : List (List (List ℕ))) (z : ElemValue) (row : List (List ℕ))
      → IsRowsOf k p l zs rows → IsRowOf k p l (function_of k p z) row
      → IsRowsOf k p l (zs ++ z ∷ []) (rows ++ row ∷ [])
  rows_of_push zs rows z row h r = record {
    size = length-append rows (row ∷ []) ∙ ap (λ m. m + 1) h.size ∙ sym (length-append zs (z ∷ []));
    each = λ j d less. go j d less (cases_lt j (length zs));
  }
    where
      go : (j : ℕ) (d : ElemValue) → j < length (zs ++ z ∷ []) → (j < length zs) ⊎ (length zs ≤ j)
          → IsRowOf k p l (function_of k p (get_or (zs ++ z ∷ []) j d)) (row_at (rows ++ row ∷ []) j)
      go j d less (inl lower) =
          subst (λ x. IsRowOf k p l (function_of k p x) (row_at (rows ++ row ∷ []) j))
          (sym (get_or_append_left zs (z ∷ []) d j lower))
          (subst (IsRowOf k p l (function_of k p (get_or zs j d)))
          (sym (get_or_append_left rows (row ∷ []) [] j (omega (arith, lower, h.size)))) (h.each j d lower))
      go j d less (inr more) =
          let last : j - length zs ≡ 0 = omega (arith, less, length-append zs (z ∷ []), more) in
          let last_row : j - length rows ≡ 0 = omega (arith, last, h.size) in
          subst (λ x. IsRowOf k p l (function_of k p x) (row_at (rows ++ row ∷ []) j))
          (sym (get_or-append_right zs (z ∷ []) (length zs) j d refl more ∙ ap (λ m. get_or (z ∷ []) m d) last))
          (subst (IsRowOf k p l (function_of k p z))
          (sym (get_or-append_right rows (row ∷ []) (length rows) j [] refl (omega (arith, more, h.size))
          ∙ ap (λ m. get_or (row ∷ []) m []) last_row)) r)

  pub rows_of_more : (zs : List ElemValue) (old new : List (Vec (List ℕ))) (q : Vec (List ℕ)) (i : ℕ) (z : ElemValue)
      → i < length zs → z ≡ get_or zs i z → IsRowOf k p l (function_of k p z) q.items → new ≡ old ++ q ∷ []
      → IsRowsOf k p l (take i zs) (rows_of old) → IsRowsOf k p l (take (i + 1) zs) (rows_of new)
  rows_of_more zs old new q i z less z_is r new_is h =
      subst (λ ys. IsRowsOf k p l ys (rows_of new)) (ap (λ x. take i zs ++ x ∷ []) z_is ∙ sym (take_more zs i z less))
      (subst (IsRowsOf k p l (take i zs ++ z ∷ [])) (sym (ap rows_of new_is ∙ rows_push old q))
      (rows_of_push (take i zs) (rows_of old) z q.items h r))

  pub rows_of_none : (zs : List ElemValue) → IsRowsOf k p l (take 0 zs) []
  rows_of_none zs = record { size = refl; each = λ j d less. absurd (omega (arith, less)) }

  -- the rows stand for the same functions
  pub rows_functions : (zs : List ElemValue) (rows : List (List (List ℕ))) → IsRowsOf k p l zs rows
      → map (function_of k p) (elems_over rows l.den) ≡ map (function_of k p) zs
  rows_functions [] [] h = refl
  rows_functions [] (row ∷ rows) h = absurd (omega (arith, h.size))
  rows_functions (z ∷ zs) [] h = absurd (omega (arith, h.size))
  rows_functions (z ∷ zs) (row ∷ rows) h =
      ap₂ ◌∷◌ (h.each 0 z (omega arith)).is
      (rows_functions zs rows (record {
        size = omega (arith, h.size);
        each = λ j d less. h.each (suc j) d
            (omega (arith, less));
      }))

  pub rows_are_rows : (zs : List ElemValue) (rows : List (List (List ℕ))) → IsRowsOf k p l zs rows
      → All (IsRow k.ops p.n) rows
  rows_are_rows [] rows h j d less = absurd (omega (arith, less, h.size))
  rows_are_rows (z ∷ zs) rows h j d less = subst (IsRow k.ops p.n) (any_default rows j [] d less)
      (h.each j z (omega (arith, less, h.size))).row_in

  pub rows_are_poly : (zs : List ElemValue) (rows : List (List (List ℕ))) → IsRowsOf k p l zs rows
      → All (All IsPoly) rows
  rows_are_poly [] rows h j d less = absurd (omega (arith, less, h.size))
  rows_are_poly (z ∷ zs) rows h j d less = subst (All IsPoly) (any_default rows j [] d less)
      (h.each j z (omega (arith, less, h.size))).row_poly

  module _ (lattice : IsLatticeValue k.ops p.n l) (i : LatticeValue) (i_lattice : IsLatticeValue k.ops p.n i)
      (rows : List (List (List ℕ))) (h : IsRowsOf k p l (row_elems i) rows) where
    some : ¬ (value k l.den ≡ (polynomials k).𝟘)
    some = monic_value k l.den lattice.den_in lattice.den_poly lattice.monic

    pub ideal_rank : 1 ≤ p.n → HasFullRankMatrix k.ops p.n rows
    ideal_rank positive =
        rank_of_full k p l.den some rows (rows_are_rows (row_elems i) rows h)
        (subst (λ fs. IsFullLattice k p (λ z. Span (functions k p).ops (IsPolynomial (equation_of k p)) fs z))
        (sym (rows_functions (row_elems i) rows h)) (lattice_full k p i positive i_lattice))

    pub ideal_members : (basis : List (List (List ℕ))) → IsPopovMatrix p.n basis → All (IsRow k.ops p.n) basis
        → HaveSameRowSpan k.ops p.n rows basis → (z : Functions k p)
        → Contains k p i z ↔ InSpanOf k p (elems_over basis l.den) z
    ideal_members basis popov basis_in same z =
        let sets = same_set k p l.den some rows basis (rows_are_rows (row_elems i) rows h) basis_in
        (rows_are_poly (row_elems i) rows h) (popov_poly p.n basis popov) same z in
        let e = rows_functions (row_elems i) rows h in
        let S = λ (fs : List (Functions k p)). Span (functions k p).ops (IsPolynomial (equation_of k p)) fs z in (
          λ x. sets.0 (subst S (sym e) x),
          λ x. subst S e (sets.1 x),
        )

  -- the products by one row more
  pub products_none : AreProducts k p l 0 []
  products_none = record {
    size = refl;
    each = λ i less. absurd (omega (arith, less));
    are = λ i j less j_less. absurd
        (omega (arith, less));
  }

  -- row i times each row
  module _ (i : ℕ) (less : i < length l.rows) (gens : List ElemValue) (z : ElemValue)
      (z_is : slice_get (row_elems l) i ≡ Some z)
      (gens_is : map (function_of k p) gens
      ≡ map ((functions k p).◌⊗◌ (function_of k p z)) (map (function_of k p) (row_elems l))) where
    abbrev f : ElemValue → Functions k p
    f x = function_of k p x

    abbrev row : ℕ → ElemValue
    row j = record { num = row_at l.rows j; den = l.den }

    gens_size : length gens ≡ length l.rows
    gens_size =
        sym (length-map gens (function_of k p)) ∙ ap length gens_is
        ∙ length-map (map (function_of k p) (row_elems l)) ((functions k p).◌⊗◌ (function_of k p z))
        ∙ length-map (row_elems l) (function_of k p) ∙ elems_length l

    z_row : z ≡ record { num = row_at l.rows i; den = l.den }
    z_row = sym (get_or_from_slice_get (row_elems l) i z z z_is)
        ∙ get_or_from_slice_get (row_elems l) i (record { num = row_at l.rows i; den = l.den }) z
        (elem_at l.rows l.den i less)

    product_at : (j : ℕ) → j < length l.rows
        → function_of k p (get_or gens j z) ≡ (functions k p).◌⊗◌ (function_of k p z)
        (function_of k p (record { num = row_at l.rows j; den = l.den }))
    product_at j j_less =
        sym (get_or-map f gens j z (f z) (omega (arith, j_less, gens_size)))
        ∙ ap (λ xs. get_or xs j (f z)) gens_is
        ∙ get_or-map ((functions k p).◌⊗◌ (f z)) (map f (row_elems l)) j (f z) (f z)
        (omega (arith, j_less, length-map (row_elems l) f, elems_length l))
        ∙ ap ((functions k p).◌⊗◌ (f z))
        (get_or-map f (row_elems l) j z (f z) (omega (arith, j_less, elems_length l))
        ∙ ap f (get_or_from_slice_get (row_elems l) j (row j) z (elem_at l.rows l.den j j_less)))

    pub row_products : (rows : List (List (List ℕ))) → IsRowsOf k p l gens rows → AreRowProducts k p l i rows
    row_products rows r = record {
      size = r.size ∙ gens_size;
      are = λ j j_less.
          subst (λ x. IsRowOf k p l x (row_at rows j))
          (product_at j j_less ∙ ap (λ x. (functions k p).◌⊗◌ (f x) (f (row j))) z_row)
          (r.each j z (omega (arith, j_less, gens_size)));
    }

  -- a row of the lattice as a function
  abbrev w : ℕ → Functions k p
  w i = function_of k p (record { num = row_at l.rows i; den = l.den })

  pub products_push : (count : ℕ) (ms : List (List (List (List ℕ)))) (rows : List (List (List ℕ)))
      → AreProducts k p l count ms → AreRowProducts k p l count rows → AreProducts k p l (count + 1) (ms ++ rows ∷ [])
  products_push count ms rows h r = record {
    size = length-append ms (rows ∷ []) ∙ ap (λ m. m + 1) h.size;
    each = λ i less. each i less (cases_lt i count);
    are = λ i j less j_less. are i j less j_less (cases_lt i count);
  }
    where
      at_old : (i : ℕ) → i < count → get_or (ms ++ rows ∷ []) i [] ≡ get_or ms i []
      at_old i lower = get_or_append_left ms (rows ∷ []) [] i (omega (arith, lower, h.size))

      at_new : (i : ℕ) → i < count + 1 → count ≤ i → get_or (ms ++ rows ∷ []) i [] ≡ rows
      at_new i less more =
          let last : i - length ms ≡ 0 = omega (arith, less, more, h.size) in
          get_or-append_right ms (rows ∷ []) (length ms) i [] refl (omega (arith, more, h.size))
          ∙ ap (λ m. get_or (rows ∷ []) m []) last

      each : (i : ℕ) → i < count + 1 → (i < count) ⊎ (count ≤ i)
          → length (get_or (ms ++ rows ∷ []) i []) ≡ length l.rows
      each i less (inl lower) = ap length (at_old i lower) ∙ h.each i lower
      each i less (inr more) = ap length (at_new i less more) ∙ r.size

      are : (i j : ℕ) → i < count + 1 → j < length l.rows → (i < count) ⊎ (count ≤ i)
          → IsRowOf k p l ((functions k p).◌⊗◌ (function_of k p (record { num = row_at l.rows i; den = l.den }))
          (function_of k p (record { num = row_at l.rows j; den = l.den })))
          (row_at (get_or (ms ++ rows ∷ []) i []) j)
      are i j less j_less (inl lower) = subst (λ m. IsRowOf k p l ((functions k p).◌⊗◌ (w i) (w j)) (row_at m j))
          (sym (at_old i lower)) (h.are i j lower j_less)
      are i j less j_less (inr more) =
          let here : count ≡ i = omega (arith, less, more) in
          subst (λ m. IsRowOf k p l ((functions k p).◌⊗◌ (w i) (w j)) (row_at m j)) (sym (at_new i less more))
          (subst (λ m. IsRowOf k p l ((functions k p).◌⊗◌ (w m) (w j)) (row_at rows j)) here (r.are j j_less))
