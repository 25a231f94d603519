-- Rows that are turned one by one.
use Rattle.std.proofs.Common.{◌≡◌, ℕ, suc, ◌+◌, ◌-◌, ◌*◌, ◌<◌, ◌≤◌, List, [], ◌∷◌, ◌++◌, ◌⊎◌, inl, inr, length, get_or, take, sym, ◌∙◌, ap, ap₂, arith, subst, below_more}
use Rattle.std.specs.Global.{Vec}
use Rattle.std.proofs.lemmas.List.{take_more, length-map, length-take-le, get_or_past}
use Rattle.std.proofs.lemmas.Bool.{cases_lt}
use Rattle.ff_poly.specs.Popov.{rows_of, row_at, entry_at}
use Rattle.ff_lattice.proofs.Pushes.{rows_push, read_row}
use Rattle.ff_fields.specs.Field.{CodeField}
use Rattle.function_field.specs.Curves.{CurveValue, IsCurve}
use Rattle.ff_lattice.specs.Lattices.{LatticeValue, IsLatticeValue}
use Rattle.split_theory.specs.Splits.{AreCoordinatesInT, AreCoordinates, turned_row, turned_from}
use Rattle.split_theory.proofs.Coordinates.{turned_coordinates}
use Rattle.ff_split.specs.Steps.{HaveEntriesWithin}

turned_push : (c m j : ℕ) (rows : List (List (List ℕ))) (v : List (List ℕ))
    → turned_from c m j (rows ++ v ∷ []) ≡ turned_from c m j rows ++ turned_row m (c * (j + length rows)) v ∷ []
turned_push c m j [] v = ap (λ e. turned_row m (c * e) v ∷ []) (omega arith)
turned_push c m j (r ∷ rows) v =
    ap (λ xs. turned_row m (c * j) r ∷ xs)
    (turned_push c m (suc j) rows v
    ∙ ap (λ e. turned_from c m (suc j) rows ++ turned_row m (c * e) v ∷ []) (omega arith))

-- one row more is turned
pub turned_more : (c m : ℕ) (old new rows : List (Vec (List ℕ))) (j : ℕ) (row v : Vec (List ℕ))
    → rows_of old ≡ turned_from c m 0 (take j (rows_of rows)) → j < length rows → row ≡ get_or rows j row
    → v.items ≡ turned_row m (c * j) row.items → new ≡ old ++ v ∷ []
    → rows_of new ≡ turned_from c m 0 (take (j + 1) (rows_of rows))
turned_more c m old new rows j row v so_far less row_is v_is new_is =
    let more : j < length (rows_of rows) = omega (arith, less, length-map rows (λ (u : Vec (List ℕ)). u.items)) in
    let size : length (take j (rows_of rows)) ≡ j = length-take-le j (rows_of rows) (omega (arith, more)) in
    ap rows_of new_is ∙ rows_push old v
    ∙ ap₂ (λ xs x. xs ++ x ∷ []) so_far (v_is ∙ ap₂ (λ e r. turned_row m (c * e) r) (omega (arith, size))
    (read_row rows j row less row_is))
    ∙ sym (turned_push c m 0 (take j (rows_of rows)) (row_at (rows_of rows) j))
    ∙ ap (turned_from c m 0) (sym (take_more (rows_of rows) j [] more))

-- one row more is short
pub longest_more : (rows : List (Vec (List ℕ))) (n : ℕ) (row : Vec (List ℕ)) (old new : ℕ) (v : List (List ℕ))
    → n < length rows → row ≡ get_or rows n row → v ≡ row.items
    → ((j i : ℕ) → j < n → length (entry_at (row_at (rows_of rows) j) i) ≤ old) → old ≤ new
    → ((i : ℕ) → length (entry_at v i) ≤ new)
    → (j i : ℕ) → j < n + 1 → length (entry_at (row_at (rows_of rows) j) i) ≤ new
longest_more rows n row old new v less row_is v_is so_far grows here j i below =
    below_more (λ j. (i : ℕ) → length (entry_at (row_at (rows_of rows) j) i) ≤ new) n
    (λ j l i. let s = so_far j i l in omega (arith, s, grows))
    (λ i. subst (λ u. length (entry_at u i) ≤ new) (v_is ∙ read_row rows n row less row_is) (here i)) j below i

-- rows that are all short
pub all_short : (rows : List (Vec (List ℕ))) (n m : ℕ) → length rows ≤ n
    → ((j i : ℕ) → j < n → length (entry_at (row_at (rows_of rows) j) i) ≤ m) → HaveEntriesWithin m (rows_of rows)
all_short rows n m le each = record { each = λ j i. go j i (cases_lt j n) }
  where
    go : (j i : ℕ) → (j < n) ⊎ (n ≤ j) → length (entry_at (row_at (rows_of rows) j) i) ≤ m
    go j i (inl less) = each j i less
    go j i (inr past) =
        let size = length-map rows (λ (u : Vec (List ℕ)). u.items) in
        let none : row_at (rows_of rows) j ≡ [] = get_or_past (rows_of rows) j [] (omega (arith, le, past, size)) in
        rw none (omega arith)

-- coordinates in t that are turned are coordinates in x
pub turned_are : (k : CodeField) (c : CurveValue) (inf : LatticeValue) → IsCurve k c → IsLatticeValue k.ops c.inf.n inf
    → (e least m : ℕ) (q Q : List (List (List ℕ))) → AreCoordinatesInT k c inf e q → least ≡ e + 1 → least ≤ m
    → HaveEntriesWithin m q → Q ≡ turned_from c.c m 0 q → AreCoordinates k c inf (m - least) Q
turned_are k c inf curve form e least m q Q coordinates least_is le short is =
    let top : (m - 1) + 1 ≡ m = omega (arith, le, least_is) in
    let exponent : (m - 1) - e ≡ m - least = omega (arith, le, least_is) in
    subst (λ s. AreCoordinates k c inf s Q) exponent
    (subst (AreCoordinates k c inf ((m - 1) - e)) (ap (λ n. turned_from c.c n 0 q) top ∙ sym is)
    (turned_coordinates k c curve inf form e (m - 1) q coordinates (omega (arith, le, least_is))
    (λ j i. let s = short.each j i in omega (arith, s, top))))
