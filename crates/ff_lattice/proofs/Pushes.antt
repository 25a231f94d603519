-- Lists of rows that grow by one row at a time.
use Rattle.std.proofs.Common.{◌≡◌, ℕ, ◌+◌, ◌<◌, List, [], ◌∷◌, ◌++◌, length, get_or, map, take, refl, sym, ap, ap₂, ◌∙◌, arith, subst, append_assoc}
use Rattle.std.specs.Prelude.{All}
use Rattle.std.specs.Global.{Vec}
use Rattle.std.proofs.lemmas.List.{take_more, length-map}
use Rattle.ff_poly.specs.Popov.{rows_of, row_at}
use Rattle.ff_popov.proofs.Entries.{row_of}

pub rows_push : (vs : List (Vec (List ℕ))) (v : Vec (List ℕ)) → rows_of (vs ++ v ∷ []) ≡ rows_of vs ++ v.items ∷ []
rows_push [] v = refl
rows_push (u ∷ vs) v = ap (λ xs. u.items ∷ xs) (rows_push vs v)

map_push : {X Y : Type 0} (f : X → Y) (xs : List X) (x : X) → map f (xs ++ x ∷ []) ≡ map f xs ++ f x ∷ []
map_push f [] x = refl
map_push f (y ∷ xs) x = ap (λ ys. f y ∷ ys) (map_push f xs x)

-- the row at an index of the vectors
pub read_row : (vs : List (Vec (List ℕ))) (i : ℕ) (v : Vec (List ℕ)) → i < length vs → v ≡ get_or vs i v
    → v.items ≡ row_at (rows_of vs) i
read_row vs i v less is = ap (λ u. u.items) is ∙ sym (row_of vs i v less)

-- the image of one row more
pub pushed_rows : (f : List (List ℕ) → List (List ℕ)) (old new : List (Vec (List ℕ))) (start : List (List (List ℕ)))
    (rows : List (Vec (List ℕ))) (i : ℕ) (row v : Vec (List ℕ))
    → rows_of old ≡ start ++ map f (take i (rows_of rows)) → i < length rows → row ≡ get_or rows i row
    → v.items ≡ f row.items → new ≡ old ++ v ∷ []
    → rows_of new ≡ start ++ map f (take (i + 1) (rows_of rows))
pushed_rows f old new start rows i row v so_far less row_is v_is new_is =
    let more : i < length (rows_of rows) = omega (arith, less, length-map rows (λ (u : Vec (List ℕ)). u.items)) in
    ap rows_of new_is ∙ rows_push old v
    ∙ ap₂ (λ xs x. xs ++ x ∷ []) so_far (v_is ∙ ap f (read_row rows i row less row_is))
    ∙ append_assoc start (map f (take i (rows_of rows))) (f (row_at (rows_of rows) i) ∷ [])
    ∙ ap (λ xs. start ++ xs) (sym (map_push f (take i (rows_of rows)) (row_at (rows_of rows) i))
    ∙ ap (map f) (sym (take_more (rows_of rows) i [] more)))

-- one row more of the same
pub copied_rows : (old new rows : List (Vec (List ℕ))) (i : ℕ) (row v : Vec (List ℕ))
    → rows_of old ≡ take i (rows_of rows) → i < length rows → row ≡ get_or rows i row → v.items ≡ row.items
    → new ≡ old ++ v ∷ []
    → rows_of new ≡ take (i + 1) (rows_of rows)
copied_rows old new rows i row v so_far less row_is v_is new_is =
    let more : i < length (rows_of rows) = omega (arith, less, length-map rows (λ (u : Vec (List ℕ)). u.items)) in
    ap rows_of new_is ∙ rows_push old v
    ∙ ap₂ (λ xs x. xs ++ x ∷ []) so_far (v_is ∙ read_row rows i row less row_is)
    ∙ sym (take_more (rows_of rows) i [] more)

-- a fact of each row, at a vector that is read
pub read_all : (P : List (List ℕ) → Type 0) (vs : List (Vec (List ℕ))) (i : ℕ) (v : Vec (List ℕ)) → All P (rows_of vs)
    → i < length vs → v ≡ get_or vs i v → P v.items
read_all P vs i v all less is =
    subst P (sym (read_row vs i v less is))
    (all i [] (omega (arith, less, length-map vs (λ (u : Vec (List ℕ)). u.items))))
