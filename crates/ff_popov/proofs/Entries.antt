-- Reading the entries of rows.
use Rattle.std.proofs.Common.{◌≡◌, ℕ, zero, suc, ◌<◌, List, [], ◌∷◌, length, get_or, set, refl, sym, ap, ap₂, ◌∙◌, arith, subst}
use Rattle.std.specs.Prelude.{All, swap}
use Rattle.std.specs.Global.{Vec}
use Rattle.std.proofs.lemmas.List.{get_or-map}
use Rattle.std.proofs.Math.ListN.{get_or-map as map_get_or}
use Rattle.ff_poly.specs.Popov.{rows_of, row_at, entry_at}

-- inside the list the default doesn't matter
pub any_default : {X : Type 0} (xs : List X) (i : ℕ) (d e : X) → i < length xs → get_or xs i d ≡ get_or xs i e
any_default [] i d e less = absurd (omega (arith, less))
any_default (x ∷ xs) zero d e less = refl
any_default (x ∷ xs) (suc i) d e less = any_default xs i d e (omega (arith, less))

-- a fact of each entry, at one that is read
pub read_default : {X : Type 0} (P : X → Type 0) (xs : List X) (i : ℕ) (x : X) → All P xs → i < length xs
    → x ≡ get_or xs i x → P x
read_default P xs i x all less is = subst P (sym is) (all i x less)

-- the same of a list with the same entry there
pub read_same : (P : List ℕ → Type 0) (xs ys : List (List ℕ)) (i : ℕ) (d : List ℕ) → All P xs → length ys ≡ length xs
    → i < length xs → entry_at ys i ≡ entry_at xs i → P (get_or ys i d)
read_same P xs ys i d all size less same =
    subst P (sym (any_default ys i d [] (omega (arith, size, less)) ∙ same)) (all i [] less)

-- the rows that vectors hold
pub row_of : (vs : List (Vec (List ℕ))) (i : ℕ) (d : Vec (List ℕ)) → i < length vs
    → row_at (rows_of vs) i ≡ (get_or vs i d).items
row_of vs i d less = get_or-map (λ v. v.items) vs i d [] less

pub rows_set : (vs : List (Vec (List ℕ))) (i : ℕ) (v : Vec (List ℕ)) → rows_of (set vs i v) ≡ set (rows_of vs) i v.items
rows_set [] i v = refl
rows_set (u ∷ vs) zero v = refl
rows_set (u ∷ vs) (suc i) v = ap (λ w. u.items ∷ w) (rows_set vs i v)

pub rows_swap : (vs : List (Vec (List ℕ))) (i j : ℕ) → rows_of (swap vs i j) ≡ swap (rows_of vs) i j
rows_swap [] i j = refl
rows_swap (d ∷ ys) i j =
    let vs = d ∷ ys in
    rows_set (set vs i (get_or vs j d)) j (get_or vs i d)
    ∙ ap₂ (λ xs x. set xs j x)
    (rows_set vs i (get_or vs j d) ∙ ap (set (rows_of vs) i) (sym (map_get_or (λ v. v.items) vs j d)))
    (sym (map_get_or (λ v. v.items) vs i d))

-- an entry that is read, of a row that is read
pub read_entry : (vs : List (Vec (List ℕ))) (i j : ℕ) (v : Vec (List ℕ)) (x : List ℕ) → i < length vs
    → j < length (row_at (rows_of vs) i) → x ≡ get_or (get_or vs i v).items j x → x ≡ entry_at (row_at (rows_of vs) i) j
read_entry vs i j v x i_in j_in is =
    is ∙ ap (λ row. get_or row j x) (sym (row_of vs i v i_in)) ∙ any_default (row_at (rows_of vs) i) j x [] j_in

-- a row that is read
pub read_row_of : (vs : List (Vec (List ℕ))) (i : ℕ) (v : Vec (List ℕ)) (row : List (List ℕ)) → i < length vs
    → v ≡ get_or vs i v → row ≡ v.items → row ≡ row_at (rows_of vs) i
read_row_of vs i v row less v_is row_is = row_is ∙ ap (λ u. u.items) v_is ∙ sym (row_of vs i v less)
