-- What is read of vectors of polynomials.
use Rattle.std.proofs.Common.{◌≡◌, ◌≢◌, ℕ, suc, ◌<◌, ◌≤◌, ◌+◌, List, [], ◌∷◌, ◌++◌, length, get_or, take, drop, map, Option, None, Some, MatchOption, below_more, refl, sym, ap, ap₂, ◌∙◌, arith, subst, All}
use Rattle.std.specs.Prelude.{remove}
use Rattle.std.specs.Global.{Vec}
use Rattle.std.proofs.lemmas.List.{get_or-map, get_or_read, length-map, map_more, map-append, take-map, drop-map, take_all}
use Rattle.std.proofs.lemmas.List.Elements.{All-append, All-take, All-drop}
use Rattle.std.proofs.Math.ListN.{get_or-append}
use Rattle.std.proofs.Math.Seq.{get_or-append_seam}
use Rattle.ff_poly.specs.Words.{degree_of}
use Rattle.ff_poly.specs.Popov.{rows_of}
use Rattle.ff_algebra.specs.Inverses.{line_entry}

pub line_read : (lines : List (Vec (List ℕ))) (i : ℕ) (line : Vec (List ℕ)) → i < length lines
    → line ≡ get_or lines i line → line.items ≡ get_or (rows_of lines) i []
line_read lines i line less is = ap (λ (r : Vec (List ℕ)). r.items) is
    ∙ sym (get_or-map (λ (r : Vec (List ℕ)). r.items) lines i line [] less)

pub entry_read : (lines : List (Vec (List ℕ))) (i column : ℕ) (line : Vec (List ℕ)) (entry : List ℕ) → i < length lines
    → line ≡ get_or lines i line → column < length line.items → entry ≡ get_or line.items column entry
    → entry ≡ line_entry (rows_of lines) i column
entry_read lines i column line entry less is within entry_is =
    get_or_read line.items column entry within entry_is []
    ∙ ap (λ r. get_or r column []) (line_read lines i line less is)

-- a property of each line holds of one that is read
pub all_read : (P : List (List ℕ) → Type 0) (lines : List (Vec (List ℕ))) (i : ℕ) (line : Vec (List ℕ))
    → All P (rows_of lines) → i < length lines → line ≡ get_or lines i line → P line.items
all_read P lines i line all less is =
    subst P (sym (line_read lines i line less is))
    (all i [] (let size = length-map lines (λ (r : Vec (List ℕ)). r.items) in omega (arith, size)))

pub no_degree : (a : List ℕ) → None ≡ degree_of a → a ≡ []
no_degree [] e = refl
no_degree (c ∷ a) e = (cc)

-- what holds of each index below i, where nothing was found, and of i
pub found_more : {X : Type 0} (P : ℕ → Type 0) (Q : X → Type 0) (i : ℕ) (found : Option X)
    → MatchOption found ((j : ℕ) → j < i → P j) Q → P i → MatchOption found ((j : ℕ) → j < i + 1 → P j) Q
found_more P Q i None so_far here = below_more P i so_far here
found_more P Q i (Some x) so_far here = so_far

-- what holds of each line below i, and of the line that comes behind them
pub pushed_line : (P : ℕ → List (List ℕ) → Type 0) (i : ℕ) (lines new : List (Vec (List ℕ))) (line : Vec (List ℕ))
    → length lines ≡ i → new ≡ lines ++ line ∷ [] → ((j : ℕ) → j < i → P j (get_or (rows_of lines) j []))
    → P i line.items → (j : ℕ) → j < i + 1 → P j (get_or (rows_of new) j [])
pushed_line P i lines new line size new_is before here =
    let items : Vec (List ℕ) → List (List ℕ) = λ r. r.items in
    let rows_is : rows_of new ≡ rows_of lines ++ line.items ∷ [] = ap rows_of new_is
    ∙ map-append items lines (line ∷ []) in
    let rows_size : length (rows_of lines) ≡ i = length-map lines items ∙ size in
    below_more (λ j. P j (get_or (rows_of new) j [])) i
    (λ j less. subst (P j) (sym (ap (λ rows. get_or rows j []) rows_is
    ∙ get_or-append (rows_of lines) (line.items ∷ []) [] j (omega arith))) (before j less))
    (subst (P i) (sym (ap (λ rows. get_or rows i []) rows_is
    ∙ ap (λ j. get_or (rows_of lines ++ line.items ∷ []) j []) (sym rows_size)
    ∙ get_or-append_seam (rows_of lines) line.items [] [])) here)

-- ---- one line removed, and the others changed

pub rows_of_remove : (lines : List (Vec (List ℕ))) (i : ℕ) → rows_of (remove lines i) ≡ remove (rows_of lines) i
rows_of_remove lines i =
    let items : Vec (List ℕ) → List (List ℕ) = λ r. r.items in
    map-append items (take i lines) (drop (suc i) lines)
    ∙ ap₂ (λ xs ys. xs ++ ys) (sym (take-map items i lines)) (sym (drop-map items (suc i) lines))

pub removed_in : (P : List (List ℕ) → Type 0) (lines rest : List (Vec (List ℕ))) (i : ℕ) → rest ≡ remove lines i
    → All P (rows_of lines) → All P (rows_of rest)
removed_in P lines rest i rest_is all =
    subst (All P) (sym (ap rows_of rest_is ∙ rows_of_remove lines i))
    (All-append P (take i (rows_of lines)) (drop (suc i) (rows_of lines)) (All-take P i (rows_of lines) all)
    (All-drop P (suc i) (rows_of lines) all))

pub mapped_more : (f : List (List ℕ) → List (List ℕ)) (i : ℕ) (lines rest new : List (Vec (List ℕ)))
    (line row : Vec (List ℕ)) → i < length lines → line ≡ get_or lines i line
    → rows_of rest ≡ map f (take i (rows_of lines)) → new ≡ rest ++ row ∷ [] → row.items ≡ f line.items
    → rows_of new ≡ map f (take (i + 1) (rows_of lines))
mapped_more f i lines rest new line row less line_is so_far new_is row_is =
    let items : Vec (List ℕ) → List (List ℕ) = λ r. r.items in
    ap rows_of new_is ∙ map-append items rest (row ∷ [])
    ∙ ap₂ (λ xs x. xs ++ x ∷ []) so_far (row_is ∙ ap f (line_read lines i line less line_is))
    ∙ sym (map_more f (rows_of lines) i [] (let size = length-map lines items in omega (arith, size)))

pub mapped_all : (f : List (List ℕ) → List (List ℕ)) (i j : ℕ) (old lines rest : List (Vec (List ℕ)))
    → rows_of rest ≡ map f (take j (rows_of lines)) → length lines ≤ j → lines ≡ remove old i
    → rows_of rest ≡ map f (remove (rows_of old) i)
mapped_all f i j old lines rest so_far all lines_is =
    so_far
    ∙ ap (map f) (take_all j (rows_of lines)
    (let size = length-map lines (λ (r : Vec (List ℕ)). r.items) in omega (arith, size)) ∙ ap rows_of lines_is
    ∙ rows_of_remove old i)

-- what is found in a slice of the lines
pub found_in : (lines now : List (Vec (List ℕ))) (i column : ℕ) → now ≡ lines
    → (i < length now) × (line_entry (rows_of now) i column ≢ [])
    → (i < length lines) × (line_entry (rows_of lines) i column ≢ [])
found_in lines now i column now_is found = subst (λ xs. (i < length xs) × (line_entry (rows_of xs) i column ≢ [])) now_is
    found
