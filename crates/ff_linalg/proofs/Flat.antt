-- Rows that stand one after another in a list.
use Rattle.std.proofs.Common.{◌≡◌, ℕ, zero, suc, ◌+◌, ◌-◌, ◌*◌, ◌<◌, ◌≤◌, List, [], ◌∷◌, ◌++◌, length, get_or, take, drop, set, map, replicate, refl, sym, ap, ap₂, ◌∙◌, subst, arith, suc-add, zero-add, add-one}
use Rattle.std.proofs.lemmas.List.{take_all, drop-take, map_more, length-append, length-drop, length-take-le, take-append-drop, take-append-le, drop-append-le, take_at, drop_at, drop-drop, get_or-drop, get_or-take, set_at, nil_from_length, take-replicate, drop-replicate, length-set}
use Rattle.std.proofs.lemmas.List.Elements.{All-nil, All-cons, All-head, All-tail}
use Rattle.std.proofs.Math.Nat.{suc-mul, zero-mul, mul-le-mul_right}
use Rattle.std.proofs.Math.Seq.{get_or-append_seam}
use Rattle.std.specs.Prelude.{All}
use borrow.Rule.Slice.PartMut.{put_mid, set_mid_at}
use Rattle.ff_fields.specs.Field.{FieldOps}
use Rattle.ff_fields.specs.Over.{IsOver, IsOver_nil, IsOver_append, IsOver_take, IsOver_drop}
use Rattle.ff_linalg.specs.Matrix.{rows_in}

pub row_end : (i n c : ℕ) → i < n → i * c + c ≤ n * c
row_end i n c l = let k : suc i ≤ n = l in omega (arith, suc-mul i c, mul-le-mul_right c k)

pub entry_below : (i j n c : ℕ) → i < n → j < c → i * c + j < n * c
entry_below i j n c l m = omega (arith, row_end i n c l)

pub length_rows_in : (c n : ℕ) (xs : List ℕ) → length (rows_in c n xs) ≡ n
length_rows_in c zero xs = refl
length_rows_in c (suc n) xs = ap suc (length_rows_in c n (drop c xs))

pub rows_in_append : (c a b : ℕ) (xs ys : List ℕ) → length xs ≡ a * c
    → rows_in c (a + b) (xs ++ ys) ≡ rows_in c a xs ++ rows_in c b ys
rows_in_append c zero b xs ys e =
    ap₂ (λ m zs. rows_in c m (zs ++ ys)) (zero-add b) (nil_from_length xs (e ∙ zero-mul c))
rows_in_append c (suc a) b xs ys e =
    let long : c ≤ length xs = omega (arith, suc-mul a c) in
    let less : length (drop c xs) ≡ a * c = omega (arith, suc-mul a c, length-drop c xs) in
    ap (λ m. rows_in c m (xs ++ ys)) (suc-add a b)
    ∙ ap₂ (λ r rest. r ∷ rows_in c (a + b) rest) (take-append-le c xs ys long) (drop-append-le c xs ys long)
    ∙ ap (λ rows. take c xs ∷ rows) (rows_in_append c a b (drop c xs) ys less)

-- a row in the middle
pub rows_in_middle : (c a b : ℕ) (xs row ys : List ℕ) → length xs ≡ a * c → length row ≡ c
    → rows_in c (a + suc b) (xs ++ (row ++ ys)) ≡ rows_in c a xs ++ row ∷ rows_in c b ys
rows_in_middle c a b xs row ys e f =
    rows_in_append c a (suc b) xs (row ++ ys) e
    ∙ ap₂ (λ r rest. rows_in c a xs ++ r ∷ rows_in c b rest) (take_at row ys c f) (drop_at row ys c f)

module _ (c n i : ℕ) (xs : List ℕ) (shape : length xs ≡ n * c) (within : i < n) where
  front : List ℕ
  front = take (i * c) xs

  back : List ℕ
  back = drop (i * c) xs

  front_length : length front ≡ i * c
  unfolding front
  front_length = length-take-le (i * c) xs (omega (arith, row_end i n c within))

  back_length : c ≤ length back
  unfolding back
  back_length = omega (arith, row_end i n c within, length-drop (i * c) xs)

  count : i + suc (n - suc i) ≡ n
  count = omega arith

  pub rows_in_split : rows_in c n xs ≡ rows_in c i (take (i * c) xs)
      ++ take c (drop (i * c) xs) ∷ rows_in c (n - suc i) (drop c (drop (i * c) xs))
  unfolding front back
  rows_in_split =
      ap₂ (rows_in c) (sym count) (sym (take-append-drop (i * c) xs)
      ∙ ap (λ w. take (i * c) xs ++ w) (sym (take-append-drop c (drop (i * c) xs))))
      ∙ rows_in_middle c i (n - suc i) front (take c back) (drop c back) front_length
      (length-take-le c back back_length)

  at_position : (before bs : List (List ℕ)) (r : List ℕ) → length before ≡ i → get_or (before ++ r ∷ bs) i [] ≡ r
  at_position before bs r e = ap (λ m. get_or (before ++ r ∷ bs) m []) (sym e) ∙ get_or-append_seam before r bs []

  pub rows_in_get : get_or (rows_in c n xs) i [] ≡ take c (drop (i * c) xs)
  rows_in_get =
      ap (λ rows. get_or rows i []) rows_in_split
      ∙ at_position (rows_in c i (take (i * c) xs)) (rows_in c (n - suc i) (drop c (drop (i * c) xs)))
      (take c (drop (i * c) xs)) (length_rows_in c i (take (i * c) xs))

  pub rows_in_entry : (j : ℕ) → j < c → get_or (get_or (rows_in c n xs) i []) j 0 ≡ get_or xs (i * c + j) 0
  rows_in_entry j l = ap (λ r. get_or r j 0) rows_in_get ∙ get_or-take c (drop (i * c) xs) j 0 l
      ∙ get_or-drop (i * c) xs j 0

  pub rows_in_put : (row : List ℕ) → length row ≡ c
      → rows_in c n (put_mid (i * c) c xs row) ≡ set (rows_in c n xs) i row
  unfolding front back
  rows_in_put row e =
      ap (λ m. rows_in c m (put_mid (i * c) c xs row)) (sym count)
      ∙ rows_in_middle c i (n - suc i) front row (drop c back) front_length e
      ∙ sym (ap (λ rows. set rows i row) rows_in_split
      ∙ set_at (rows_in c i (take (i * c) xs)) (take c (drop (i * c) xs))
      (rows_in c (n - suc i) (drop c (drop (i * c) xs))) row i (length_rows_in c i (take (i * c) xs)))

-- each row has the length that was said
pub rows_in_wide : (c n : ℕ) (xs : List ℕ) → length xs ≡ n * c → All (λ r. length r ≡ c) (rows_in c n xs)
rows_in_wide c zero xs e = All-nil (λ r. length r ≡ c)
rows_in_wide c (suc n) xs e =
    All-cons (λ r. length r ≡ c) (take c xs) (rows_in c n (drop c xs))
    (length-take-le c xs (omega (arith, suc-mul n c)))
    (rows_in_wide c n (drop c xs) (omega (arith, suc-mul n c, length-drop c xs)))

pub rows_in_over : (k : FieldOps) (c n : ℕ) (xs : List ℕ) → IsOver k xs → All (IsOver k) (rows_in c n xs)
rows_in_over k c zero xs over = All-nil (IsOver k)
rows_in_over k c (suc n) xs over = All-cons (IsOver k) (take c xs) (rows_in c n (drop c xs)) (IsOver_take c over)
    (rows_in_over k c n (drop c xs) (IsOver_drop c over))

-- what a range of one row comes to
pub row_span : (at c : ℕ) → at + c - at ≡ c
row_span at c = omega arith

pub rows_in_zeros : (c n : ℕ) → rows_in c n (replicate (n * c) 0) ≡ replicate n (replicate c 0)
rows_in_zeros c zero = refl
rows_in_zeros c (suc n) =
    ap₂ ◌∷◌ (take-replicate c (suc n * c) 0 (omega (arith, suc-mul n c)))
    (ap (rows_in c n) (drop-replicate c (suc n * c) 0
    ∙ ap (λ m. replicate m 0) (let e : suc n * c - c ≡ n * c = omega (arith, suc-mul n c) in e))
    ∙ rows_in_zeros c n)

-- one entry is written
pub rows_in_set : (c n i j : ℕ) (xs : List ℕ) (v : ℕ) → length xs ≡ n * c → i < n → j < c
    → rows_in c n (set xs (i * c + j) v) ≡ set (rows_in c n xs) i (set (get_or (rows_in c n xs) i []) j v)
rows_in_set c n i j xs v shape within l =
    let part = take c (drop (i * c) xs) in
    let long : length part ≡ c = length-take-le c (drop (i * c) xs)
    (omega (arith, row_end i n c within, length-drop (i * c) xs)) in
    ap (rows_in c n) (sym (set_mid_at (i * c) c j xs v (omega (arith, long))))
    ∙ rows_in_put c n i xs shape within (set part j v) (length-set part j v ∙ long)
    ∙ ap (λ r. set (rows_in c n xs) i (set r j v)) (sym (rows_in_get c n i xs shape within))

pub over_from_rows : (k : FieldOps) (c n : ℕ) (xs : List ℕ) → length xs ≡ n * c → All (IsOver k) (rows_in c n xs)
    → IsOver k xs
over_from_rows k c zero xs e over = subst (IsOver k) (sym (nil_from_length xs (e ∙ zero-mul c))) IsOver_nil
over_from_rows k c (suc n) xs e over =
    subst (IsOver k) (take-append-drop c xs)
    (IsOver_append (All-head (IsOver k) (take c xs) (rows_in c n (drop c xs)) over)
    (over_from_rows k c n (drop c xs) (omega (arith, suc-mul n c, length-drop c xs))
    (All-tail (IsOver k) (take c xs) (rows_in c n (drop c xs)) over)))

-- one row more without its first entries
pub lower_step : (w left top i n : ℕ) (entries out row new : List ℕ) → length entries ≡ n * w → left ≤ w → top + i < n
    → length out ≡ i * (w - left)
    → rows_in (w - left) i out ≡ map (drop left) (take i (drop top (rows_in w n entries)))
    → row ≡ take ((top + i) * w + w - ((top + i) * w + left)) (drop ((top + i) * w + left) entries) → new ≡ out ++ row
    → (length new ≡ (i + 1) * (w - left))
    × (rows_in (w - left) (i + 1) new ≡ map (drop left) (take (i + 1) (drop top (rows_in w n entries))))
lower_step w left top i n entries out row new shape left_in within long before row_is new_is = (
  ap length new_is ∙ length-append out row ∙ ap₂ (λ x y. x + y) long row_length
      ∙ sym (ap (λ m. m * (w - left)) (add-one i) ∙ suc-mul i (w - left)),
  ap (rows_in (w - left) (i + 1)) new_is ∙ rows_in_append (w - left) i 1 out row long
      ∙ ap₂ (λ x y. x ++ y ∷ []) before (take_all (w - left) row (omega (arith, row_length)) ∙ row_entry)
      ∙ sym (map_more (drop left) (drop top (rows_in w n entries)) i []
      (omega (arith, within, length-drop top (rows_in w n entries), length_rows_in w n entries))),
)
  where
    at : ℕ
    at = (top + i) * w

    part : row ≡ drop left (take w (drop at entries))
    part =
        row_is ∙ ap (λ m. take m (drop (at + left) entries))
        (let e : at + w - (at + left) ≡ w - left = omega arith in e)
        ∙ ap (take (w - left)) (sym (drop-drop left at entries))
        ∙ sym (ap (λ m. drop left (take m (drop at entries))) (let e : w ≡ left + (w - left) = omega arith in e)
        ∙ drop-take left (w - left) (drop at entries))

    row_entry : row ≡ drop left (get_or (drop top (rows_in w n entries)) i [])
    row_entry = part ∙ ap (drop left) (sym (rows_in_get w n (top + i) entries shape within)
        ∙ sym (get_or-drop top (rows_in w n entries) i []))

    row_length : length row ≡ w - left
    row_length =
        ap length part ∙ length-drop left (take w (drop at entries))
        ∙ ap (λ m. m - left) (length-take-le w (drop at entries)
        (omega (arith, shape, row_end (top + i) n w within, length-drop at entries)))

-- the rows that are left
pub lower_end : (w left top n : ℕ) (entries : List ℕ) → top ≤ n
    → map (drop left) (take (n - top) (drop top (rows_in w n entries)))
    ≡ map (drop left) (drop top (rows_in w n entries))
lower_end w left top n entries top_in =
    ap (map (drop left)) (take_all (n - top) (drop top (rows_in w n entries))
    (omega (arith, length-drop top (rows_in w n entries), length_rows_in w n entries)))

-- the first rows
pub rows_in_take : (c n r : ℕ) (xs : List ℕ) → length xs ≡ n * c → r ≤ n
    → rows_in c r (take (r * c) xs) ≡ take r (rows_in c n xs)
rows_in_take c n r xs shape le =
    sym (ap (take r) (ap₂ (rows_in c) (let e : n ≡ r + (n - r) = omega arith in e) (sym (take-append-drop (r * c) xs))
    ∙ rows_in_append c r (n - r) (take (r * c) xs) (drop (r * c) xs)
    (length-take-le (r * c) xs (omega (arith, shape, mul-le-mul_right c le))))
    ∙ take_at (rows_in c r (take (r * c) xs)) (rows_in c (n - r) (drop (r * c) xs)) r
    (length_rows_in c r (take (r * c) xs)))
