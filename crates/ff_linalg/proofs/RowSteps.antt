-- Steps of elimination on a list of rows that is split at one row.
use Rattle.std.proofs.Common.{◌≡◌, ℕ, zero, suc, ◌+◌, ◌-◌, ◌*◌, ◌<◌, ◌≤◌, ◌≢◌, List, [], ◌∷◌, ◌++◌, length, get_or, take, drop, set, map, refl, sym, ap, ap₂, ◌∙◌, arith}
use Rattle.std.proofs.lemmas.List.{append-nil, drop_all, length-append, length-drop, length-take-le, take_at, set_at, set-append_left, get_or_append_left}
use Rattle.std.proofs.Math.Seq.{get_or-append_seam}
use Rattle.std.specs.Prelude.{swap}
use borrow.Rule.Slice.PartMut.{put_mid}
use Rattle.ff_fields.specs.Field.{FieldOps, CodeField}
use Rattle.ff_fields.specs.Code.{raw_ring, code_ring}
use Rattle.ff_fields.specs.Over.{IsOver, IsOver_head, IsOver_tail, IsOver_take, IsOver_drop, IsOver_scale, get_or_below}
use Rattle.ring_lemmas.specs.Lists.{add_lists, scale_list}
use Rattle.ring_lemmas.proofs.Ring.{mul_zero}
use Rattle.ring_lemmas.proofs.Lists.{get_or_scale_list}
use Rattle.ff_linalg.specs.Matrix.{rows_in}
use Rattle.ff_linalg.specs.Steps.{normalized, cleared, eliminated}
use Rattle.ff_linalg.proofs.Flat.{length_rows_in, rows_in_middle, rows_in_split, rows_in_get, rows_in_put, row_end, row_span}

-- a row is exchanged with an earlier one
swap_middle : {X : Type 0} (before bs : List X) (y d : X) (u l : ℕ) → length before ≡ l → u < l
    → swap (before ++ y ∷ bs) u l ≡ set before u y ++ get_or before u d ∷ bs
swap_middle [] bs y d u l e less = absurd (omega arith)
swap_middle {X} (a ∷ before) bs y d u l e less =
    let all : List X = (a ∷ before) ++ y ∷ bs in
    let lower : get_or all l a ≡ y = ap (λ m. get_or all m a) (sym e) ∙ get_or-append_seam (a ∷ before) y bs a in
    let upper : get_or all u a ≡ get_or (a ∷ before) u d = get_or_append_left (a ∷ before) (y ∷ bs) a u (omega arith)
    ∙ same (a ∷ before) u a d (omega arith) in
    ap₂ (λ p q. set (set all u p) l q) lower upper
    ∙ ap (λ w. set w l (get_or (a ∷ before) u d)) (set-append_left (a ∷ before) (y ∷ bs) u y (omega arith))
    ∙ set_at (set (a ∷ before) u y) y bs (get_or (a ∷ before) u d) l (length_set (a ∷ before) u y ∙ e)
  where
    same : (xs : List X) (i : ℕ) (d d' : X) → i < length xs → get_or xs i d ≡ get_or xs i d'
    same [] i d d' l = absurd (omega arith)
    same (x ∷ xs) zero d d' l = refl
    same (x ∷ xs) (suc i) d d' l = same xs i d d' (omega arith)

    length_set : (xs : List X) (i : ℕ) (v : X) → length (set xs i v) ≡ length xs
    length_set [] i v = refl
    length_set (x ∷ xs) zero v = refl
    length_set (x ∷ xs) (suc i) v = ap suc (length_set xs i v)

pub swapped_rows : (c n u l : ℕ) (xs upper lower : List ℕ) → length xs ≡ n * c → u < l → l < n
    → upper ≡ take c (drop (l * c) xs) → lower ≡ take (u * c + c - u * c) (drop (u * c) (take (l * c) xs))
    → rows_in c n (put_mid (u * c) (u * c + c - u * c) (take (l * c) xs) upper ++ (lower ++ drop c (drop (l * c) xs)))
    ≡ swap (rows_in c n xs) u l
swapped_rows c n u l xs upper lower shape less within upper_is lower_is =
    ap₂ (λ m k. rows_in c m (put_mid (u * c) k front upper ++ (lower ++ drop c back))) (sym count) (row_span (u * c) c)
    ∙ rows_in_middle c l (n - suc l) (put_mid (u * c) c front upper) lower (drop c back) put_length lower_length
    ∙ ap₂ (λ before r. before ++ r ∷ rows_in c (n - suc l) (drop c back))
    (rows_in_put c l u front front_length less upper upper_length ∙ ap (set (rows_in c l front) u) upper_is)
    lower_row
    ∙ sym (ap (λ rows. swap rows u l) (rows_in_split c n l xs shape within)
    ∙ swap_middle (rows_in c l front) (rows_in c (n - suc l) (drop c back)) (take c back) [] u l
    (length_rows_in c l front) less)
  where
    front : List ℕ
    front = take (l * c) xs

    back : List ℕ
    back = drop (l * c) xs

    count : l + suc (n - suc l) ≡ n
    count = omega arith

    front_length : length front ≡ l * c
    front_length = length-take-le (l * c) xs (omega (arith, row_end l n c within))

    upper_length : length upper ≡ c
    upper_length = ap length upper_is ∙ length-take-le c back
        (omega (arith, row_end l n c within, length-drop (l * c) xs))

    lower_row : lower ≡ get_or (rows_in c l front) u []
    lower_row = lower_is ∙ ap (λ m. take m (drop (u * c) front)) (row_span (u * c) c)
        ∙ sym (rows_in_get c l u front front_length less)

    lower_length : length lower ≡ c
    lower_length =
        ap length (lower_is ∙ ap (λ m. take m (drop (u * c) front)) (row_span (u * c) c))
        ∙ length-take-le c (drop (u * c) front)
        (omega (arith, row_end u l c less, front_length, length-drop (u * c) front))

    put_length : length (put_mid (u * c) c front upper) ≡ l * c
    put_length =
        length-append (take (u * c) front) (upper ++ drop c (drop (u * c) front))
        ∙ omega (
          arith,
          length-append upper (drop c (drop (u * c) front)),
          upper_length,
          row_end u l c less,
          front_length,
          length-drop (u * c) front,
          length-drop c (drop (u * c) front),
          length-take-le (u * c) front (omega (arith, row_end u l c less, front_length)),
        )

-- all rows after elimination by one of them
eliminated_middle : (k : FieldOps) (p c : ℕ) (before bs : List (List ℕ)) (r : List ℕ) → length before ≡ p
    → eliminated k p c (before ++ r ∷ bs)
    ≡ map (cleared k c (normalized k c r)) before ++ normalized k c r ∷ map (cleared k c (normalized k c r)) bs
eliminated_middle k p c before bs r e =
    ap (λ w. map (cleared k c (normalized k c w)) (take p (before ++ r ∷ bs))
    ++ normalized k c w ∷ map (cleared k c (normalized k c w)) (drop (suc p) (before ++ r ∷ bs)))
    (ap (λ m. get_or (before ++ r ∷ bs) m []) (sym e) ∙ get_or-append_seam before r bs [])
    ∙ ap₂ (λ x y. map (cleared k c (normalized k c r)) x ++ normalized k c r ∷ map (cleared k c (normalized k c r)) y)
    (take_at before (r ∷ bs) p e) (rest before p e)
  where
    rest : (before : List (List ℕ)) (p : ℕ) → length before ≡ p → drop (suc p) (before ++ r ∷ bs) ≡ bs
    rest [] zero e = refl
    rest [] (suc p) e = absurd (omega arith)
    rest (a ∷ before) zero e = absurd (omega arith)
    rest (a ∷ before) (suc p) e = rest before p (omega arith)

pub eliminated_rows : (k : FieldOps) (c n p j : ℕ) (xs front pivot back : List ℕ) → length xs ≡ n * c → p < n
    → length front ≡ p * c → length pivot ≡ c
    → pivot ≡ normalized k j (take c (drop (p * c) xs))
    → rows_in c p front ≡ map (cleared k j pivot) (rows_in c p (take (p * c) xs))
    → rows_in c (n - p - 1) back ≡ map (cleared k j pivot) (rows_in c (n - p - 1) (drop c (drop (p * c) xs)))
    → rows_in c n (front ++ (pivot ++ back)) ≡ eliminated k p j (rows_in c n xs)
eliminated_rows k c n p j xs front pivot back shape within front_length pivot_length pivot_is front_is back_is =
    ap (λ m. rows_in c m (front ++ (pivot ++ back))) (sym count)
    ∙ rows_in_middle c p (n - p - 1) front pivot back front_length pivot_length
    ∙ ap₂ (λ x y. x ++ pivot ∷ y) front_is back_is
    ∙ ap (λ w. map (cleared k j w) (rows_in c p (take (p * c) xs))
    ++ w ∷ map (cleared k j w) (rows_in c (n - p - 1) (drop c (drop (p * c) xs)))) pivot_is
    ∙ sym (ap (eliminated k p j) (rows_in_split c n p xs shape within
    ∙ ap (λ m. rows_in c p (take (p * c) xs) ++ take c (drop (p * c) xs) ∷ rows_in c m (drop c (drop (p * c) xs)))
    less)
    ∙ eliminated_middle k p j (rows_in c p (take (p * c) xs)) (rows_in c (n - p - 1) (drop c (drop (p * c) xs)))
    (take c (drop (p * c) xs)) (length_rows_in c p (take (p * c) xs)))
  where
    count : p + suc (n - p - 1) ≡ n
    count = omega arith

    less : n - suc p ≡ n - p - 1
    less = omega arith

-- the rows after one of them
pub rows_after : (q p c n : ℕ) → n ≡ q + suc p → q * c + (p * c + c) ≡ n * c
rows_after q p c n e = omega (arith, ap (λ m. m * c) e)

-- the pivot's row, before and after its division
pub record PivotRow (k : FieldOps) (j : ℕ) (old new : List ℕ) (inverse : ℕ) : Type 0 where
  pub nonzero : get_or old j 0 ≢ 0
  pub inverse_in : inverse < k.size
  pub new_in : IsOver k new
  pub new_is : new ≡ normalized k j old

pub pivot_row : (k : CodeField) (c n p j : ℕ) (xs old new : List ℕ) (inverse : ℕ) → length xs ≡ n * c → p < n
    → IsOver k.ops xs
    → get_or (get_or (rows_in c n xs) p []) j 0 ≢ 0 → old ≡ take c (drop (p * c) xs) → inverse ≡ k.inv (get_or old j 0)
    → new ≡ scale_list (raw_ring k.ops) inverse old → PivotRow k.ops j old new inverse
pivot_row k c n p j xs old new inverse shape within over some old_is inverse_is new_is = record {
  nonzero = nonzero;
  inverse_in = inverse_in;
  new_in = rw new_is (IsOver_scale k inverse old inverse_in old_in);
  new_is = new_is ∙ ap (λ x. scale_list (raw_ring k.ops) x old) inverse_is;
}
  where
    nonzero : get_or old j 0 ≢ 0
    nonzero = λ e. some (ap (λ r. get_or r j 0) (rows_in_get c n p xs shape within ∙ sym old_is) ∙ e)

    old_in : IsOver k.ops old
    old_in = rw old_is (IsOver_take c (IsOver_drop (p * c) over))

    inverse_in : inverse < k.size
    inverse_in = rw inverse_is (k.laws.inv_below _ (get_or_below k old j old_in) nonzero)

-- an entry of the pivot's row that is 0 stays so
pub left_after : (k : CodeField) (old new : List ℕ) (inverse j : ℕ) → inverse < k.size
    → new ≡ scale_list (raw_ring k.ops) inverse old
    → j < length old → get_or old j 0 ≡ 0 → get_or new j 0 ≡ 0
left_after k old new inverse j inverse_in new_is within zero_is =
    ap (λ w. get_or w j 0) new_is ∙ get_or_scale_list (raw_ring k.ops) inverse old j 0 within
    ∙ ap (k.mul inverse) zero_is ∙ ap (λ w. w.0) (mul_zero (code_ring k).ring (inverse, inverse_in))

-- a multiple is added from column c on, where it is 0 before it
pub added_from : (k : CodeField) (f c : ℕ) (row pivot : List ℕ) → f < k.size → IsOver k.ops row
    → length row ≡ length pivot → c ≤ length row
    → ((j : ℕ) → j < c → get_or pivot j 0 ≡ 0)
    → take c row ++ add_lists (raw_ring k.ops) (drop c row) (scale_list (raw_ring k.ops) f (drop c pivot))
    ≡ add_lists (raw_ring k.ops) row (scale_list (raw_ring k.ops) f pivot)
added_from k f zero row pivot f_in row_in same within zeros = refl
added_from k f (suc c) [] pivot f_in row_in same within zeros = absurd (omega arith)
added_from k f (suc c) (x ∷ row) [] f_in row_in same within zeros = absurd (omega arith)
added_from k f (suc c) (x ∷ row) (y ∷ pivot) f_in row_in same within zeros =
    ap₂ ◌∷◌
    (sym (ap (k.add x) (ap (k.mul f) (zeros 0 (omega arith)) ∙ ap (λ w. w.0) (mul_zero (code_ring k).ring (f, f_in)))
    ∙ ap (λ w. w.0) ((code_ring k).add_zero (x, IsOver_head row_in))))
    (added_from k f c row pivot f_in (IsOver_tail row_in) (omega arith) (omega arith)
    (λ j less. zeros (suc j) (omega arith)))

-- a list whose entries from c on are written
pub put_tail : (c n : ℕ) (xs ys : List ℕ) → length xs ≡ n → put_mid c (n - c) xs ys ≡ take c xs ++ ys
put_tail c n xs ys long =
    ap (λ w. take c xs ++ w) (ap (λ w. ys ++ w) (drop_all (n - c) (drop c xs) (omega (arith, length-drop c xs)))
    ∙ append-nil ys)
