-- Steps of the loops over slices of codes.
use Rattle.std.proofs.Common.{◌≡◌, ℕ, zero, suc, ◌+◌, ◌-◌, ◌<◌, ◌≤◌, List, [], ◌∷◌, ◌++◌, length, get_or, take, drop, set, replicate, refl, sym, ap, ap₂, ◌∙◌, arith, add-one}
use Rattle.std.proofs.lemmas.List.{take_all, drop_all, drop_at, take_at, length-replicate, length-drop, drop_more, take_rest, append-nil, replicate-append-replicate}
use borrow.Rule.Slice.PartMut.{put_mid}
use Rattle.ff_fields.specs.Field.{CodeField}
use Rattle.ring_lemmas.specs.Ring.{Operations}
use Rattle.ff_fields.specs.Code.{raw_ring}
use Rattle.ring_lemmas.specs.Lists.{add_lists, scale_list, mul_onto}
use Rattle.ring_lemmas.proofs.Lists.{add_lists_nil, length_scale_list}
use Rattle.ff_fields.specs.Over.{IsOver, IsOver_add, IsOver_take}

-- ---- a list is added, one position after another

-- one position more is added
add_lists_more : {A : Type 0} (r : Operations A) (old ys : List A) (j : ℕ) (d : A) → j < length ys
    → length ys ≤ length old → set (add_lists r old (take j ys)) j
    (r.◌⊕◌ (get_or (add_lists r old (take j ys)) j d) (get_or ys j d)) ≡ add_lists r old (take (suc j) ys)
add_lists_more r old [] j d less le = absurd (omega arith)
add_lists_more r [] (y ∷ ys) j d less le = absurd (omega arith)
add_lists_more r (o ∷ old) (y ∷ ys) zero d less le = ap (λ w. r.◌⊕◌ o y ∷ w) (sym (add_lists_nil r old))
add_lists_more r (o ∷ old) (y ∷ ys) (suc j) d less le = ap (λ w. r.◌⊕◌ o y ∷ w)
    (add_lists_more r old ys j d (omega arith) (omega arith))

pub add_lists_step : (r : Operations ℕ) (old now ys : List ℕ) (j x y : ℕ) → now ≡ add_lists r old (take j ys)
    → j < length ys → length ys ≤ length old → y ≡ get_or ys j 0 → x ≡ r.◌⊕◌ (get_or now j 0) y
    → set now j x ≡ add_lists r old (take (j + 1) ys)
add_lists_step r old now ys j x y now_is less le y_is x_is =
    rw (x_is, y_is, now_is, add-one) (add_lists_more r old ys j 0 less le)

pub add_lists_all : (r : Operations ℕ) (old now ys : List ℕ) (j : ℕ) → now ≡ add_lists r old (take j ys) → length ys ≤ j
    → now ≡ add_lists r old ys
add_lists_all r old now ys j now_is le = now_is ∙ ap (add_lists r old) (take_all j ys le)

-- ---- each position is multiplied

scaled_read : {A : Type 0} (r : Operations A) (c : A) (old : List A) (j : ℕ) (d : A) → j < length old
    → get_or (take j (scale_list r c old) ++ drop j old) j d ≡ get_or old j d
scaled_read r c [] j d less = absurd (omega arith)
scaled_read r c (o ∷ old) zero d less = refl
scaled_read r c (o ∷ old) (suc j) d less = scaled_read r c old j d (omega arith)

scaled_more : {A : Type 0} (r : Operations A) (c : A) (old : List A) (j : ℕ) (d : A) → j < length old
    → set (take j (scale_list r c old) ++ drop j old) j (r.◌⊗◌ c (get_or old j d))
    ≡ take (suc j) (scale_list r c old) ++ drop (suc j) old
scaled_more r c [] j d less = absurd (omega arith)
scaled_more r c (o ∷ old) zero d less = refl
scaled_more r c (o ∷ old) (suc j) d less = ap (λ w. r.◌⊗◌ c o ∷ w) (scaled_more r c old j d (omega arith))

pub scale_step : (r : Operations ℕ) (c : ℕ) (old now : List ℕ) (j x : ℕ)
    → now ≡ take j (scale_list r c old) ++ drop j old → j < length old → x ≡ r.◌⊗◌ c (get_or now j 0)
    → set now j x ≡ take (j + 1) (scale_list r c old) ++ drop (j + 1) old
scale_step r c old now j x now_is less x_is =
    let read = ap (λ w. get_or w j 0) now_is ∙ scaled_read r c old j 0 less in
    rw (x_is ∙ ap (r.◌⊗◌ c) read, now_is, add-one) (scaled_more r c old j 0 less)

pub scale_read : (r : Operations ℕ) (c : ℕ) (old now : List ℕ) (j : ℕ) → now ≡ take j (scale_list r c old) ++ drop j old
    → j < length old → get_or now j 0 ≡ get_or old j 0
scale_read r c old now j now_is less = ap (λ w. get_or w j 0) now_is ∙ scaled_read r c old j 0 less

pub scale_end : (r : Operations ℕ) (c : ℕ) (old now : List ℕ) (j : ℕ) → now ≡ take j (scale_list r c old) ++ drop j old
    → length old ≤ j → now ≡ scale_list r c old
scale_end r c old now j now_is le =
    now_is ∙ ap₂ (λ x y. x ++ y) (take_all j (scale_list r c old) (omega (arith, length_scale_list r c old)))
    (drop_all j old le) ∙ append-nil _

-- the sum stays over the field while a list is added
pub IsOver_part : (k : CodeField) (old now ys : List ℕ) (j : ℕ) → IsOver k.ops old → IsOver k.ops ys
    → now ≡ add_lists (raw_ring k.ops) old (take j ys) → IsOver k.ops now
IsOver_part k old now ys j old_in ys_in now_is = rw now_is (IsOver_add k old (take j ys) old_in (IsOver_take j ys_in))

-- ---- a product is made from the top

zeros_move : (n : ℕ) (xs : List ℕ) → replicate (suc n) 0 ++ xs ≡ replicate n 0 ++ (0 ∷ xs)
zeros_move zero xs = refl
zeros_move (suc n) xs = ap (λ w. 0 ∷ w) (zeros_move n xs)

pub multiply_step : (r : Operations ℕ) (a b z : List ℕ) (i n : ℕ) (product part now : List ℕ) → r.𝟘 ≡ 0 → i ≡ suc n
    → i ≤ length a → product ≡ replicate i 0 ++ mul_onto r (drop i a) b z
    → part ≡ take (length product - n) (drop n product) → now ≡ add_lists r part (scale_list r (get_or a n 0) b)
    → put_mid n (length product - n) product now ≡ replicate n 0 ++ mul_onto r (drop n a) b z
multiply_step r a b z i n product part now null whole within done part_is now_is =
    ap₂ (λ p q. p ++ q) front (ap₂ (λ p q. p ++ q) middle back ∙ append-nil _)
  where
    rest : List ℕ
    rest = mul_onto r (drop (n + 1) a) b z

    moved : product ≡ replicate n 0 ++ (0 ∷ rest)
    moved = done ∙ ap (λ m. replicate m 0 ++ mul_onto r (drop m a) b z) (whole ∙ sym (add-one n))
        ∙ ap (λ m. replicate m 0 ++ rest) (add-one n) ∙ zeros_move n rest

    front : take n product ≡ replicate n 0
    front = ap (take n) moved ∙ take_at (replicate n 0) (0 ∷ rest) n (length-replicate n 0)

    back : drop (length product - n) (drop n product) ≡ []
    back = drop_all (length product - n) (drop n product) (omega (arith, length-drop n product))

    part_moved : part ≡ 0 ∷ rest
    part_moved = part_is ∙ take_rest product n ∙ ap (drop n) moved
        ∙ drop_at (replicate n 0) (0 ∷ rest) n (length-replicate n 0)

    middle : now ≡ mul_onto r (drop n a) b z
    middle =
        now_is
        ∙ ap (λ w. add_lists r w (scale_list r (get_or a n 0) b)) (part_moved ∙ ap (λ w. w ∷ rest) (sym null))
        ∙ ap (λ w. mul_onto r w b z) (sym (drop_more a n 0 (omega arith)))

pub multiply_init : (r : Operations ℕ) (a b z product : List ℕ) (m : ℕ) → product ≡ replicate (length a + m) 0
    → z ≡ replicate m 0 → product ≡ replicate (length a) 0 ++ mul_onto r (drop (length a) a) b z
multiply_init r a b z product m zeros z_is =
    zeros ∙ sym (replicate-append-replicate (length a) m 0) ∙ ap (λ w. replicate (length a) 0 ++ w) (sym z_is)
    ∙ ap (λ w. replicate (length a) 0 ++ mul_onto r w b z) (sym (drop_all (length a) a (omega arith)))
