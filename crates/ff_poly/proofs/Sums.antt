-- Steps of the loop that adds a product in place, and what it leaves.
use Rattle.std.proofs.Common.{◌≡◌, ℕ, zero, suc, ◌+◌, ◌-◌, ◌<◌, ◌≤◌, List, [], ◌∷◌, ◌++◌, length, get_or, take, drop, replicate, refl, sym, ap, ap₂, ◌∙◌, arith, add-one, append_assoc}
use Rattle.std.proofs.lemmas.List.{take-append-drop, length-map, length-append, length-replicate, drop_all, drop_at, take_at, length-drop, length-take-le, drop_more, take_more, take_rest, append-nil}
use borrow.Rule.Slice.PartMut.{put_mid}
use Rattle.ring_lemmas.specs.Ring.{Operations, TestedRing}
use Rattle.ring_lemmas.specs.Lists.{coeff_of, add_lists, scale_list, mul_lists, trim}
use Rattle.ring_lemmas.proofs.Ring.{mul_zero}
use Rattle.ring_lemmas.proofs.Lists.{coeff_add, coeff_scale, coeff_trim, coeff_append_zeros, add_lists_nil, trim_trimmed, length_add_lists, length_scale_list}
use Rattle.ff_fields.specs.Field.{FieldOps, CodeField}
use Rattle.ff_fields.specs.Code.{raw_ring, is_zero_code, Code, code_ring, read_code, read_code_below}
use Rattle.ff_fields.specs.Over.{IsOver, IsOver_head, IsOver_tail, IsOver_cons, IsOver_add, IsOver_scale}
use Rattle.ff_fields.specs.Numbers.{numbers, read, numbers_read, numbers_add, numbers_scale, numbers_mul, numbers_trim}
use Rattle.ff_poly.specs.Words.{IsPoly, poly_of, sum_of, multiple_of, product_of}
use Rattle.ff_poly.specs.Sums.{add_onto}
use Rattle.ff_poly.specs.Value.{same_numbers}
use Rattle.ff_poly.proofs.Results.{written_zeros}

-- ---- the loop

pub length_add_onto : {A : Type 0} (r : Operations A) (c : A) (xs ys zs : List A) → 0 < length ys
    → length xs + (length ys - 1) ≤ length zs → length (add_onto r c xs ys zs) ≡ length zs
length_add_onto r c [] ys zs some fits = refl
length_add_onto r c (x ∷ xs) ys [] some fits = refl
length_add_onto r c (x ∷ xs) ys (z ∷ zs) some fits =
    let rest = length_add_onto r c xs ys zs some (omega arith) in
    let same = length_scale_list r (r.◌⊗◌ c x) ys in
    length_add_lists r (z ∷ add_onto r c xs ys zs) (scale_list r (r.◌⊗◌ c x) ys) (omega (arith, rest, same))
    ∙ ap suc rest

pub add_onto_step : (r : Operations ℕ) (c : ℕ) (a b old : List ℕ) (i n : ℕ) (sum part now : List ℕ) (x : ℕ) → i ≡ suc n
    → i ≤ length a → i ≤ length old → sum ≡ take i old ++ add_onto r c (drop i a) b (drop i old)
    → part ≡ take (length sum - n) (drop n sum) → x ≡ r.◌⊗◌ c (get_or a n 0) → now ≡ add_lists r part (scale_list r x b)
    → put_mid n (length sum - n) sum now ≡ take n old ++ add_onto r c (drop n a) b (drop n old)
add_onto_step r c a b old i n sum part now x whole within fits done part_is x_is now_is =
    ap₂ (λ p q. p ++ q) front (ap₂ (λ p q. p ++ q) middle back ∙ append-nil _)
  where
    rest : List ℕ
    rest = add_onto r c (drop (n + 1) a) b (drop (n + 1) old)

    moved : sum ≡ take n old ++ (get_or old n 0 ∷ rest)
    moved =
        done ∙ ap (λ m. take m old ++ add_onto r c (drop m a) b (drop m old)) (whole ∙ sym (add-one n))
        ∙ ap (λ w. w ++ rest) (take_more old n 0 (omega arith))
        ∙ append_assoc (take n old) (get_or old n 0 ∷ []) rest

    size : length (take n old) ≡ n
    size = length-take-le n old (omega arith)

    front : take n sum ≡ take n old
    front = ap (take n) moved ∙ take_at (take n old) (get_or old n 0 ∷ rest) n size

    back : drop (length sum - n) (drop n sum) ≡ []
    back = drop_all (length sum - n) (drop n sum) (omega (arith, length-drop n sum))

    part_moved : part ≡ get_or old n 0 ∷ rest
    part_moved = part_is ∙ take_rest sum n ∙ ap (drop n) moved ∙ drop_at (take n old) (get_or old n 0 ∷ rest) n size

    middle : now ≡ add_onto r c (drop n a) b (drop n old)
    middle =
        now_is
        ∙ ap₂ (λ w y. add_lists r w (scale_list r y b)) part_moved x_is
        ∙ sym (ap₂ (λ v w. add_onto r c v b w) (drop_more a n 0 (omega arith)) (drop_more old n 0 (omega arith)))

pub add_onto_init : (r : Operations ℕ) (c : ℕ) (a b old : List ℕ) → length a ≤ length old
    → old ≡ take (length a) old ++ add_onto r c (drop (length a) a) b (drop (length a) old)
add_onto_init r c a b old fits =
    sym (ap (λ w. take (length a) old ++ add_onto r c w b (drop (length a) old)) (drop_all (length a) a (omega arith))
    ∙ take-append-drop (length a) old)

module _ (k : CodeField) where
  pub IsOver_add_onto : (c : ℕ) (xs ys zs : List ℕ) → c < k.size → IsOver k.ops xs → IsOver k.ops ys → IsOver k.ops zs
      → IsOver k.ops (add_onto (raw_ring k.ops) c xs ys zs)
  IsOver_add_onto c [] ys zs c_in xs_in ys_in zs_in = zs_in
  IsOver_add_onto c (x ∷ xs) ys [] c_in xs_in ys_in zs_in = zs_in
  IsOver_add_onto c (x ∷ xs) ys (z ∷ zs) c_in xs_in ys_in zs_in =
      IsOver_add k (z ∷ add_onto (raw_ring k.ops) c xs ys zs) (scale_list (raw_ring k.ops) (k.mul c x) ys)
      (IsOver_cons (IsOver_head zs_in) (IsOver_add_onto c xs ys zs c_in (IsOver_tail xs_in) ys_in (IsOver_tail zs_in)))
      (IsOver_scale k (k.mul c x) ys (k.laws.mul_below c x c_in (IsOver_head xs_in)) ys_in)

  numbers_add_onto : (c : Code k) (xs ys zs : List (Code k))
      → numbers k (add_onto (code_ring k).ops c xs ys zs)
      ≡ add_onto (raw_ring k.ops) c.0 (numbers k xs) (numbers k ys) (numbers k zs)
  numbers_add_onto c [] ys zs = refl
  numbers_add_onto c (x ∷ xs) ys [] = refl
  numbers_add_onto c (x ∷ xs) ys (z ∷ zs) =
      numbers_add k (z ∷ add_onto (code_ring k).ops c xs ys zs)
      (scale_list (code_ring k).ops ((code_ring k).◌⊗◌ c x) ys)
      ∙ ap₂ (add_lists (raw_ring k.ops)) (ap (λ w. z.0 ∷ w) (numbers_add_onto c xs ys zs))
      (numbers_scale k ((code_ring k).◌⊗◌ c x) ys)

-- ---- the coefficients

module _ {A : Type 0} (r : TestedRing A) where
  open r use {◌⊕◌, ◌⊗◌, 𝟘}

  infixl 65 ◌⊕◌
  infixl 70 ◌⊗◌
  regroup : (z c x y m : A) → (z ⊕ c ⊗ m) ⊕ (c ⊗ x) ⊗ y ≡ z ⊕ c ⊗ (x ⊗ y ⊕ m)
  regroup z c x y m = grind (arith, r.ring)

  coeff_add_onto : (c : A) (xs ys zs : List A) (n : ℕ) → length xs ≤ length zs
      → coeff_of r.ops (add_onto r.ops c xs ys zs) n
      ≡ coeff_of r.ops zs n ⊕ c ⊗ coeff_of r.ops (mul_lists r.ops xs ys) n
  coeff_add_onto c [] ys zs n le = sym (ap (λ w. coeff_of r.ops zs n ⊕ w) (mul_zero r.ring c) ∙ r.add_zero _)
  coeff_add_onto c (x ∷ xs) ys [] n le = absurd (omega arith)
  coeff_add_onto c (x ∷ xs) ys (z ∷ zs) zero le =
      coeff_add r (z ∷ add_onto r.ops c xs ys zs) (scale_list r.ops (c ⊗ x) ys) zero
      ∙ ap (λ w. z ⊕ w) (coeff_scale r (c ⊗ x) ys zero ∙ r.mul_assoc c x _
      ∙ ap (λ w. c ⊗ w) (sym (coeff_scale r x ys zero) ∙ sym (r.add_zero _)))
      ∙ ap (λ w. z ⊕ c ⊗ w) (sym (coeff_add r (scale_list r.ops x ys) (𝟘 ∷ mul_lists r.ops xs ys) zero))
  coeff_add_onto c (x ∷ xs) ys (z ∷ zs) (suc n) le =
      coeff_add r (z ∷ add_onto r.ops c xs ys zs) (scale_list r.ops (c ⊗ x) ys) (suc n)
      ∙ ap₂ (λ v w. v ⊕ w) (coeff_add_onto c xs ys zs n (omega arith)) (coeff_scale r (c ⊗ x) ys (suc n))
      ∙ regroup (coeff_of r.ops zs n) c x (coeff_of r.ops ys (suc n)) (coeff_of r.ops (mul_lists r.ops xs ys) n)
      ∙ ap (λ w. coeff_of r.ops zs n ⊕ c ⊗ (w ⊕ coeff_of r.ops (mul_lists r.ops xs ys) n))
      (sym (coeff_scale r x ys (suc n)))
      ∙ ap (λ w. coeff_of r.ops zs n ⊕ c ⊗ w)
      (sym (coeff_add r (scale_list r.ops x ys) (𝟘 ∷ mul_lists r.ops xs ys) (suc n)))

-- ---- what is left

module _ (k : CodeField) where
  pub sum_with_product : (old a b : List ℕ) (c m : ℕ) → IsOver k.ops old → c < k.size → IsOver k.ops a → IsOver k.ops b
      → length a ≤ length old + m
      → poly_of (add_onto (raw_ring k.ops) c a b (old ++ replicate m 0))
      ≡ sum_of k.ops old (multiple_of k.ops (product_of k.ops a b) c)
  sum_with_product old a b c m old_in c_in a_in b_in fits =
      let K = code_ring k in
      let xs = read k a in
      let ys = read k b in
      let olds = read k old in
      let zs = olds ++ replicate m K.𝟘 in
      let code = read_code k c in
      let product = trim K.is_zero (mul_lists K.ops xs ys) in
      let multiple = trim K.is_zero (scale_list K.ops code product) in
      let a_is = numbers_read k a a_in in
      let b_is = numbers_read k b b_in in
      let code_is = read_code_below k c c_in in
      same_numbers k _ _ (add_onto K.ops code xs ys zs) (add_lists K.ops olds multiple)
      (ap₂ (λ x y. add_onto (raw_ring k.ops) c x y (old ++ replicate m 0)) (sym a_is) (sym b_is)
      ∙ ap₂ (λ e z. add_onto (raw_ring k.ops) e (numbers k xs) (numbers k ys) z) (sym code_is)
      (written_zeros k old m old_in)
      ∙ sym (numbers_add_onto k code xs ys zs))
      (ap₂ (add_lists (raw_ring k.ops)) (sym (numbers_read k old old_in))
      (sym (numbers_trim k (scale_list K.ops code product)
      ∙ ap poly_of (numbers_scale k code product ∙ ap₂ (λ e w. scale_list (raw_ring k.ops) e w) code_is
      (numbers_trim k (mul_lists K.ops xs ys)
      ∙ ap poly_of (numbers_mul k xs ys ∙ ap₂ (mul_lists (raw_ring k.ops)) a_is b_is)))))
      ∙ sym (numbers_add k olds multiple))
      (λ n.
      coeff_add_onto K code xs ys zs n size
      ∙ ap₂ (λ v w. K.◌⊕◌ v (K.◌⊗◌ code w)) (coeff_append_zeros K olds m n)
      (sym (coeff_trim K (mul_lists K.ops xs ys) n))
      ∙ ap (K.◌⊕◌ (coeff_of K.ops olds n))
      (sym (coeff_trim K (scale_list K.ops code product) n ∙ coeff_scale K code product n))
      ∙ sym (coeff_add K olds multiple n))
    where
      size : length (read k a) ≤ length (read k old ++ replicate m (code_ring k).𝟘)
      size =
          omega (
            arith,
            fits,
            length-map a (read_code k),
            length-map old (read_code k),
            length-append (read k old)
                (replicate m (code_ring k).𝟘),
            length-replicate m (code_ring k).𝟘,
          )

-- nothing is added where a factor is 0
pub sum_with_none : (k : FieldOps) (old a b : List ℕ) (c : ℕ) → IsPoly old → product_of k a b ≡ []
    → old ≡ sum_of k old (multiple_of k (product_of k a b) c)
sum_with_none k old a b c old_poly none =
    sym
    (ap (λ w. sum_of k old (multiple_of k w c)) none
    ∙ ap poly_of (add_lists_nil (raw_ring k) old) ∙ trim_trimmed is_zero_code old old_poly.trimmed)
