-- Steps of the loops that add a multiple of a list of codes, one position after another.
use Rattle.std.proofs.Common.{◌≡◌, ℕ, zero, suc, ◌+◌, ◌<◌, ◌≤◌, List, [], ◌∷◌, length, get_or, take, set, sym, ap, ap₂, ◌∙◌, arith, add-one}
use Rattle.std.proofs.lemmas.List.{take_all}
use Rattle.ff_fields.specs.Field.{CodeField}
use Rattle.ff_fields.specs.Code.{raw_ring, code_ring}
use Rattle.ff_fields.specs.Over.{IsOver, IsOver_head, IsOver_tail, IsOver_add, IsOver_scale, IsOver_take}
use Rattle.ring_lemmas.specs.Ring.{Operations}
use Rattle.ring_lemmas.specs.Lists.{add_lists, scale_list}
use Rattle.ring_lemmas.proofs.Ring.{zero_mul, mul_zero}
use Rattle.ring_lemmas.proofs.Lists.{add_lists_nil, length_scale_list, get_or_scale_list}

-- one position more is added
add_lists_more : {A : Type 0} (r : Operations A) (old ys : List A) (j : ℕ) (d : A) → j < length ys
    → length ys ≤ length old → set (add_lists r old (take j ys)) j
    (r.◌⊕◌ (get_or (add_lists r old (take j ys)) j d) (get_or ys j d)) ≡ add_lists r old (take (suc j) ys)
add_lists_more r old [] j d less le = absurd (omega arith)
add_lists_more r [] (y ∷ ys) j d less le = absurd (omega arith)
add_lists_more r (o ∷ old) (y ∷ ys) zero d less le = ap (λ w. r.◌⊕◌ o y ∷ w) (sym (add_lists_nil r old))
add_lists_more r (o ∷ old) (y ∷ ys) (suc j) d less le = ap (λ w. r.◌⊕◌ o y ∷ w)
    (add_lists_more r old ys j d (omega arith) (omega arith))

add_zero : (k : CodeField) (x y : ℕ) → x < k.size → y ≡ 0 → x ≡ k.add x y
add_zero k x y x_in y_is = sym (ap (k.add x) y_is ∙ ap (λ w. w.0) ((code_ring k).add_zero (x, x_in)))

-- a position is passed over where 0 would be added
passed : (k : CodeField) (old ys : List ℕ) (j : ℕ) → IsOver k.ops old → j < length ys → length ys ≤ length old
    → get_or ys j 0 ≡ 0
    → add_lists (raw_ring k.ops) old (take j ys) ≡ add_lists (raw_ring k.ops) old (take (suc j) ys)
passed k old [] j old_in less le zero_is = absurd (omega arith)
passed k [] (y ∷ ys) j old_in less le zero_is = absurd (omega arith)
passed k (o ∷ old) (y ∷ ys) zero old_in less le zero_is = ap₂ ◌∷◌ (add_zero k o y (IsOver_head old_in) zero_is)
    (sym (add_lists_nil (raw_ring k.ops) old))
passed k (o ∷ old) (y ∷ ys) (suc j) old_in less le zero_is = ap (λ w. k.add o y ∷ w)
    (passed k old ys j (IsOver_tail old_in) (omega arith) (omega arith) zero_is)

module _ (k : CodeField) (c : ℕ) (c_in : c < k.size) (old codes : List ℕ) (old_in : IsOver k.ops old)
    (codes_in : IsOver k.ops codes) (fits : length codes ≤ length old) where
  abbrev multiple : List ℕ
  multiple = scale_list (raw_ring k.ops) c codes

  abbrev part : ℕ → List ℕ
  part j = add_lists (raw_ring k.ops) old (take j multiple)

  long : length multiple ≡ length codes
  long = length_scale_list (raw_ring k.ops) c codes

  pub sum_start : old ≡ part 0
  sum_start = sym (add_lists_nil (raw_ring k.ops) old)

  pub sum_end : (now : List ℕ) (j : ℕ) → now ≡ part j → length codes ≤ j → now ≡ add_lists (raw_ring k.ops) old multiple
  sum_end now j now_is le = now_is ∙ ap (add_lists (raw_ring k.ops) old) (take_all j multiple (omega (arith, long)))

  pub sum_over : (now : List ℕ) (j : ℕ) → now ≡ part j → IsOver k.ops now
  sum_over now j now_is = rw now_is (IsOver_add k old (take j multiple) old_in
      (IsOver_take j (IsOver_scale k c codes c_in codes_in)))

  pub sum_next : (now : List ℕ) (j x : ℕ) → now ≡ part j → j < length codes
      → x ≡ k.add (get_or now j 0) (k.mul c (get_or codes j 0)) → set now j x ≡ part (j + 1)
  sum_next now j x now_is less x_is =
      rw (x_is, sym (get_or_scale_list (raw_ring k.ops) c codes j 0 less), now_is, add-one)
      (add_lists_more (raw_ring k.ops) old multiple j 0 (omega (arith, long)) (omega (arith, long)))

  pub sum_pass : (now : List ℕ) (j : ℕ) → now ≡ part j → j < length codes → get_or codes j 0 ≡ 0 → now ≡ part (j + 1)
  sum_pass now j now_is less zero_is =
      rw (now_is, add-one)
      (passed k old multiple j old_in (omega (arith, long)) (omega (arith, long))
      (get_or_scale_list (raw_ring k.ops) c codes j 0 less ∙ ap (k.mul c) zero_is
      ∙ ap (λ w. w.0) (mul_zero (code_ring k).ring (c, c_in))))

-- 0 times a list adds nothing
pub sum_nothing : (k : CodeField) (c : ℕ) (old codes : List ℕ) → IsOver k.ops old → IsOver k.ops codes
    → length codes ≤ length old → c ≡ 0
    → old ≡ add_lists (raw_ring k.ops) old (scale_list (raw_ring k.ops) c codes)
sum_nothing k c old [] old_in codes_in le c_is = sym (add_lists_nil (raw_ring k.ops) old)
sum_nothing k c [] (y ∷ codes) old_in codes_in le c_is = absurd (omega arith)
sum_nothing k c (o ∷ old) (y ∷ codes) old_in codes_in le c_is =
    let y_in = IsOver_head codes_in in
    ap₂ ◌∷◌
    (add_zero k o (k.mul c y) (IsOver_head old_in)
    (ap (λ d. k.mul d y) c_is ∙ ap (λ w. w.0) (zero_mul (code_ring k).ring (y, y_in))))
    (sum_nothing k c old codes (IsOver_tail old_in) (IsOver_tail codes_in) (omega arith) c_is)
