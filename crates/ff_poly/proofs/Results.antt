-- What the loops leave, as the words of the contracts say it.
use Rattle.std.proofs.Common.{◌≡◌, ℕ, List, [], ◌∷◌, ◌++◌, length, take, replicate, refl, sym, ap, ap₂, ◌∙◌}
use Rattle.std.proofs.lemmas.List.{map-append, take_at}
use Rattle.ff_fields.specs.Field.{FieldOps, CodeField}
use Rattle.ff_fields.specs.Code.{raw_ring, Code, code_ring, is_zero_code}
use Rattle.ring_lemmas.specs.Lists.{coeff_of, add_lists, neg_list, mul_lists, mul_onto, trim_onto}
use Rattle.ring_lemmas.proofs.Lists.{coeff_add, coeff_append_zeros, coeff_mul_onto}
use Rattle.ff_fields.specs.Over.{IsOver}
use Rattle.ff_poly.specs.Words.{poly_of, sum_of, difference_of, product_of}
use Rattle.ff_fields.specs.Numbers.{numbers, read, numbers_read, numbers_add, numbers_neg, numbers_mul, numbers_mul_onto, numbers_zeros}
use Rattle.ff_poly.specs.Value.{same_numbers}

module _ (k : CodeField) where
  pub written_zeros : (a : List ℕ) (m : ℕ) → IsOver k.ops a
      → a ++ replicate m 0 ≡ numbers k (read k a ++ replicate m (code_ring k).𝟘)
  written_zeros a m a_in =
      ap₂ (λ x y. x ++ y) (sym (numbers_read k a a_in)) (sym (numbers_zeros k m))
      ∙ sym (map-append (λ x. x.0) (read k a) (replicate m (code_ring k).𝟘))

  -- zeros on top of a don't change a sum
  padded_sum : (a b : List ℕ) (ys : List (Code k)) (m : ℕ) → IsOver k.ops a → b ≡ numbers k ys
      → poly_of (add_lists (raw_ring k.ops) (a ++ replicate m 0) b) ≡ poly_of (add_lists (raw_ring k.ops) a b)
  padded_sum a b ys m a_in b_is =
      let K = code_ring k in
      let xs = read k a in
      let zeros = replicate m K.𝟘 in
      same_numbers k _ _ (add_lists K.ops (xs ++ zeros) ys) (add_lists K.ops xs ys)
      (ap₂ (add_lists (raw_ring k.ops)) (written_zeros a m a_in) b_is ∙ sym (numbers_add k (xs ++ zeros) ys))
      (ap₂ (add_lists (raw_ring k.ops)) (sym (numbers_read k a a_in)) b_is ∙ sym (numbers_add k xs ys))
      (λ n.
      coeff_add K (xs ++ zeros) ys n
      ∙ ap (λ w. K.◌⊕◌ w (coeff_of K.ops ys n)) (coeff_append_zeros K xs m n)
      ∙ sym (coeff_add K xs ys n))

  pub sum_from_padded : (a b : List ℕ) (m : ℕ) → IsOver k.ops a → IsOver k.ops b
      → poly_of (add_lists (raw_ring k.ops) (a ++ replicate m 0) b) ≡ sum_of k.ops a b
  sum_from_padded a b m a_in b_in = padded_sum a b (read k b) m a_in (sym (numbers_read k b b_in))

  pub difference_from_padded : (a b : List ℕ) (m : ℕ) → IsOver k.ops a → IsOver k.ops b
      → poly_of (add_lists (raw_ring k.ops) (a ++ replicate m 0) (neg_list (raw_ring k.ops) b))
      ≡ difference_of k.ops a b
  difference_from_padded a b m a_in b_in =
      padded_sum a (neg_list (raw_ring k.ops) b) (neg_list (code_ring k).ops (read k b)) m a_in
      (ap (neg_list (raw_ring k.ops)) (sym (numbers_read k b b_in)) ∙ sym (numbers_neg k (read k b)))

  -- a product that was made from the top, over zeros
  pub product_from_top : (a b : List ℕ) (m : ℕ) → IsOver k.ops a → IsOver k.ops b
      → poly_of (mul_onto (raw_ring k.ops) a b (replicate m 0)) ≡ product_of k.ops a b
  product_from_top a b m a_in b_in =
      let K = code_ring k in
      let xs = read k a in
      let ys = read k b in
      let zeros = replicate m K.𝟘 in
      same_numbers k _ _ (mul_onto K.ops xs ys zeros) (mul_lists K.ops xs ys)
      (ap₂ (λ x y. mul_onto (raw_ring k.ops) x y (replicate m 0)) (sym (numbers_read k a a_in))
      (sym (numbers_read k b b_in))
      ∙ ap (mul_onto (raw_ring k.ops) (numbers k xs) (numbers k ys)) (sym (numbers_zeros k m))
      ∙ sym (numbers_mul_onto k xs ys zeros))
      (ap₂ (mul_lists (raw_ring k.ops)) (sym (numbers_read k a a_in)) (sym (numbers_read k b b_in))
      ∙ sym (numbers_mul k xs ys))
      (coeff_mul_onto K xs ys zeros (coeff_append_zeros K [] m))

-- a product with zero is zero
pub product_of_nil : (k : FieldOps) (a : List ℕ) → product_of k a [] ≡ []
product_of_nil k [] = refl
product_of_nil k (c ∷ codes) = ap (trim_onto is_zero_code 0) (product_of_nil k codes)

-- a vector whose whole slice was written
pub written_back : (now rest : List ℕ) (n : ℕ) → length now ≡ n → poly_of (take n (now ++ rest)) ≡ poly_of now
written_back now rest n same = ap poly_of (take_at now rest n same)
