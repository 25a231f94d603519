-- Lists of codes as lists of numbers and back: the operations are the same on both.
use Rattle.std.specs.Prelude.{◌≡◌, ℕ, zero, suc, ◌-◌, Bool, true, false, cond, List, [], ◌∷◌, length, map, get_or, replicate, refl}
use Rattle.std.proofs.Common.{sym, ap, ap₂, ◌∙◌}
use Rattle.std.proofs.lemmas.List.{length-map}
use Rattle.ff_fields.specs.Field.{CodeField}
use Rattle.ring_lemmas.specs.Ring.{TestedRing}
use Rattle.ff_fields.specs.Code.{raw_ring, is_zero_code, Code, same_code, code_ring, read_code, read_code_below}
use Rattle.ring_lemmas.specs.Lists.{add_lists, neg_list, scale_list, mul_lists, mul_onto, trim_onto, trim, digit_of, rest_from, quotient_from}
use Rattle.ff_fields.specs.Over.{IsOver, IsOver_nil, IsOver_cons, IsOver_head, IsOver_tail}

module _ (k : CodeField) where
  abbrev K : TestedRing (Code k)
  K = code_ring k

  -- the numbers of a list of codes, and the codes of a list of numbers
  abbrev pub numbers : List (Code k) → List ℕ
  numbers xs = map (λ x. x.0) xs

  abbrev pub read : List ℕ → List (Code k)
  read ns = map (read_code k) ns

  -- the operations on numbers are those on codes
  pub numbers_add : (xs ys : List (Code k))
      → numbers (add_lists K.ops xs ys) ≡ add_lists (raw_ring k.ops) (numbers xs) (numbers ys)
  numbers_add [] ys = refl
  numbers_add (x ∷ xs) [] = refl
  numbers_add (x ∷ xs) (y ∷ ys) = ap (λ w. k.add x.0 y.0 ∷ w) (numbers_add xs ys)

  pub numbers_scale : (c : Code k) (ys : List (Code k))
      → numbers (scale_list K.ops c ys) ≡ scale_list (raw_ring k.ops) c.0 (numbers ys)
  numbers_scale c [] = refl
  numbers_scale c (y ∷ ys) = ap (λ w. k.mul c.0 y.0 ∷ w) (numbers_scale c ys)

  pub numbers_mul : (xs ys : List (Code k))
      → numbers (mul_lists K.ops xs ys) ≡ mul_lists (raw_ring k.ops) (numbers xs) (numbers ys)
  numbers_mul [] ys = refl
  numbers_mul (x ∷ xs) ys =
      numbers_add (scale_list K.ops x ys) (K.𝟘 ∷ mul_lists K.ops xs ys)
      ∙ ap₂ (add_lists (raw_ring k.ops)) (numbers_scale x ys) (ap (λ w. 0 ∷ w) (numbers_mul xs ys))

  pub numbers_neg : (ys : List (Code k)) → numbers (neg_list K.ops ys) ≡ neg_list (raw_ring k.ops) (numbers ys)
  numbers_neg [] = refl
  numbers_neg (y ∷ ys) = ap (λ w. k.neg y.0 ∷ w) (numbers_neg ys)

  pub numbers_mul_onto : (xs ys zs : List (Code k))
      → numbers (mul_onto K.ops xs ys zs) ≡ mul_onto (raw_ring k.ops) (numbers xs) (numbers ys) (numbers zs)
  numbers_mul_onto [] ys zs = refl
  numbers_mul_onto (x ∷ xs) ys zs =
      numbers_add (K.𝟘 ∷ mul_onto K.ops xs ys zs) (scale_list K.ops x ys)
      ∙ ap₂ (add_lists (raw_ring k.ops)) (ap (λ w. 0 ∷ w) (numbers_mul_onto xs ys zs)) (numbers_scale x ys)

  pub numbers_zeros : (m : ℕ) → numbers (replicate m K.𝟘) ≡ replicate m 0
  numbers_zeros zero = refl
  numbers_zeros (suc m) = ap (λ w. 0 ∷ w) (numbers_zeros m)

  numbers_trim_onto : (x : Code k) (xs : List (Code k))
      → numbers (trim_onto K.is_zero x xs) ≡ trim_onto is_zero_code x.0 (numbers xs)
  numbers_trim_onto x [] = go (is_zero_code x.0)
    where
      go : (b : Bool) → numbers (cond b [] (x ∷ [])) ≡ cond b [] (x.0 ∷ [])
      go true = refl
      go false = refl
  numbers_trim_onto x (y ∷ ys) = refl

  pub numbers_trim : (xs : List (Code k)) → numbers (trim K.is_zero xs) ≡ trim is_zero_code (numbers xs)
  numbers_trim [] = refl
  numbers_trim (x ∷ xs) = numbers_trim_onto x (trim K.is_zero xs) ∙ ap (trim_onto is_zero_code x.0) (numbers_trim xs)

  -- reading is undone by writing, and writing by reading where the codes are below the size
  pub read_numbers : (xs : List (Code k)) → read (numbers xs) ≡ xs
  read_numbers [] = refl
  read_numbers (x ∷ xs) = ap₂ ◌∷◌ (same_code k _ x (read_code_below k x.0 x.1)) (read_numbers xs)

  pub numbers_read : (ns : List ℕ) → IsOver k.ops ns → numbers (read ns) ≡ ns
  numbers_read [] over = refl
  numbers_read (n ∷ ns) over = ap₂ ◌∷◌ (read_code_below k n (IsOver_head over)) (numbers_read ns (IsOver_tail over))

  pub IsOver_numbers : (xs : List (Code k)) → IsOver k.ops (numbers xs)
  IsOver_numbers [] = IsOver_nil
  IsOver_numbers (x ∷ xs) = IsOver_cons x.1 (IsOver_numbers xs)

  pub numbers_get_or : (xs : List (Code k)) (i : ℕ) → (get_or xs i K.𝟘).0 ≡ get_or (numbers xs) i 0
  numbers_get_or [] i = refl
  numbers_get_or (x ∷ xs) zero = refl
  numbers_get_or (x ∷ xs) (suc i) = numbers_get_or xs i

  numbers_digit : (b t : List (Code k)) (inverse : Code k)
      → (digit_of K.ops b inverse t).0 ≡ digit_of (raw_ring k.ops) (numbers b) inverse.0 (numbers t)
  numbers_digit b t inverse =
      ap (λ c. k.mul c inverse.0) (numbers_get_or t (length b - 1)
      ∙ ap (λ n. get_or (numbers t) (n - 1) 0) (sym (length-map b (λ x. x.0))))

  pub numbers_rest_from : (b xs : List (Code k)) (inverse : Code k)
      → numbers (rest_from K.ops b inverse xs) ≡ rest_from (raw_ring k.ops) (numbers b) inverse.0 (numbers xs)
  numbers_rest_from b [] inverse = numbers_zeros (length b - 1)
      ∙ ap (λ n. replicate (n - 1) 0) (sym (length-map b (λ x. x.0)))
  numbers_rest_from b (x ∷ xs) inverse =
      let t = x ∷ rest_from K.ops b inverse xs in
      let same = ap (λ w. x.0 ∷ w) (numbers_rest_from b xs inverse) in
      numbers_add t (scale_list K.ops (K.⊖◌ (digit_of K.ops b inverse t)) b)
      ∙ ap₂ (add_lists (raw_ring k.ops)) same
      (numbers_scale (K.⊖◌ (digit_of K.ops b inverse t)) b
      ∙ ap (λ c. scale_list (raw_ring k.ops) (k.neg c) (numbers b))
      (numbers_digit b t inverse ∙ ap (digit_of (raw_ring k.ops) (numbers b) inverse.0) same))

  pub numbers_quotient_from : (b xs : List (Code k)) (inverse : Code k)
      → numbers (quotient_from K.ops b inverse xs) ≡ quotient_from (raw_ring k.ops) (numbers b) inverse.0 (numbers xs)
  numbers_quotient_from b [] inverse = refl
  numbers_quotient_from b (x ∷ xs) inverse =
      ap₂ ◌∷◌
      (numbers_digit b (x ∷ rest_from K.ops b inverse xs) inverse
      ∙ ap (λ w. digit_of (raw_ring k.ops) (numbers b) inverse.0 (x.0 ∷ w)) (numbers_rest_from b xs inverse))
      (numbers_quotient_from b xs inverse)
