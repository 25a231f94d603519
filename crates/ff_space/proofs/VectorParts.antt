-- The parts of vectors of codes as rows of polynomials: linear in the vector, and one vector for each row.
use Rattle.std.proofs.Common.{◌≡◌, ℕ, zero, suc, ◌-◌, ◌*◌, List, [], ◌∷◌, ◌++◌, length, take, drop, replicate, refl, sym, ◌∙◌, ap, ap₂, arith}
use Rattle.std.proofs.lemmas.List.{length-drop, length-take-le, take-append-drop, drop-replicate, nil_from_length}
use Rattle.std.proofs.Math.Nat.{suc-mul, zero-mul}
use Rattle.ring_lemmas.specs.Ring.{Operations}
use Rattle.ring_lemmas.specs.Lists.{add_lists, scale_list}
use Rattle.ring_lemmas.specs.Rows.{Row, row_zero, row_add, row_scale}
use Rattle.ring_lemmas.proofs.Rows.{pair_path}
use Rattle.ff_fields.specs.Field.{CodeField}
use Rattle.ff_fields.specs.Code.{raw_ring}
use Rattle.ff_fields.specs.Over.{IsOver, IsOver_take, IsOver_drop, IsOver_add, IsOver_scale, IsOver_zeros}
use Rattle.ff_poly.specs.Value.{value}
use Rattle.ff_poly.specs.Polynomials.{Polynomial, polynomials, constant_poly}
use Rattle.polynomial_theory.proofs.ListValues.{value_add_lists, value_scale_list, value_zeros, same_lists}
use Rattle.function_field.specs.Values.{row_of_list}
use Rattle.ff_lattice.proofs.Spaces.{value_poly_of}
use Rattle.ff_space.specs.Vectors.{parts_of}

-- the start and the rest of a sum and of a multiple
module _ {A : Type 0} (r : Operations A) where
  take_add : (n : ℕ) (xs ys : List A) → take n (add_lists r xs ys) ≡ add_lists r (take n xs) (take n ys)
  take_add zero xs ys = refl
  take_add (suc n) [] ys = refl
  take_add (suc n) (x ∷ xs) [] = refl
  take_add (suc n) (x ∷ xs) (y ∷ ys) = ap (λ zs. r.◌⊕◌ x y ∷ zs) (take_add n xs ys)

  drop_add : (n : ℕ) (xs ys : List A) → drop n (add_lists r xs ys) ≡ add_lists r (drop n xs) (drop n ys)
  drop_add zero xs ys = refl
  drop_add (suc n) [] ys = refl
  drop_add (suc n) (x ∷ xs) [] = add_nothing (drop n xs)
    where
      add_nothing : (zs : List A) → zs ≡ add_lists r zs []
      add_nothing [] = refl
      add_nothing (z ∷ zs) = refl
  drop_add (suc n) (x ∷ xs) (y ∷ ys) = drop_add n xs ys

  take_scale : (n : ℕ) (c : A) (xs : List A) → take n (scale_list r c xs) ≡ scale_list r c (take n xs)
  take_scale zero c xs = refl
  take_scale (suc n) c [] = refl
  take_scale (suc n) c (x ∷ xs) = ap (λ zs. r.◌⊗◌ c x ∷ zs) (take_scale n c xs)

  drop_scale : (n : ℕ) (c : A) (xs : List A) → drop n (scale_list r c xs) ≡ scale_list r c (drop n xs)
  drop_scale zero c xs = refl
  drop_scale (suc n) c [] = refl
  drop_scale (suc n) c (x ∷ xs) = drop_scale n c xs

-- the start of zeros
abbrev start_count : ℕ → ℕ → ℕ
start_count zero m = 0
start_count (suc w) zero = 0
start_count (suc w) (suc m) = suc (start_count w m)

start_zeros : (w m : ℕ) → ◌≡◌ {A = List ℕ} (0 ∷ take w (replicate m 0)) (replicate (suc (start_count w m)) 0)
start_zeros zero m = refl
start_zeros (suc w) zero = refl
start_zeros (suc w) (suc m) = ap (λ zs. 0 ∷ zs) (start_zeros w m)

module _ (k : CodeField) (width : ℕ) where
  -- the row of the polynomials of a vector
  abbrev pub part_row : (n : ℕ) → List ℕ → Row (Polynomial k) n
  part_row n v = row_of_list k n (parts_of width n v)

  pub row_of_sum : (n : ℕ) (a b : List ℕ) → IsOver k.ops a → IsOver k.ops b
      → part_row n (add_lists (raw_ring k.ops) a b) ≡ row_add (polynomials k).ops n (part_row n a) (part_row n b)
  unfolding row_add
  row_of_sum zero a b a_in b_in = refl
  row_of_sum (suc n) a b a_in b_in =
      let s = IsOver_take width a_in in
      let t = IsOver_take width b_in in
      pair_path
      (value_poly_of k (take width (add_lists (raw_ring k.ops) a b)) (IsOver_take width (IsOver_add k a b a_in b_in))
      ∙ ap (value k) (take_add (raw_ring k.ops) width a b)
      ∙ value_add_lists k (take width a) (take width b) s t
      ∙ ap₂ (polynomials k).◌⊕◌ (sym (value_poly_of k (take width a) s)) (sym (value_poly_of k (take width b) t)))
      (ap (part_row n) (drop_add (raw_ring k.ops) width a b)
      ∙ row_of_sum n (drop width a) (drop width b) (IsOver_drop width a_in) (IsOver_drop width b_in))

  pub row_of_multiple : (n : ℕ) (c : ℕ) (a : List ℕ) → IsOver k.ops (c ∷ []) → IsOver k.ops a
      → part_row n (scale_list (raw_ring k.ops) c a)
      ≡ row_scale (polynomials k).ops n (constant_poly k c) (part_row n a)
  unfolding row_scale
  row_of_multiple zero c a c_in a_in = refl
  row_of_multiple (suc n) c a c_in a_in =
      let s = IsOver_take width a_in in
      let below = c_in.each 0 0 (omega arith) in
      pair_path
      (value_poly_of k (take width (scale_list (raw_ring k.ops) c a)) (IsOver_take width
      (IsOver_scale k c a below a_in))
      ∙ ap (value k) (take_scale (raw_ring k.ops) width c a)
      ∙ value_scale_list k c (take width a) below s
      ∙ ap ((polynomials k).◌⊗◌ (constant_poly k c)) (sym (value_poly_of k (take width a) s)))
      (ap (part_row n) (drop_scale (raw_ring k.ops) width c a)
      ∙ row_of_multiple n c (drop width a) c_in (IsOver_drop width a_in))

  pub row_of_zeros : (n m : ℕ) → part_row n (replicate m 0) ≡ row_zero (polynomials k).ops n
  unfolding row_zero
  row_of_zeros zero m = refl
  row_of_zeros (suc n) m =
      pair_path
      (value_poly_of k (take width (replicate m 0)) (IsOver_take width (IsOver_zeros k m))
      ∙ value_take width m)
      (ap (part_row n) (drop-replicate width m 0) ∙ row_of_zeros n (m - width))
    where
      value_take : (w m : ℕ) → value k (take w (replicate m 0)) ≡ (polynomials k).𝟘
      value_take zero m = value_zeros k 0
      value_take (suc w) zero = value_zeros k 0
      value_take (suc w) (suc m) = ap (value k) (start_zeros w m) ∙ value_zeros k (suc (start_count w m))

  -- a vector of so many codes for each part is known by its row
  pub vector_of_row : (n : ℕ) (a b : List ℕ) → length a ≡ n * width → length b ≡ n * width → IsOver k.ops a
      → IsOver k.ops b → part_row n a ≡ part_row n b → a ≡ b
  vector_of_row zero a b a_long b_long a_in b_in e =
      nil_from_length a (a_long ∙ zero-mul width) ∙ sym (nil_from_length b (b_long ∙ zero-mul width))
  vector_of_row (suc n) a b a_long b_long a_in b_in e =
      let p = suc-mul n width in
      let s = IsOver_take width a_in in
      let t = IsOver_take width b_in in
      let first : take width a ≡ take width b
      = same_lists k (take width a) (take width b) s t
      (length-take-le width a (omega (arith, p, a_long)) ∙ sym (length-take-le width b (omega (arith, p, b_long))))
      (sym (value_poly_of k (take width a) s) ∙ ap (λ v. v.0) e ∙ value_poly_of k (take width b) t) in
      let others : drop width a ≡ drop width b
      = vector_of_row n (drop width a) (drop width b) (omega (arith, p, a_long, length-drop width a))
      (omega (arith, p, b_long, length-drop width b)) (IsOver_drop width a_in) (IsOver_drop width b_in)
      (ap (λ v. v.1) e) in
      sym (take-append-drop width a) ∙ ap₂ ◌++◌ first others ∙ take-append-drop width b
