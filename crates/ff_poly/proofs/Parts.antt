-- What multiples and sums with a product stand for.
use Rattle.std.proofs.Common.{◌≡◌, ◌≢◌, ℕ, suc, ◌+◌, ◌-◌, ◌<◌, List, [], ◌∷◌, ◌++◌, length, get_or, take, refl, sym, ap, ap₂, ◌∙◌, arith, add-one}
use Rattle.std.proofs.lemmas.List.{take_all, take_more, length-append, length-map, get_or_at}
use Rattle.ring_lemmas.specs.Ring.{Operations, TestedRing}
use Rattle.ring_lemmas.specs.Lists.{coeff_of, convolution, add_lists, mul_lists, scale_list, trim, IsTrimmed_trim}
use Rattle.ring_lemmas.proofs.Ring.{neg_mul, one_mul, neg_unique}
use Rattle.ring_lemmas.proofs.Sequences.{convolution_constant_left, convolution_past, convolution_top}
use Rattle.ring_lemmas.proofs.Lists.{coeff_scale, coeff_mul, coeff_trim, trim_trimmed, IsTrimmed_push}
use Rattle.ring_lemmas.proofs.Polynomials.{same_pol, series_mul, coeff_past, length_from_top}
use Rattle.ff_fields.specs.Field.{FieldOps, CodeField}
use Rattle.ff_fields.specs.Code.{raw_ring, is_zero_code, same_code, code_ring, code_domain, read_code, read_code_below}
use Rattle.ff_fields.specs.Over.{IsOver, IsOver_nil, IsOver_cons, get_or_below}
use Rattle.ff_fields.specs.Numbers.{numbers, read, numbers_read, numbers_scale, numbers_mul, numbers_trim, numbers_get_or}
use Rattle.ff_poly.specs.Words.{IsPoly, IsMonicList, poly_of, top_of, sum_of, multiple_of, product_of}
use Rattle.ff_poly.specs.PolyOver.{IsPoly_poly_of, IsOver_product_of, IsOver_multiple_of}
use Rattle.ff_poly.specs.Value.{value, series_value, value_sum, value_product}
use Rattle.ff_poly.specs.Polynomials.{polynomials, constant_poly, value_nil, value_one, series_read}

module _ (k : CodeField) where
  -- a multiple by c is the product with the constant c
  pub value_multiple : (a : List ℕ) (c : ℕ) → IsOver k.ops a → c < k.size
      → value k (multiple_of k.ops a c) ≡ (polynomials k).◌⊗◌ (constant_poly k c) (value k a)
  value_multiple a c a_in c_in =
      let K = code_ring k in
      let scaled = scale_list K.ops (read_code k c) (read k a) in
      let written = numbers_scale k (read_code k c) (read k a)
      ∙ ap₂ (scale_list (raw_ring k.ops)) (read_code_below k c c_in) (numbers_read k a a_in) in
      same_pol K _ _ (λ n.
      ap (λ ns. coeff_of K.ops (value k ns).0 n) (ap poly_of (sym written))
      ∙ series_value k scaled n
      ∙ coeff_scale K (read_code k c) (read k a) n
      ∙ ap (K.◌⊗◌ (read_code k c)) (sym (series_read k a n))
      ∙ sym (series_mul K (constant_poly k c) (value k a) n
      ∙ convolution_constant_left K.ring _ (coeff_of K.ops (value k a).0) (λ i. series_read k (c ∷ []) (suc i)) n
      ∙ ap (λ x. K.◌⊗◌ x (coeff_of K.ops (value k a).0 n)) (series_read k (c ∷ []) 0)))

  -- the constant of -1
  pub minus_one : constant_poly k (k.neg 1) ≡ (polynomials k).⊖◌ (polynomials k).𝟙
  minus_one =
      neg_unique (polynomials k).ring (polynomials k).𝟙 (constant_poly k (k.neg 1))
      (ap (λ u. (polynomials k).◌⊕◌ u (constant_poly k (k.neg 1))) (sym (value_one k))
      ∙ sym (value_sum k (1 ∷ []) (k.neg 1 ∷ []) (IsOver_cons k.laws.one_below IsOver_nil)
      (IsOver_cons (k.laws.neg_below 1 k.laws.one_below) IsOver_nil))
      ∙ ap (λ x. value k (poly_of (x ∷ [])))
      (k.laws.add_comm 1 (k.neg 1) k.laws.one_below (k.laws.neg_below 1 k.laws.one_below)
      ∙ k.laws.neg_add 1 k.laws.one_below)
      ∙ value_nil k)

  pub value_multiple_one : (a : List ℕ) → IsOver k.ops a → value k (multiple_of k.ops a 1) ≡ value k a
  value_multiple_one a a_in =
      value_multiple a 1 a_in k.laws.one_below ∙ ap (λ c. (polynomials k).◌⊗◌ c (value k a)) (value_one k)
      ∙ one_mul (polynomials k).ring (value k a)

  pub value_multiple_minus : (a : List ℕ) → IsOver k.ops a
      → value k (multiple_of k.ops a (k.neg 1)) ≡ (polynomials k).⊖◌ (value k a)
  value_multiple_minus a a_in =
      value_multiple a (k.neg 1) a_in (k.laws.neg_below 1 k.laws.one_below)
      ∙ ap (λ c. (polynomials k).◌⊗◌ c (value k a)) minus_one
      ∙ neg_mul (polynomials k).ring (polynomials k).𝟙 (value k a)
      ∙ ap (polynomials k).⊖◌ (one_mul (polynomials k).ring (value k a))

  -- a sum with a multiple of a product
  pub value_sum_with_product : (old a b : List ℕ) (c : ℕ) → IsOver k.ops old → c < k.size → IsOver k.ops a
      → IsOver k.ops b
      → value k (sum_of k.ops old (multiple_of k.ops (product_of k.ops a b) c))
      ≡ (polynomials k).◌⊕◌ (value k old) ((polynomials k).◌⊗◌ (constant_poly k c)
      ((polynomials k).◌⊗◌ (value k a) (value k b)))
  value_sum_with_product old a b c old_in c_in a_in b_in =
      value_sum k old (multiple_of k.ops (product_of k.ops a b) c) old_in
      (IsOver_multiple_of k (IsOver_product_of k a_in b_in) c_in)
      ∙ ap ((polynomials k).◌⊕◌ (value k old))
      (value_multiple (product_of k.ops a b) c (IsOver_product_of k a_in b_in) c_in
      ∙ ap ((polynomials k).◌⊗◌ (constant_poly k c)) (value_product k a b a_in b_in))

-- what the words of the contracts make has no zero on top
pub IsPoly_sum_of : (k : FieldOps) (a b : List ℕ) → IsPoly (sum_of k a b)
IsPoly_sum_of k a b = IsPoly_poly_of (add_lists (raw_ring k) a b)

pub IsPoly_product_of : (k : FieldOps) (a b : List ℕ) → IsPoly (product_of k a b)
IsPoly_product_of k a b = IsPoly_poly_of (mul_lists (raw_ring k) a b)

pub IsPoly_multiple_of : (k : FieldOps) (a : List ℕ) (c : ℕ) → IsPoly (multiple_of k a c)
IsPoly_multiple_of k a c = IsPoly_poly_of (scale_list (raw_ring k) c a)

-- ---- monic polynomials

pub IsMonic_multiple : (k : CodeField) (a : List ℕ) → IsOver k.ops a → top_of a ≢ 0 → 0 < length a
    → IsMonicList (multiple_of k.ops a (k.inv (top_of a)))
IsMonic_multiple k a a_in some size =
    let c = k.inv (top_of a) in
    let r = raw_ring k.ops in
    let top_in = get_or_below k a (length a - 1) a_in in (
      scale_list r c (take (length a - 1) a),
      ap (λ w. poly_of (scale_list r c w)) (ends a size)
          ∙ ap poly_of (scale_push r c (take (length a - 1) a) (top_of a)
          ∙ ap (λ t. scale_list r c (take (length a - 1) a) ++ t ∷ []) (k.laws.inv_mul (top_of a) top_in some))
          ∙ trim_trimmed is_zero_code _ (IsTrimmed_push is_zero_code (scale_list r c (take (length a - 1) a)) 1 refl),
    )
  where
    ends : (a : List ℕ) → 0 < length a → a ≡ take (length a - 1) a ++ top_of a ∷ []
    ends a size =
        let whole : length a ≡ length a - 1 + 1 = omega arith in
        sym (take_all (length a) a (omega arith)) ∙ ap (λ n. take n a) whole
        ∙ take_more a (length a - 1) 0 (omega arith)

    scale_push : (r : Operations ℕ) (c : ℕ) (xs : List ℕ) (t : ℕ)
        → scale_list r c (xs ++ t ∷ []) ≡ scale_list r c xs ++ r.◌⊗◌ c t ∷ []
    scale_push r c [] t = refl
    scale_push r c (x ∷ xs) t = ap (λ w. r.◌⊗◌ c x ∷ w) (scale_push r c xs t)

-- a polynomial of n + 1 codes whose code at n is 1 is monic
pub IsMonic_from_top : (n : ℕ) (a : List ℕ) → length a ≡ suc n → get_or a n 0 ≡ 1 → IsMonicList a
IsMonic_from_top n a size top = (
  take n a,
  sym (take_all (n + 1) a (omega arith)) ∙ take_more a n 0 (omega arith)
      ∙ ap (λ t. take n a ++ t ∷ []) top,
)

pub top_of_monic : (a : List ℕ) → IsMonicList a → (n : ℕ) × (length a ≡ suc n) × (get_or a n 0 ≡ 1)
top_of_monic a (lower, a_is) = (
  length lower,
  ap length a_is ∙ length-append lower (1 ∷ [])
      ∙ add-one (length lower),
  ap (λ w. get_or w (length lower) 0) a_is ∙ get_or_at lower 1 [] 0 (length lower) refl,
)

module _ {A : Type 0} (r : TestedRing A) (one_not_zero : ¬ (r.𝟙 ≡ r.𝟘)) (xs ys : List A) (m n : ℕ)
    (xs_size : length xs ≡ suc m) (ys_size : length ys ≡ suc n) (xs_top : coeff_of r.ops xs m ≡ r.𝟙)
    (ys_top : coeff_of r.ops ys n ≡ r.𝟙) where
  trimmed_product : (i : ℕ) → coeff_of r.ops (trim r.is_zero (mul_lists r.ops xs ys)) i
      ≡ convolution r.ops (coeff_of r.ops xs) (coeff_of r.ops ys) i
  trimmed_product i = coeff_trim r (mul_lists r.ops xs ys) i ∙ coeff_mul r xs ys i

  xs_end : (i : ℕ) → m < i → coeff_of r.ops xs i ≡ r.𝟘
  xs_end i less = coeff_past r xs i (omega arith)

  ys_end : (i : ℕ) → n < i → coeff_of r.ops ys i ≡ r.𝟘
  ys_end i less = coeff_past r ys i (omega arith)

  product_top : coeff_of r.ops (trim r.is_zero (mul_lists r.ops xs ys)) (m + n) ≡ r.𝟙
  product_top =
      trimmed_product (m + n) ∙ convolution_top r.ring m n (coeff_of r.ops xs) (coeff_of r.ops ys) xs_end ys_end
      ∙ ap₂ r.◌⊗◌ xs_top ys_top ∙ r.mul_one r.𝟙

  product_size : length (trim r.is_zero (mul_lists r.ops xs ys)) ≡ suc (m + n)
  product_size =
      length_from_top r (trim r.is_zero (mul_lists r.ops xs ys)) (m + n)
      (IsTrimmed_trim r.is_zero (mul_lists r.ops xs ys))
      (λ e. one_not_zero (sym product_top ∙ e))
      (λ i past. trimmed_product i ∙ convolution_past r.ring m n (coeff_of r.ops xs) (coeff_of r.ops ys) xs_end ys_end i
      past)

module _ (k : CodeField) where
  -- the product of two monic polynomials is monic
  pub IsMonic_product : (a b : List ℕ) → IsOver k.ops a → IsOver k.ops b → IsMonicList a → IsMonicList b
      → IsMonicList (product_of k.ops a b)
  IsMonic_product a b a_in b_in a_monic b_monic =
      let m = (top_of_monic a a_monic).0 in
      let n = (top_of_monic b b_monic).0 in
      let xs = read k a in
      let ys = read k b in
      let K = code_ring k in
      let zs = trim K.is_zero (mul_lists K.ops xs ys) in
      let written : product_of k.ops a b
      ≡ numbers k zs = sym (numbers_trim k (mul_lists K.ops xs ys)
      ∙ ap poly_of (numbers_mul k xs ys ∙ ap₂ (mul_lists (raw_ring k.ops)) (numbers_read k a a_in)
      (numbers_read k b b_in))) in
      let xs_size = size a m (top_of_monic a a_monic).1 in
      let ys_size = size b n (top_of_monic b b_monic).1 in
      let xs_top = one a m a_in (top_of_monic a a_monic).2 in
      let ys_top = one b n b_in (top_of_monic b b_monic).2 in
      let not_zero = (code_domain k).one_not_zero in
      IsMonic_from_top (m + n) (product_of k.ops a b)
      (ap length written ∙ length-map zs (λ x. x.0) ∙ product_size K not_zero xs ys m n xs_size ys_size xs_top ys_top)
      (ap (λ w. get_or w (m + n) 0) written ∙ sym (numbers_get_or k zs (m + n))
      ∙ ap (λ x. x.0) (product_top K not_zero xs ys m n xs_size ys_size xs_top ys_top))
    where
      size : (a : List ℕ) (m : ℕ) → length a ≡ suc m → length (read k a) ≡ suc m
      size a m e = length-map a (read_code k) ∙ e

      one : (a : List ℕ) (m : ℕ) → IsOver k.ops a → get_or a m 0 ≡ 1
          → coeff_of (code_ring k).ops (read k a) m ≡ (code_ring k).𝟙
      one a m a_in e = same_code k _ _ (numbers_get_or k (read k a) m ∙ ap (λ w. get_or w m 0) (numbers_read k a a_in)
          ∙ e)
