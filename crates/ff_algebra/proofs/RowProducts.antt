-- The loops over rows of polynomials, and the rows that they leave.
use Rattle.std.proofs.Common.{◌≡◌, ℕ, zero, suc, ◌+◌, ◌-◌, ◌<◌, ◌≤◌, List, [], ◌∷◌, ◌++◌, length, get_or, take, drop, set, map, replicate, Some, refl, sym, ap, ap₂, ◌∙◌, arith, add-one, All}
use Rattle.std.proofs.lemmas.List.{take_at, take_all, drop_all, drop_more, length-append, length-replicate}
use Rattle.std.proofs.lemmas.List.Elements.{All-nil, All-cons, All-head, All-tail, All-replicate, All-pop}
use Rattle.ring_lemmas.specs.Ring.{CommRing}
use Rattle.ring_lemmas.specs.Rows.{Row, row_zero, row_add, row_scale, shift, top, times_y, row_times, row_mul}
use Rattle.ring_lemmas.proofs.Ring.{mul_zero, one_mul, neg_mul}
use Rattle.ring_lemmas.proofs.Rows.{pair_path, row_add_comm}
use Rattle.ff_fields.specs.Field.{FieldOps, CodeField}
use Rattle.ff_fields.specs.Over.{IsOver, IsOver_nil}
use Rattle.ff_poly.specs.Words.{IsPoly, sum_of, multiple_of, product_of}
use Rattle.ff_poly.specs.PolyOver.{IsOver_sum_of, IsOver_multiple_of, IsOver_product_of}
use Rattle.ff_poly.specs.Value.{value, value_product}
use Rattle.ff_poly.specs.Polynomials.{Polynomial, polynomials, constant_poly, value_nil, value_one}
use Rattle.ff_poly.proofs.Parts.{IsPoly_sum_of, value_multiple, value_sum_with_product, minus_one}
use Rattle.function_field.specs.Values.{PresValue, row_of_list, equation_of}
use Rattle.ff_algebra.specs.RowProducts.{IsPolyRow, add_products, cross_sums, row_at, y_times, list_times}

-- ---- one entry after another

-- a vector whose whole slice was written
pub written_row : {A : Type 0} (now rest xs : List A) (n : ℕ) → length now ≡ n → now ≡ xs → take n (now ++ rest) ≡ xs
written_row now rest xs n size now_is = take_at now rest n size ∙ now_is

-- what is still to be done is as it was
pub multiples_read : {A : Type 0} (f : A → A) (old now : List A) (i : ℕ) (d : A) → i < length old
    → now ≡ map f (take i old) ++ drop i old → get_or now i d ≡ get_or old i d
multiples_read {A = A} f old now i d less now_is = ap (λ w. get_or w i d) now_is ∙ go old i less
  where
    go : (old : List A) (i : ℕ) → i < length old → get_or (map f (take i old) ++ drop i old) i d ≡ get_or old i d
    go [] i less = absurd (omega arith)
    go (o ∷ old) zero less = refl
    go (o ∷ old) (suc i) less = go old i (omega arith)

module _ (k : FieldOps) where
  add_products_more : (c : ℕ) (a : List ℕ) (vs ws : List (List ℕ)) (i : ℕ) (d e : List ℕ) → i < length ws
      → length ws ≤ length vs
      → set (add_products k c a vs (take i ws)) i
      (sum_of k (get_or (add_products k c a vs (take i ws)) i d) (multiple_of k (product_of k a (get_or ws i e)) c))
      ≡ add_products k c a vs (take (suc i) ws)
  add_products_more c a vs [] i d e less le = absurd (omega arith)
  add_products_more c a [] (w ∷ ws) i d e less le = absurd (omega arith)
  add_products_more c a (v ∷ vs) (w ∷ ws) zero d e less le = ap
      (λ r. sum_of k v (multiple_of k (product_of k a w) c) ∷ r) (sym (none vs))
    where
      none : (vs : List (List ℕ)) → add_products k c a vs [] ≡ vs
      none [] = refl
      none (v ∷ vs) = refl
  add_products_more c a (v ∷ vs) (w ∷ ws) (suc i) d e less le =
      ap (λ r. sum_of k v (multiple_of k (product_of k a w) c) ∷ r)
      (add_products_more c a vs ws i d e (omega arith) (omega arith))

  pub add_products_step : (c : ℕ) (a : List ℕ) (vs ws now : List (List ℕ)) (i : ℕ) (x w new : List ℕ) → i < length ws
      → length ws ≤ length vs → now ≡ add_products k c a vs (take i ws) → w ≡ get_or ws i w
      → new ≡ sum_of k (get_or now i x) (multiple_of k (product_of k a w) c)
      → set now i new ≡ add_products k c a vs (take (i + 1) ws)
  add_products_step c a vs ws now i x w new less le now_is w_is new_is =
      rw (new_is, now_is, add-one)
      (ap (λ e. set (add_products k c a vs (take i ws)) i
      (sum_of k (get_or (add_products k c a vs (take i ws)) i x) (multiple_of k (product_of k a e) c))) w_is
      ∙ add_products_more c a vs ws i x w less le)

  pub add_products_all : (c : ℕ) (a : List ℕ) (vs ws now : List (List ℕ)) (i : ℕ)
      → now ≡ add_products k c a vs (take i ws) → length ws ≤ i → now ≡ add_products k c a vs ws
  add_products_all c a vs ws now i now_is le = now_is ∙ ap (add_products k c a vs) (take_all i ws le)

  pub length_add_products : (c : ℕ) (a : List ℕ) (vs ws : List (List ℕ)) → length (add_products k c a vs ws) ≡ length vs
  length_add_products c a [] ws = refl
  length_add_products c a (v ∷ vs) [] = refl
  length_add_products c a (v ∷ vs) (w ∷ ws) = ap suc (length_add_products c a vs ws)

  pub poly_add_products : (c : ℕ) (a : List ℕ) (vs ws : List (List ℕ)) → All IsPoly vs
      → All IsPoly (add_products k c a vs ws)
  poly_add_products c a [] ws h = All-nil IsPoly
  poly_add_products c a (v ∷ vs) [] h = h
  poly_add_products c a (v ∷ vs) (w ∷ ws) h = All-cons IsPoly _ _
      (IsPoly_sum_of k v (multiple_of k (product_of k a w) c)) (poly_add_products c a vs ws (All-tail IsPoly v vs h))

  cross_sums_more : (d e : List ℕ) (vs ws : List (List ℕ)) (i : ℕ) (x y : List ℕ) → i < length vs
      → length vs ≡ length ws
      → take i (cross_sums k d e vs ws) ++ sum_of k (product_of k e (get_or vs i x))
      (multiple_of k (product_of k d (get_or ws i y)) 1) ∷ [] ≡ take (suc i) (cross_sums k d e vs ws)
  cross_sums_more d e [] ws i x y less same = absurd (omega arith)
  cross_sums_more d e (v ∷ vs) [] i x y less same = absurd (omega arith)
  cross_sums_more d e (v ∷ vs) (w ∷ ws) zero x y less same = refl
  cross_sums_more d e (v ∷ vs) (w ∷ ws) (suc i) x y less same =
      ap (λ r. sum_of k (product_of k e v) (multiple_of k (product_of k d w) 1) ∷ r)
      (cross_sums_more d e vs ws i x y (omega arith) (omega arith))

  pub cross_sums_step : (d e : List ℕ) (vs ws now after : List (List ℕ)) (i : ℕ) (v w product sum : List ℕ)
      → i < length vs → length vs ≡ length ws → now ≡ take i (cross_sums k d e vs ws) → v ≡ get_or vs i v
      → w ≡ get_or ws i w → product ≡ product_of k e v → sum ≡ sum_of k product (multiple_of k (product_of k d w) 1)
      → after ≡ now ++ sum ∷ [] → after ≡ take (i + 1) (cross_sums k d e vs ws)
  cross_sums_step d e vs ws now after i v w product sum less same now_is v_is w_is product_is sum_is after_is =
      after_is
      ∙ ap₂ (λ r s. r ++ s ∷ []) now_is
      (sum_is ∙ ap₂ (λ r s. sum_of k r (multiple_of k (product_of k d s) 1)) (product_is ∙ ap (product_of k e) v_is)
      w_is)
      ∙ cross_sums_more d e vs ws i v w less same
      ∙ ap (λ n. take n (cross_sums k d e vs ws)) (sym (add-one i))

  pub length_cross_sums : (d e : List ℕ) (vs ws : List (List ℕ)) → length vs ≡ length ws
      → length (cross_sums k d e vs ws) ≡ length vs
  length_cross_sums d e [] ws same = refl
  length_cross_sums d e (v ∷ vs) [] same = absurd (omega arith)
  length_cross_sums d e (v ∷ vs) (w ∷ ws) same = ap suc (length_cross_sums d e vs ws (omega arith))

  pub poly_cross_sums : (d e : List ℕ) (vs ws : List (List ℕ)) → All IsPoly (cross_sums k d e vs ws)
  poly_cross_sums d e [] ws = All-nil IsPoly
  poly_cross_sums d e (v ∷ vs) [] = All-nil IsPoly
  poly_cross_sums d e (v ∷ vs) (w ∷ ws) = All-cons IsPoly _ _
      (IsPoly_sum_of k (product_of k e v) (multiple_of k (product_of k d w) 1)) (poly_cross_sums d e vs ws)

-- ---- the codes stay in range

module _ (k : CodeField) where
  pub over_add_products : (c : ℕ) (a : List ℕ) (vs ws : List (List ℕ)) → c < k.size → IsOver k.ops a
      → All (IsOver k.ops) vs → All (IsOver k.ops) ws → All (IsOver k.ops) (add_products k.ops c a vs ws)
  over_add_products c a [] ws c_in a_in vs_in ws_in = All-nil (IsOver k.ops)
  over_add_products c a (v ∷ vs) [] c_in a_in vs_in ws_in = vs_in
  over_add_products c a (v ∷ vs) (w ∷ ws) c_in a_in vs_in ws_in =
      All-cons (IsOver k.ops) _ _
      (IsOver_sum_of k (All-head (IsOver k.ops) v vs vs_in)
      (IsOver_multiple_of k (IsOver_product_of k a_in (All-head (IsOver k.ops) w ws ws_in)) c_in))
      (over_add_products c a vs ws c_in a_in (All-tail (IsOver k.ops) v vs vs_in) (All-tail (IsOver k.ops) w ws ws_in))

  pub over_cross_sums : (d e : List ℕ) (vs ws : List (List ℕ)) → IsOver k.ops d → IsOver k.ops e → All (IsOver k.ops) vs
      → All (IsOver k.ops) ws → All (IsOver k.ops) (cross_sums k.ops d e vs ws)
  over_cross_sums d e [] ws d_in e_in vs_in ws_in = All-nil (IsOver k.ops)
  over_cross_sums d e (v ∷ vs) [] d_in e_in vs_in ws_in = All-nil (IsOver k.ops)
  over_cross_sums d e (v ∷ vs) (w ∷ ws) d_in e_in vs_in ws_in =
      All-cons (IsOver k.ops) _ _
      (IsOver_sum_of k (IsOver_product_of k e_in (All-head (IsOver k.ops) v vs vs_in))
      (IsOver_multiple_of k (IsOver_product_of k d_in (All-head (IsOver k.ops) w ws ws_in)) k.laws.one_below))
      (over_cross_sums d e vs ws d_in e_in (All-tail (IsOver k.ops) v vs vs_in) (All-tail (IsOver k.ops) w ws ws_in))

  -- ---- what the lists stand for

  abbrev pub S : CommRing (Polynomial k)
  S = (polynomials k).ring

  pub row_of_multiples : (n c : ℕ) (vs : List (List ℕ)) → c < k.size → All (IsOver k.ops) vs
      → row_of_list k n (map (λ v. multiple_of k.ops v c) vs)
      ≡ row_scale S.ops n (constant_poly k c) (row_of_list k n vs)
  unfolding row_scale
  row_of_multiples zero c vs c_in vs_in = refl
  row_of_multiples (suc n) c [] c_in vs_in = pair_path (sym (mul_zero S (constant_poly k c)))
      (row_of_multiples n c [] c_in vs_in)
  row_of_multiples (suc n) c (v ∷ vs) c_in vs_in =
      pair_path (value_multiple k v c (All-head (IsOver k.ops) v vs vs_in) c_in)
      (row_of_multiples n c vs c_in (All-tail (IsOver k.ops) v vs vs_in))

  pub row_of_add_products : (n c : ℕ) (a : List ℕ) (vs ws : List (List ℕ)) → length vs ≡ length ws → c < k.size
      → IsOver k.ops a → All (IsOver k.ops) vs → All (IsOver k.ops) ws
      → row_of_list k n (add_products k.ops c a vs ws)
      ≡ row_add S.ops n (row_of_list k n vs)
      (row_scale S.ops n (S.◌⊗◌ (constant_poly k c) (value k a)) (row_of_list k n ws))
  unfolding row_add row_scale
  row_of_add_products zero c a vs ws same c_in a_in vs_in ws_in = refl
  row_of_add_products (suc n) c a [] [] same c_in a_in vs_in ws_in =
      pair_path (sym (ap (S.◌⊕◌ S.𝟘) (mul_zero S (S.◌⊗◌ (constant_poly k c) (value k a))) ∙ S.add_zero S.𝟘))
      (row_of_add_products n c a [] [] same c_in a_in vs_in ws_in)
  row_of_add_products (suc n) c a [] (w ∷ ws) same c_in a_in vs_in ws_in = absurd (omega arith)
  row_of_add_products (suc n) c a (v ∷ vs) [] same c_in a_in vs_in ws_in = absurd (omega arith)
  row_of_add_products (suc n) c a (v ∷ vs) (w ∷ ws) same c_in a_in vs_in ws_in =
      pair_path
      (value_sum_with_product k v a w c (All-head (IsOver k.ops) v vs vs_in) c_in a_in
      (All-head (IsOver k.ops) w ws ws_in)
      ∙ ap (S.◌⊕◌ (value k v)) (sym (S.mul_assoc (constant_poly k c) (value k a) (value k w))))
      (row_of_add_products n c a vs ws (omega arith) c_in a_in (All-tail (IsOver k.ops) v vs vs_in)
      (All-tail (IsOver k.ops) w ws ws_in))

  pub row_of_cross_sums : (n : ℕ) (d e : List ℕ) (vs ws : List (List ℕ)) → length vs ≡ length ws → IsOver k.ops d
      → IsOver k.ops e → All (IsOver k.ops) vs → All (IsOver k.ops) ws
      → row_of_list k n (cross_sums k.ops d e vs ws)
      ≡ row_add S.ops n (row_scale S.ops n (value k e) (row_of_list k n vs))
      (row_scale S.ops n (value k d) (row_of_list k n ws))
  unfolding row_add row_scale
  row_of_cross_sums zero d e vs ws same d_in e_in vs_in ws_in = refl
  row_of_cross_sums (suc n) d e [] [] same d_in e_in vs_in ws_in =
      pair_path (sym (ap₂ S.◌⊕◌ (mul_zero S (value k e)) (mul_zero S (value k d)) ∙ S.add_zero S.𝟘))
      (row_of_cross_sums n d e [] [] same d_in e_in vs_in ws_in)
  row_of_cross_sums (suc n) d e [] (w ∷ ws) same d_in e_in vs_in ws_in = absurd (omega arith)
  row_of_cross_sums (suc n) d e (v ∷ vs) [] same d_in e_in vs_in ws_in = absurd (omega arith)
  row_of_cross_sums (suc n) d e (v ∷ vs) (w ∷ ws) same d_in e_in vs_in ws_in =
      pair_path
      (value_sum_with_product k (product_of k.ops e v) d w 1
      (IsOver_product_of k e_in (All-head (IsOver k.ops) v vs vs_in)) k.laws.one_below d_in
      (All-head (IsOver k.ops) w ws ws_in)
      ∙ ap₂ S.◌⊕◌ (value_product k e v e_in (All-head (IsOver k.ops) v vs vs_in))
      (ap (λ u. S.◌⊗◌ u (S.◌⊗◌ (value k d) (value k w))) (value_one k) ∙ one_mul S (S.◌⊗◌ (value k d) (value k w))))
      (row_of_cross_sums n d e vs ws (omega arith) d_in e_in (All-tail (IsOver k.ops) v vs vs_in)
      (All-tail (IsOver k.ops) w ws ws_in))

  row_of_shift : (m : ℕ) (c t : List ℕ) (vs : List (List ℕ)) → length vs ≡ m
      → shift S.ops (suc m) (value k c) (row_of_list k (suc m) (vs ++ t ∷ [])) ≡ row_of_list k (suc m) (c ∷ vs)
  unfolding shift
  row_of_shift zero c t [] same = refl
  row_of_shift (suc m) c t [] same = absurd (omega arith)
  row_of_shift zero c t (v ∷ vs) same = absurd (omega arith)
  row_of_shift (suc m) c t (v ∷ vs) same = pair_path refl (row_of_shift m v t vs (omega arith))

  row_top : (m : ℕ) (c : Polynomial k) (t : List ℕ) (vs : List (List ℕ)) → length vs ≡ m
      → top S.ops (suc m) c (row_of_list k (suc m) (vs ++ t ∷ [])) ≡ value k t
  unfolding top
  row_top zero c t [] same = refl
  row_top (suc m) c t [] same = absurd (omega arith)
  row_top zero c t (v ∷ vs) same = absurd (omega arith)
  row_top (suc m) c t (v ∷ vs) same = row_top m (value k v) t vs (omega arith)

module _ (k : CodeField) (p : PresValue) where
  -- y times a row: what is on top goes, and its multiple of f is taken away
  pub row_at_shifted : (t : List ℕ) (old vs : List (List ℕ)) → old ≡ vs ++ t ∷ [] → suc (length vs) ≡ p.n
      → length p.coeffs ≡ p.n → IsOver k.ops t → All (IsOver k.ops) ([] ∷ vs) → All (IsOver k.ops) p.coeffs
      → row_at k p (add_products k.ops (k.neg 1) t ([] ∷ vs) p.coeffs) ≡ y_times k p (row_at k p old)
  unfolding times_y
  row_at_shifted t old vs old_is same one_each t_in vs_in f_in =
      let n = suc (p.n - 1) in
      let f = row_of_list k n p.coeffs in
      let size : length vs ≡ p.n - 1 = omega arith in
      let scalar = ap (λ u. (S k).◌⊗◌ u (value k t)) (minus_one k) ∙ neg_mul (S k) (S k).𝟙 (value k t)
      ∙ ap (S k).⊖◌ (one_mul (S k) (value k t)) in
      row_of_add_products k n (k.neg 1) t ([] ∷ vs) p.coeffs (omega arith) (k.laws.neg_below 1 k.laws.one_below) t_in
      vs_in f_in
      ∙ ap₂ (λ r s. row_add (S k).ops n r (row_scale (S k).ops n s f))
      (sym (row_of_shift k (p.n - 1) [] t vs size)
      ∙ ap₂ (λ c r. shift (S k).ops n c (row_of_list k n r)) (value_nil k) (sym old_is))
      (scalar ∙ ap (S k).⊖◌ (sym (ap (λ r. top (S k).ops n (S k).𝟘 (row_of_list k n r)) old_is
      ∙ row_top k (p.n - 1) (S k).𝟘 t vs size)))

  -- one term more of a product
  pub row_at_added : (a : List ℕ) (vs ws : List (List ℕ)) → length vs ≡ length ws → IsOver k.ops a
      → All (IsOver k.ops) vs → All (IsOver k.ops) ws
      → row_at k p (add_products k.ops 1 a vs ws)
      ≡ row_add (polynomials k).ops (suc (p.n - 1))
      (row_scale (polynomials k).ops (suc (p.n - 1)) (value k a) (row_at k p ws)) (row_at k p vs)
  row_at_added a vs ws same a_in vs_in ws_in =
      let n = suc (p.n - 1) in
      row_of_add_products k n 1 a vs ws same k.laws.one_below a_in vs_in ws_in
      ∙ ap (λ s. row_add (S k).ops n (row_of_list k n vs) (row_scale (S k).ops n s (row_of_list k n ws)))
      (ap (λ u. (S k).◌⊗◌ u (value k a)) (value_one k) ∙ one_mul (S k) (value k a))
      ∙ row_add_comm (S k) n (row_of_list k n vs) (row_scale (S k).ops n (value k a) (row_of_list k n ws))

  -- the sum of the terms is the product
  pub list_times_row : (m : ℕ) (vs : List (List ℕ)) (w : Row (Polynomial k) (suc (p.n - 1))) → length vs ≡ m
      → list_times k p vs w ≡ row_times (polynomials k).ops (suc (p.n - 1)) m (equation_of k p).coefficients
      (row_of_list k m vs) w
  unfolding row_times
  list_times_row zero [] w same = refl
  list_times_row (suc m) [] w same = absurd (omega arith)
  list_times_row zero (v ∷ vs) w same = absurd (omega arith)
  list_times_row (suc m) (v ∷ vs) w same =
      ap (λ r. row_add (polynomials k).ops (suc (p.n - 1)) (row_scale (polynomials k).ops (suc (p.n - 1)) (value k v) w)
      (y_times k p r)) (list_times_row m vs w (omega arith))

  pub list_times_is : (vs : List (List ℕ)) (w : Row (Polynomial k) (suc (p.n - 1))) → length vs ≡ suc (p.n - 1)
      → list_times k p vs w ≡ row_mul (polynomials k).ring (p.n - 1) (equation_of k p).coefficients (row_at k p vs) w
  unfolding row_mul
  list_times_is vs w same = list_times_row (suc (p.n - 1)) vs w same

module _ (k : CodeField) where
  pub IsRow_add_products : (n c : ℕ) (a : List ℕ) (vs ws : List (List ℕ)) → c < k.size → IsOver k.ops a
      → IsPolyRow k.ops n vs → All (IsOver k.ops) ws → IsPolyRow k.ops n (add_products k.ops c a vs ws)
  IsRow_add_products n c a vs ws c_in a_in row ws_in = record {
    one_each = length_add_products k.ops c a vs ws ∙ row.one_each;
    over = over_add_products k c a vs ws c_in a_in row.over ws_in;
    poly = poly_add_products k.ops c a vs ws row.poly;
  }

  pub IsRow_zeros : (n : ℕ) → IsPolyRow k.ops n (replicate n [])
  IsRow_zeros n = record {
    one_each = length-replicate n [];
    over = All-replicate (IsOver k.ops) n [] IsOver_nil;
    poly = All-replicate IsPoly n [] (record { trimmed = tt });
  }

  pub row_of_zeros : (m n : ℕ) → row_of_list k m (replicate n []) ≡ row_zero (polynomials k).ops m
  unfolding row_zero
  row_of_zeros zero n = refl
  row_of_zeros (suc m) zero = pair_path refl (row_of_zeros m zero)
  row_of_zeros (suc m) (suc n) = pair_path (value_nil k) (row_of_zeros m n)

  -- what a row is once the polynomial on top went and one below came
  pub IsRow_shifted : (n : ℕ) (t : List ℕ) (old vs : List (List ℕ)) → old ≡ vs ++ t ∷ [] → IsPolyRow k.ops n old
      → IsPolyRow k.ops n ([] ∷ vs) × IsOver k.ops t
  IsRow_shifted n t old vs old_is row =
      let overs = All-pop (IsOver k.ops) old vs (Some t) old_is row.over in
      let polys = All-pop IsPoly old vs (Some t) old_is row.poly in (
        record {
          one_each = sym (length-append vs (t ∷ []) ∙ add-one (length vs)) ∙ ap length (sym old_is) ∙ row.one_each;
          over = All-cons (IsOver k.ops) [] vs IsOver_nil overs.0;
          poly = All-cons IsPoly [] vs (record { trimmed = tt }) polys.0;
        },
        overs.1,
      )

module _ (k : CodeField) (p : PresValue) where
  pub product_start : (n : ℕ) (v : List (List ℕ)) (w : Row (Polynomial k) (suc (p.n - 1)))
      → row_at k p (replicate n []) ≡ list_times k p (drop (length v) v) w
  product_start n v w = row_of_zeros k (suc (p.n - 1)) n
      ∙ ap (λ u. list_times k p u w) (sym (drop_all (length v) v (omega arith)))

  pub product_step : (v w : List (List ℕ)) (i n : ℕ) (old mid new : List (List ℕ)) (a : List ℕ) → i ≡ suc n
      → i ≤ length v → length w ≡ p.n → All (IsOver k.ops) w → IsOver k.ops a
      → IsPolyRow k.ops p.n mid → row_at k p old ≡ list_times k p (drop i v) (row_at k p w)
      → row_at k p mid ≡ y_times k p (row_at k p old) → a ≡ get_or v n a → new ≡ add_products k.ops 1 a mid w
      → row_at k p new ≡ list_times k p (drop n v) (row_at k p w)
  product_step v w i n old mid new a whole within w_len w_in a_in row done mid_is a_is new_is =
      ap (row_at k p) new_is
      ∙ row_at_added k p a mid w (row.one_each ∙ sym w_len) a_in row.over w_in
      ∙ ap₂ (λ b r. row_add (polynomials k).ops (suc (p.n - 1))
      (row_scale (polynomials k).ops (suc (p.n - 1)) (value k b) (row_at k p w)) r)
      a_is
      (mid_is ∙ ap (y_times k p) (done ∙ ap (λ m. list_times k p (drop m v) (row_at k p w)) (whole ∙ sym (add-one n))))
      ∙ ap (λ u. list_times k p u (row_at k p w)) (sym (drop_more v n a (omega arith)))
