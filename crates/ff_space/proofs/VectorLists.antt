-- The vectors of polynomials, many at once: their parts, and rows of them in one list.
use Rattle.std.proofs.Common.{◌≡◌, ℕ, zero, suc, ◌+◌, ◌-◌, ◌*◌, ◌≤◌, List, [], ◌∷◌, ◌++◌, length, map, take, drop, replicate, refl, sym, ◌∙◌, ap, ap₂, arith, suc-add, zero-add, All}
use Rattle.std.proofs.lemmas.List.{length-append, length-replicate, length-drop, length-take-le, take_at, drop_at}
use Rattle.std.proofs.lemmas.List.Elements.{All-head, All-tail, All-take, All-drop}
use Rattle.std.proofs.Math.Nat.{suc-mul, zero-mul, mul_assoc}
use Rattle.ff_fields.specs.Field.{CodeField}
use Rattle.ff_fields.specs.Over.{IsOver, IsOver_nil, IsOver_append, IsOver_trim, IsOver_zeros}
use Rattle.ff_poly.specs.Words.{IsPoly, poly_of}
use Rattle.ff_poly.specs.PolyOver.{IsPoly_poly_of}
use Rattle.ff_poly.specs.Value.{same_from_value}
use Rattle.polynomial_theory.proofs.ListValues.{value_padded}
use Rattle.ff_lattice.proofs.Spaces.{value_poly_of}
use Rattle.ff_linalg.specs.Matrix.{rows_in, IsMatrixOver, HasShape}
use Rattle.ff_linalg.proofs.Flat.{rows_in_wide, rows_in_over}
use Rattle.function_field.specs.Values.{PresValue, function_of}
use Rattle.ff_space.specs.Steps.{AreShort, elems_in, vector_rows}
use Rattle.ff_space.specs.Vectors.{parts_of, vector_of, over_den}

abbrev pub padded : ℕ → List ℕ → List ℕ
padded width a = a ++ replicate (width - length a) 0

padded_long : (width : ℕ) (a : List ℕ) → length a ≤ width → length (padded width a) ≡ width
padded_long width a short =
    let r = length-replicate {A = ℕ} (width - length a) 0 in
    length-append a (replicate (width - length a) 0) ∙ (omega (arith, r, short))

take_past : {A : Type 0} (xs ys : List A) (m : ℕ) → take (length xs + m) (xs ++ ys) ≡ xs ++ take m ys
take_past [] ys m = ap (λ i. take i ys) (zero-add m)
take_past (x ∷ xs) ys m = ap (λ i. take i (x ∷ xs ++ ys)) (suc-add (length xs) m) ∙ ap (λ zs. x ∷ zs)
    (take_past xs ys m)

drop_past : {A : Type 0} (xs ys : List A) (m : ℕ) → drop (length xs + m) (xs ++ ys) ≡ drop m ys
drop_past [] ys m = ap (λ i. drop i ys) (zero-add m)
drop_past (x ∷ xs) ys m = ap (λ i. drop i (x ∷ xs ++ ys)) (suc-add (length xs) m) ∙ drop_past xs ys m

module _ (width : ℕ) where
  pub vector_long : (ws : List (List ℕ)) → AreShort width ws → length (vector_of width ws) ≡ length ws * width
  vector_long [] short = sym (zero-mul width)
  vector_long (w ∷ ws) short =
      let a = padded_long width w (All-head (λ w. length w ≤ width) w ws short) in
      let b = vector_long ws (All-tail (λ w. length w ≤ width) w ws short) in
      length-append (padded width w) (vector_of width ws) ∙ omega (arith, a, b, suc-mul (length ws) width)

  pub take_vector : (n : ℕ) (ws : List (List ℕ)) → n ≤ length ws → AreShort width ws
      → take (n * width) (vector_of width ws) ≡ vector_of width (take n ws)
  take_vector zero ws l short = ap (λ i. take i (vector_of width ws)) (zero-mul width)
  take_vector (suc n) [] l short = absurd (omega arith)
  take_vector (suc n) (w ∷ ws) l short =
      let a = padded_long width w (All-head (λ w. length w ≤ width) w ws short) in
      let e : suc n * width ≡ length (padded width w) + n * width = omega (arith, a, suc-mul n width) in
      ap (λ i. take i (padded width w ++ vector_of width ws)) e ∙ take_past (padded width w) (vector_of width ws)
      (n * width)
      ∙ ap (λ v. padded width w ++ v) (take_vector n ws (omega arith) (All-tail (λ w. length w ≤ width) w ws short))

  pub drop_vector : (n : ℕ) (ws : List (List ℕ)) → n ≤ length ws → AreShort width ws
      → drop (n * width) (vector_of width ws) ≡ vector_of width (drop n ws)
  drop_vector zero ws l short = ap (λ i. drop i (vector_of width ws)) (zero-mul width)
  drop_vector (suc n) [] l short = absurd (omega arith)
  drop_vector (suc n) (w ∷ ws) l short =
      let a = padded_long width w (All-head (λ w. length w ≤ width) w ws short) in
      let e : suc n * width ≡ length (padded width w) + n * width = omega (arith, a, suc-mul n width) in
      ap (λ i. drop i (padded width w ++ vector_of width ws)) e ∙ drop_past (padded width w) (vector_of width ws)
      (n * width)
      ∙ drop_vector n ws (omega arith) (All-tail (λ w. length w ≤ width) w ws short)

module _ (k : CodeField) (width : ℕ) where
  pub vector_over : (ws : List (List ℕ)) → All (IsOver k.ops) ws → IsOver k.ops (vector_of width ws)
  vector_over [] over = IsOver_nil
  vector_over (w ∷ ws) over =
      IsOver_append (IsOver_append (All-head (IsOver k.ops) w ws over) (IsOver_zeros k (width - length w)))
      (vector_over ws (All-tail (IsOver k.ops) w ws over))

  poly_of_padded : (w : List ℕ) → IsOver k.ops w → IsPoly w → poly_of (padded width w) ≡ w
  poly_of_padded w w_in w_poly =
      let long = IsOver_append w_in (IsOver_zeros k (width - length w)) in
      same_from_value k (poly_of (padded width w)) w (IsOver_trim (padded width w) long) w_in (IsPoly_poly_of
      (padded width w)) w_poly
      (value_poly_of k (padded width w) long ∙ value_padded k w (width - length w))

  -- the parts of the vector of polynomials are these
  pub parts_of_vector : (ws : List (List ℕ)) → AreShort width ws → All (IsOver k.ops) ws → All IsPoly ws
      → parts_of width (length ws) (vector_of width ws) ≡ ws
  parts_of_vector [] short over poly = refl
  parts_of_vector (w ∷ ws) short over poly =
      let a = padded_long width w (All-head (λ w. length w ≤ width) w ws short) in
      ap₂ (λ x v. poly_of x ∷ parts_of width (length ws) v)
      (take_at (padded width w) (vector_of width ws) width a) (drop_at (padded width w) (vector_of width ws) width a)
      ∙ ap₂ ◌∷◌ (poly_of_padded w (All-head (IsOver k.ops) w ws over) (All-head IsPoly w ws poly))
      (parts_of_vector ws (All-tail (λ w. length w ≤ width) w ws short) (All-tail (IsOver k.ops) w ws over)
      (All-tail IsPoly w ws poly))

  pub parts_of_vectors : (n : ℕ) (ws : List (List ℕ)) → length ws ≡ n → AreShort width ws → All (IsOver k.ops) ws
      → All IsPoly ws → parts_of width n (vector_of width ws) ≡ ws
  parts_of_vectors n ws e short over poly =
      ap (λ m. parts_of width m (vector_of width ws)) (sym e) ∙ parts_of_vector ws short over poly

-- the rows of the vectors of many polynomials
module _ (k : CodeField) (width n : ℕ) where
  pub rows_long : (count : ℕ) (ws : List (List ℕ)) → length ws ≡ count * n → AreShort width ws
      → length (vector_of width ws) ≡ count * (n * width)
  rows_long count ws e short = vector_long width ws short ∙ ap (λ m. m * width) e ∙ mul_assoc count n width

  pub rows_shape : (count : ℕ) (ws : List (List ℕ)) → length ws ≡ count * n → AreShort width ws
      → HasShape (vector_rows ws count n width) (length (vector_rows ws count n width).rows) (n * width)
  rows_shape count ws e short = record {
    row_count = refl;
    col_count = refl;
    each = rows_in_wide (n * width) count (vector_of width ws) (rows_long count ws e short);
  }

  pub rows_over : (count : ℕ) (ws : List (List ℕ)) → All (IsOver k.ops) ws
      → IsMatrixOver k.ops (vector_rows ws count n width)
  rows_over count ws over = record
      { each = rows_in_over k.ops (n * width) count (vector_of width ws) (vector_over k width ws over) }

  pub rows_functions : (p : PresValue) (den : List ℕ) → p.n ≡ n → (count : ℕ) (ws : List (List ℕ))
      → length ws ≡ count * n → AreShort width ws → All (IsOver k.ops) ws → All IsPoly ws
      → map (over_den k p den width) (rows_in (n * width) count (vector_of width ws))
      ≡ map (function_of k p) (elems_in n count ws den)
  rows_functions p den n_is zero ws e short over poly = refl
  rows_functions p den n_is (suc count) ws e short over poly =
      let l : n ≤ length ws = omega (arith, e, suc-mul count n) in
      ap₂ ◌∷◌
      (ap (λ vs. function_of k p (record { num = vs; den = den }))
      (ap₂ (λ m v. parts_of width m v) n_is (take_vector width n ws l short)
      ∙ parts_of_vectors k width n (take n ws) (length-take-le n ws l)
      (All-take (λ w. length w ≤ width) n ws short) (All-take (IsOver k.ops) n ws over) (All-take IsPoly n ws poly)))
      (ap (λ v. map (over_den k p den width) (rows_in (n * width) count v)) (drop_vector width n ws l short)
      ∙ rows_functions p den n_is count (drop n ws) (length-drop n ws ∙ (omega (arith, e, suc-mul count n)))
      (All-drop (λ w. length w ≤ width) n ws short) (All-drop (IsOver k.ops) n ws over) (All-drop IsPoly n ws poly))
