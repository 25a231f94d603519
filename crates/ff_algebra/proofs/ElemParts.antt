-- The functions of elements that are put together from parts.
use Rattle.std.proofs.Common.{◌≡◌, ◌≢◌, ℕ, suc, ◌-◌, ◌<◌, List, [], ◌∷◌, length, map, refl, sym, ap, ap₂, ◌∙◌, arith, All}
use Rattle.std.proofs.lemmas.List.{length-map}
use Rattle.std.proofs.lemmas.List.Elements.{All-nil, All-cons, All-head, All-tail, All-same}
use Rattle.ring_lemmas.specs.Rows.{row_add, row_scale, row_mul}
use Rattle.ring_lemmas.proofs.Ring.{mul_zero}
use Rattle.ring_lemmas.proofs.Rows.{row_scale_scale, row_scale_comm}
use Rattle.ring_theory.specs.FunctionRing.{pair_add, pair_mul}
use Rattle.ff_fields.specs.Field.{FieldOps, CodeField}
use Rattle.ff_fields.specs.Over.{IsOver}
use Rattle.ff_poly.specs.Words.{IsPoly, top_of, multiple_of, product_of}
use Rattle.ff_poly.specs.PolyOver.{IsOver_multiple_of, IsOver_product_of}
use Rattle.ff_poly.specs.Value.{value, value_product}
use Rattle.ff_poly.specs.Polynomials.{polynomials, constant_poly}
use Rattle.ff_poly.proofs.Parts.{IsPoly_product_of, IsPoly_multiple_of, IsMonic_multiple, IsMonic_product, value_multiple}
use Rattle.function_field.specs.Functions.{RowOver, function, function_eq, add_rows, mul_rows, add_function, mul_function}
use Rattle.function_field.specs.Values.{ElemValue, PresValue, IsElem, IsMonicElem, equation_of, row_over, function_of, functions}
use Rattle.ff_algebra.specs.RowProducts.{cross_sums, row_at}
use Rattle.function_field.proofs.SameValues.{elem_den, row_over_num, row_over_den}
use Rattle.ff_algebra.proofs.RowProducts.{over_cross_sums, poly_cross_sums, length_cross_sums, row_of_cross_sums, row_of_multiples}

module _ (k : CodeField) (p : PresValue) where
  -- an element stands for the function of a row with its parts
  pub function_parts : (z : ElemValue) (w : RowOver (equation_of k p)) → row_at k p z.num ≡ w.num
      → value k z.den ≡ w.den → function_of k p z ≡ function (equation_of k p) w
  function_parts z w num den =
      function_eq (equation_of k p) (row_over k p z) w
      (ap₂ (row_scale (polynomials k).ops (suc (p.n - 1)))
      (sym (row_over_den k p z (λ e. w.den_not_zero (sym den ∙ e)) ∙ den))
      (row_over_num k p z ∙ num))

  pub sum_function : (a b z : ElemValue) (n : ℕ) → IsElem k.ops n a → IsMonicElem a → IsElem k.ops n b → IsMonicElem b
      → z.num ≡ cross_sums k.ops a.den b.den a.num b.num → z.den ≡ product_of k.ops a.den b.den
      → function_of k p z ≡ (functions k p).◌⊕◌ (function_of k p a) (function_of k p b)
  unfolding pair_add
  sum_function a b z n a_in a_monic b_in b_monic num den =
      let R = (polynomials k).ops in
      let m = suc (p.n - 1) in
      let a_den = row_over_den k p a (elem_den k p a n a_in a_monic) in
      let b_den = row_over_den k p b (elem_den k p b n b_in b_monic) in
      function_parts z (add_rows (equation_of k p) (row_over k p a) (row_over k p b))
      (ap (row_at k p) num
      ∙ row_of_cross_sums k m a.den b.den a.num b.num (a_in.one_each ∙ sym b_in.one_each) a_in.den_over b_in.den_over
      a_in.num_over b_in.num_over
      ∙ ap₂ (row_add R m) (ap₂ (row_scale R m) (sym b_den) (sym (row_over_num k p a)))
      (ap₂ (row_scale R m) (sym a_den) (sym (row_over_num k p b))))
      (ap (value k) den ∙ value_product k a.den b.den a_in.den_over b_in.den_over ∙ ap₂ R.◌⊗◌ (sym a_den) (sym b_den))
      ∙ sym (add_function (equation_of k p) (row_over k p a) (row_over k p b))

  pub product_function : (a b z : ElemValue) (n : ℕ) → IsElem k.ops n a → IsMonicElem a → IsElem k.ops n b
      → IsMonicElem b
      → row_at k p z.num ≡ row_mul (polynomials k).ring (p.n - 1) (equation_of k p).coefficients (row_at k p a.num)
      (row_at k p b.num) → z.den ≡ product_of k.ops a.den b.den
      → function_of k p z ≡ (functions k p).◌⊗◌ (function_of k p a) (function_of k p b)
  unfolding pair_mul
  product_function a b z n a_in a_monic b_in b_monic num den =
      let R = (polynomials k).ops in
      let a_den = row_over_den k p a (elem_den k p a n a_in a_monic) in
      let b_den = row_over_den k p b (elem_den k p b n b_in b_monic) in
      function_parts z (mul_rows (equation_of k p) (row_over k p a) (row_over k p b))
      (num ∙ ap₂ (row_mul (polynomials k).ring (p.n - 1) (equation_of k p).coefficients) (sym (row_over_num k p a))
      (sym (row_over_num k p b)))
      (ap (value k) den ∙ value_product k a.den b.den a_in.den_over b_in.den_over ∙ ap₂ R.◌⊗◌ (sym a_den) (sym b_den))
      ∙ sym (mul_function (equation_of k p) (row_over k p a) (row_over k p b))

  -- all parts times c, which isn't 0
  pub multiple_function : (z w : ElemValue) (c : ℕ) → c < k.size → All (IsOver k.ops) w.num → IsOver k.ops w.den
      → ¬ (value k z.den ≡ (polynomials k).𝟘) → z.num ≡ map (λ v. multiple_of k.ops v c) w.num
      → z.den ≡ multiple_of k.ops w.den c
      → function_of k p z ≡ function_of k p w
  multiple_function z w c c_in num_in den_in some num den =
      let S = (polynomials k).ring in
      let m = suc (p.n - 1) in
      let C = constant_poly k c in
      let D = value k w.den in
      let v = row_at k p w.num in
      let den_is = ap (value k) den ∙ value_multiple k w.den c den_in c_in in
      let w_some : ¬ (D ≡ S.𝟘) = λ e. some (den_is ∙ ap (S.◌⊗◌ C) e ∙ mul_zero S C) in
      function_eq (equation_of k p) (row_over k p z) (row_over k p w)
      (ap₂ (row_scale S.ops m) (row_over_den k p w w_some)
      (row_over_num k p z ∙ ap (row_at k p) num ∙ row_of_multiples k m c w.num c_in num_in)
      ∙ row_scale_comm S m D C v
      ∙ sym (row_scale_scale S m C D v)
      ∙ ap₂ (row_scale S.ops m) (sym (row_over_den k p z some ∙ den_is)) (sym (row_over_num k p w)))

-- ---- the parts are in range and monic

pub poly_multiples : (k : FieldOps) (c : ℕ) (vs : List (List ℕ)) → All IsPoly (map (λ v. multiple_of k v c) vs)
poly_multiples k c [] = All-nil IsPoly
poly_multiples k c (v ∷ vs) = All-cons IsPoly _ _ (IsPoly_multiple_of k v c) (poly_multiples k c vs)

module _ (k : CodeField) where
  pub over_multiples : (c : ℕ) (vs : List (List ℕ)) → c < k.size → All (IsOver k.ops) vs
      → All (IsOver k.ops) (map (λ v. multiple_of k.ops v c) vs)
  over_multiples c [] c_in vs_in = All-nil (IsOver k.ops)
  over_multiples c (v ∷ vs) c_in vs_in =
      All-cons (IsOver k.ops) _ _ (IsOver_multiple_of k (All-head (IsOver k.ops) v vs vs_in) c_in)
      (over_multiples c vs c_in (All-tail (IsOver k.ops) v vs vs_in))

  pub monic_multiple : (z w : ElemValue) → IsOver k.ops w.den → w.den ≢ [] → top_of w.den ≢ 0
      → z.num ≡ map (λ v. multiple_of k.ops v (k.inv (top_of w.den))) w.num
      → z.den ≡ multiple_of k.ops w.den (k.inv (top_of w.den)) → IsMonicElem z
  monic_multiple z w den_in some top num den = record {
    num_poly = All-same IsPoly _ _ num (poly_multiples k.ops (k.inv (top_of w.den)) w.num);
    den_poly = rw den (IsPoly_multiple_of k.ops w.den (k.inv (top_of w.den)));
    monic = rw den (IsMonic_multiple k w.den den_in top (positive w.den some));
  }
    where
      positive : (d : List ℕ) → d ≢ [] → 0 < length d
      positive [] some = absurd (some refl)
      positive (c ∷ d) some = omega arith

  pub range_multiple : (z w : ElemValue) (c : ℕ) → c < k.size → All (IsOver k.ops) w.num → IsOver k.ops w.den
      → z.num ≡ map (λ v. multiple_of k.ops v c) w.num → z.den ≡ multiple_of k.ops w.den c
      → IsElem k.ops (length w.num) z
  range_multiple z w c c_in num_in den_in num den = record {
    one_each = ap length num ∙ length-map w.num (λ v. multiple_of k.ops v c);
    num_over = All-same (IsOver k.ops) _ _ num (over_multiples c w.num c_in num_in);
    den_over = rw den (IsOver_multiple_of k den_in c_in);
  }

  pub monic_product : (a b z : ElemValue) (n : ℕ) → IsElem k.ops n a → IsMonicElem a → IsElem k.ops n b → IsMonicElem b
      → All IsPoly z.num → z.den ≡ product_of k.ops a.den b.den → IsMonicElem z
  monic_product a b z n a_in a_monic b_in b_monic num den = record {
    num_poly = num;
    den_poly = rw den (IsPoly_product_of k.ops a.den b.den);
    monic = rw den (IsMonic_product k a.den b.den a_in.den_over b_in.den_over a_monic.monic b_monic.monic);
  }

  pub sum_polys : (d e : List ℕ) (vs ws xs : List (List ℕ)) → xs ≡ cross_sums k.ops d e vs ws → All IsPoly xs
  sum_polys d e vs ws xs xs_is = All-same IsPoly _ _ xs_is (poly_cross_sums k.ops d e vs ws)

  pub range_sum : (a b z : ElemValue) (n : ℕ) → IsElem k.ops n a → IsElem k.ops n b
      → z.num ≡ cross_sums k.ops a.den b.den a.num b.num → z.den ≡ product_of k.ops a.den b.den → IsElem k.ops n z
  range_sum a b z n a_in b_in num den = record {
    one_each = ap length num ∙ length_cross_sums k.ops a.den b.den a.num b.num (a_in.one_each ∙ sym b_in.one_each)
        ∙ a_in.one_each;
    num_over = All-same (IsOver k.ops) _ _ num
        (over_cross_sums k a.den b.den a.num b.num a_in.den_over b_in.den_over a_in.num_over b_in.num_over);
    den_over = rw den (IsOver_product_of k a_in.den_over b_in.den_over);
  }
