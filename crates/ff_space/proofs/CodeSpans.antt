-- Row spaces of vectors over a denominator are spans over k, and reduced rows without a zero row have independent
-- functions.
use Rattle.std.proofs.Common.{◌≡◌, ℕ, ◌*◌, ◌<◌, ◌≤◌, List, length, map, replicate, refl, sym, ◌∙◌, ap, subst, ◌↔◌, All}
use Rattle.std.proofs.lemmas.List.{length-map, length-replicate}
use Rattle.ring_lemmas.specs.Lists.{coeff_of}
use Rattle.ring_lemmas.specs.Ring.{CommRing}
use Rattle.ff_fields.specs.Field.{CodeField}
use Rattle.ff_fields.specs.Code.{Code, code_ring}
use Rattle.ff_fields.specs.Numbers.{read, IsOver_numbers}
use Rattle.ff_fields.specs.Over.{IsOver, IsOver_zeros}
use Rattle.ff_poly.specs.Value.{value}
use Rattle.ff_poly.specs.Polynomials.{polynomials}
use Rattle.linear_theory.specs.Module.{combine}
use Rattle.linear_theory.specs.Basis.{IsIndependent, IsNull}
use Rattle.linear_theory.specs.Echelon.{InRowSpace}
use Rattle.linear_theory.proofs.Combination.{combine_cong}
use Rattle.linear_theory.proofs.Echelon.{coefficient_at_pivot}
use Rattle.linear_theory.proofs.EchelonBasis.{cut}
use Rattle.ff_linalg.specs.Forms.{sequences_of, IsReducedBelow}
use Rattle.ff_linalg.specs.Matrix.{MatrixValue, IsMatrixOver}
use Rattle.ff_linalg.specs.Space.{IsInRowSpace, IsReducedForm, row_product}
use Rattle.ff_linalg.proofs.Bridge.{codes_of, length_codes_of, coeff_codes_of, combination_over, length_combination, coeff_zeros, combination_is, codes_of_form}
use Rattle.function_field.specs.Functions.{Equation, ring_of, IsCode}
use Rattle.function_field.specs.Indices.{space_ops}
use Rattle.function_field.specs.Values.{PresValue, Functions, equation_of}
use Rattle.lattice_theory.proofs.Indices.{code_of, code_hom, space}
use Rattle.order_theory.proofs.Degrees.{code_is, code_at}
use Rattle.space_theory.proofs.ScalarLists.{combine_spanned}
use Rattle.divisor_theory.proofs.Sequences.{sequence_of}
use Rattle.ff_space.specs.Spaces.{InCodeSpan}
use Rattle.ff_space.specs.Vectors.{over_den, IsVectorOf}
use Rattle.ff_space.proofs.VectorFunctions.{over_den_combination, over_den_injective, over_den_zeros}

module _ (k : CodeField) (p : PresValue) (some_n : 1 ≤ p.n) (den : List ℕ)
    (some : ¬ (value k den ≡ (polynomials k).𝟘)) (width : ℕ) (m : MatrixValue)
    (cols : m.cols ≡ p.n * width) (wide : All (λ r. length r ≡ m.cols) m.rows) (m_in : IsMatrixOver k.ops m) where
  abbrev c : Equation k
  c = equation_of k p

  abbrev R : CommRing (Code k)
  R = (code_ring k).ring

  -- the functions of the rows
  abbrev pub row_functions : List (Functions k p)
  row_functions = map (over_den k p den width) m.rows

  abbrev by_codes : (ℕ → Code k) → List ℕ
  by_codes u = codes_of k (length m.rows) u

  by_codes_in : (u : ℕ → Code k) → IsOver k.ops (by_codes u)
  by_codes_in u = IsOver_numbers k (cut (length m.rows) u)

  -- the function of the combination by a sequence of codes
  combined : (u : ℕ → Code k) → over_den k p den width (row_product k.ops (by_codes u) m)
      ≡ combine (space_ops (equation_of k p)) u row_functions
  combined u =
      over_den_combination k p some_n den some width m.cols (by_codes u) m.rows (length_codes_of k (length m.rows) u)
      (by_codes_in u) m_in.each
      ∙ combine_cong (space c) (coeff_of R.ops (read k (by_codes u))) u row_functions
      (λ i l. coeff_codes_of k (length m.rows) u i (subst (λ n. i < n) (length-map m.rows (over_den k p den width)) l))

  product_long : (cs : List ℕ) → length (row_product k.ops cs m) ≡ m.cols
  product_long cs = length_combination k m.cols cs m.rows wide

  -- a vector of the row space, and its function
  pub record RowVector (z : Functions k p) : Type 0 where
    pub vector : List ℕ
    pub in_space : IsInRowSpace k.ops m vector
    pub long : length vector ≡ p.n * width
    pub over : IsOver k.ops vector
    pub is : z ≡ over_den k p den width vector

  pub vector_of_span : (z : Functions k p) → InCodeSpan k p row_functions z → RowVector z
  vector_of_span z h =
      let s = sequence_of R (ring_of c) (code_of c) (IsCode c) (code_at c) row_functions z h in
      record {
        vector = row_product k.ops (by_codes s.0) m;
        in_space = record {
          coefficients = by_codes s.0;
          one_each = length_codes_of k (length m.rows) s.0;
          over = by_codes_in s.0;
          is = refl;
        };
        long = product_long (by_codes s.0) ∙ cols;
        over = combination_over k m.cols (by_codes s.0) m.rows (by_codes_in s.0) m_in.each;
        is = s.1 ∙ sym (combined s.0);
      }

  pub span_of_vector : (v : List ℕ) → IsInRowSpace k.ops m v → InCodeSpan k p row_functions (over_den k p den width v)
  span_of_vector v h =
      subst (InCodeSpan k p row_functions)
      (sym (ap (over_den k p den width) h.is
      ∙ over_den_combination k p some_n den some width m.cols h.coefficients m.rows h.one_each h.over m_in.each))
      (combine_spanned R (ring_of c) (code_of c) (code_hom c) (IsCode c) (code_is c)
      (coeff_of R.ops (read k h.coefficients)) row_functions)

  -- the vectors of the span are the row space
  pub space_iff : (v : List ℕ)
      → IsInRowSpace k.ops m v ↔ IsVectorOf k p (InCodeSpan k p row_functions) den width v
  space_iff v = (to, from)
    where
      to : IsInRowSpace k.ops m v → IsVectorOf k p (InCodeSpan k p row_functions) den width v
      to h = record {
        count = ap length h.is ∙ product_long h.coefficients ∙ cols;
        over = subst (IsOver k.ops) (sym h.is) (combination_over k m.cols h.coefficients m.rows h.over m_in.each);
        is_in = span_of_vector v h;
      }

      from : IsVectorOf k p (InCodeSpan k p row_functions) den width v → IsInRowSpace k.ops m v
      from h =
          let t = vector_of_span (over_den k p den width v) h.is_in in
          subst (IsInRowSpace k.ops m)
          (sym (over_den_injective k p some_n den some width v t.vector h.count t.long h.over t.over t.is)) t.in_space

  -- reduced rows, none of them 0, have independent functions
  pub rows_free : IsReducedForm k.ops m (length m.rows)
      → IsIndependent (code_ring k).ops (space_ops (equation_of k p)) (IsNull (space_ops
      (equation_of k p))) row_functions
  rows_free reduced u none i l =
      sym (coeff_codes_of k (length m.rows) u i below)
      ∙ sym (coefficient_at_pivot R m.cols (sequences_of k m.rows) r.form (coeff_of R.ops (read k v)) member i
      (subst (λ n. i < n) (sym r.rank_is) below))
      ∙ ap (λ xs. coeff_of R.ops (read k xs) (r.form.pivot i)) v_zero
      ∙ coeff_zeros k m.cols (r.form.pivot i)
    where
      below : i < length m.rows
      below = subst (λ n. i < n) (length-map m.rows (over_den k p den width)) l

      r : IsReducedBelow k m.cols m.rows (length m.rows)
      r = codes_of_form k m (length m.rows) reduced

      v : List ℕ
      v = row_product k.ops (by_codes u) m

      member : InRowSpace R.ops m.cols (sequences_of k m.rows) (coeff_of R.ops (read k v))
      member = record {
        coefficient = coeff_of R.ops (read k (by_codes u));
        is = λ j b. combination_is k m.cols (by_codes u) m.rows (by_codes_in u) m_in.each j;
      }

      v_zero : v ≡ replicate m.cols 0
      v_zero =
          over_den_injective k p some_n den some width v (replicate m.cols 0) (product_long (by_codes u) ∙ cols)
          (length-replicate m.cols 0 ∙ cols)
          (combination_over k m.cols (by_codes u) m.rows (by_codes_in u) m_in.each) (IsOver_zeros k m.cols)
          (combined u ∙ none ∙ sym (over_den_zeros k p some_n den some width m.cols))
