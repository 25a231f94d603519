-- The rows e, x·e, .. as powers in the ring of vectors: their relations, and the minimal polynomial out of the first.
use Rattle.std.proofs.Common.{◌≡◌, ℕ, zero, suc, ◌<◌, ◌≤◌, List, [], length, get_or, take, map, refl, sym, ap, ap₂, ◌∙◌, subst, arith}
use native.Mathlib.Decide.{dec_le}
use Rattle.std.proofs.lemmas.List.{length-map, get_or-map, get_or-take, length-take-le, same_lists, get_or_default}
use Rattle.ring_lemmas.specs.Ring.{CommRing, pow}
use Rattle.ring_lemmas.proofs.Ring.{mul_left_comm}
use Rattle.ff_fields.specs.Field.{CodeField}
use Rattle.ff_fields.specs.Code.{read_code}
use Rattle.ff_fields.specs.Numbers.{numbers, read, IsOver_numbers}
use Rattle.linear_theory.specs.Module.{combination as row_combination}
use Rattle.ff_linalg.specs.Matrix.{MatrixValue, matrix_row, first_rows_of}
use Rattle.ff_linalg.specs.Space.{row_ops, IsSolution, HasIndependentRows, IsFirstRelation}
use Rattle.finite_algebra_theory.specs.Algebra.{powers, IsIdempotent, IsFixed}
use Rattle.finite_algebra_theory.specs.ByMap.{Image}
use Rattle.finite_algebra_theory.specs.Horner.{value, combination}
use Rattle.finite_algebra_theory.specs.Idempotents.{FixedSpan}
use Rattle.finite_algebra_theory.specs.Minimal.{Minimal}
use Rattle.finite_algebra_theory.proofs.Minimal.{Relation, relation_of_monic, minimal_exists}
use Rattle.finite_algebra_theory.proofs.Horner.{minimal_list}
use Rattle.ff_falg.specs.Algebras.{AlgebraOps, IsAlgebra, IsVector}
use Rattle.ff_falg.specs.Relations.{IsPowers}
use Rattle.ff_falg.proofs.Vectors.{Vector, vector_ring, same_vector, power_value}
use Rattle.ff_falg.proofs.VectorAlgebra.{scalar, scalars_in, vector_algebra, combination_read, combination_value, span_combination}

module _ {E : Type 0} (R : CommRing E) where
  pub length_powers : (u e : E) (n : ℕ) → length (powers R.ops u e n) ≡ n
  length_powers u e zero = refl
  length_powers u e (suc n) = ap suc (length_powers u (R.◌⊗◌ u e) n)

  pub powers_get : (u e : E) (n i : ℕ) (d : E) → i < n → get_or (powers R.ops u e n) i d ≡ R.◌⊗◌ (pow R.ops u i) e
  powers_get u e zero i d less = absurd (omega arith)
  powers_get u e (suc n) zero d less = sym (R.mul_comm _ _ ∙ R.mul_one e)
  powers_get u e (suc n) (suc i) d less =
      powers_get u (R.◌⊗◌ u e) n i d (omega arith) ∙ mul_left_comm R (pow R.ops u i) u e
      ∙ sym (R.mul_assoc u (pow R.ops u i) e)

module _ (k : CodeField) (A : AlgebraOps) (law : IsAlgebra k A) (x e : List ℕ) (x_in : IsVector k.ops A.size x)
    (e_in : IsVector k.ops A.size e)
    (m : MatrixValue) (h : IsPowers k.ops A x e m) where
  abbrev R : CommRing (Vector k A.size)
  R = vector_ring k A law

  abbrev S : Vector k A.size → Type 0
  S = Image (scalar k A law)

  pub powers_rows : (n : ℕ) → n ≤ length m.rows → map (λ y. y.0) (powers R.ops (x, x_in) (e, e_in) n) ≡ take n m.rows
  powers_rows n le =
      same_lists _ _ (size ∙ sym (length-take-le n m.rows le)) (λ i d less.
      let l : i < n = let s = size in omega arith in
      get_or-map (λ y. y.0) (powers R.ops (x, x_in) (e, e_in) n) i (e, e_in) d
      (let s = length_powers R (x, x_in) (e, e_in) n in omega arith)
      ∙ ap (λ y. y.0) (powers_get R (x, x_in) (e, e_in) n i (e, e_in) l)
      ∙ ap (λ p. A.product k.ops p e) (power_value k A law (x, x_in) i)
      ∙ sym (get_or-take n m.rows i d l ∙ get_or_default m.rows i d [] (omega arith) ∙ h.written.rows i (omega arith)))
    where
      size : length (map (λ y. y.0) (powers R.ops (x, x_in) (e, e_in) n)) ≡ n
      size = length-map (powers R.ops (x, x_in) (e, e_in) n) (λ y. y.0) ∙ length_powers R (x, x_in) (e, e_in) n

  pub power_row : (n : ℕ) → n < length m.rows → (R.◌⊗◌ (pow R.ops (x, x_in) n) (e, e_in)).0 ≡ matrix_row m n
  power_row n less = ap (λ p. A.product k.ops p e) (power_value k A law (x, x_in) n) ∙ sym (h.written.rows n less)

  -- a combination of the powers gives a solution, and a solution a combination
  pub relation_solution : (some : 0 < A.size) (n : ℕ) → n < length m.rows
      → Relation R S (vector_algebra k A law some) (x, x_in) (e, e_in) n
      → (v : List ℕ) × IsSolution k.ops (first_rows_of m n) (matrix_row m n) v
  relation_solution some n less r =
      let s = span_combination k A law (powers R.ops (x, x_in) (e, e_in) n) (R.◌⊗◌ (pow R.ops (x, x_in) n) (e, e_in)) r
      in (
        numbers k s.0,
        record {
          one_each = length-map s.0 (λ c. c.0) ∙ s.1 ∙ length_powers R (x, x_in) (e, e_in) n
              ∙ sym (length-take-le n m.rows (omega arith));
          over = IsOver_numbers k s.0;
          product =
              ap₂ (λ c rows. row_combination (row_ops k.ops c) (numbers k s.0) rows) h.written.shape.col_count
              (sym (powers_rows n (omega arith)))
              ∙ sym (combination_value k A law s.0 (powers R.ops (x, x_in) (e, e_in) n))
              ∙ sym (ap (λ y. y.0) s.2) ∙ power_row n less;
        },
      )

  pub solution_relation : (n : ℕ) (v : List ℕ) → n < length m.rows → IsSolution k.ops (first_rows_of m n) (matrix_row m n) v
      → R.◌⊗◌ (pow R.ops (x, x_in) n) (e, e_in)
      ≡ combination R.ops (map (scalar k A law) (read k v)) (powers R.ops (x, x_in) (e, e_in) n)
  solution_relation n v less s =
      same_vector k A.size _ _
      (power_row n less ∙ sym s.product
      ∙ ap₂ (λ c rows. row_combination (row_ops k.ops c) v rows) h.written.shape.col_count
      (sym (powers_rows n (omega arith)))
      ∙ sym (combination_read k A law v (powers R.ops (x, x_in) (e, e_in) n) s.over))

  -- independent powers are at most as many as elements that span the fixed ones
  pub powers_bounded : (some : 0 < A.size) (bs : List (Vector k A.size))
      → FixedSpan R.ops S (vector_algebra k A law some).codes bs
      → IsFixed R.ops (length (vector_algebra k A law some).codes) (x, x_in) → IsIdempotent R.ops (e, e_in)
      → HasIndependentRows k.ops m → length m.rows ≤ length bs
  powers_bounded some bs fs fixed idem independent = go (dec_le (length m.rows) (length bs))
    where
      go : Dec (length m.rows ≤ length bs) → length m.rows ≤ length bs
      go (yes l) = l
      go (no ne) =
          let r = minimal_exists R S (vector_algebra k A law some) bs fs (x, x_in) (e, e_in) fixed idem in
          let l : r.0 < length m.rows = let b = r.1 in omega arith in
          let s = relation_solution some r.0 l
          (relation_of_monic R S (vector_algebra k A law some) (x, x_in) (e, e_in) r.0 r.2 r.3.monic r.3.kills) in
          absurd (independent r.0 l s.0 s.1)

  -- the first relation gives the minimal polynomial
  pub minimal_of_first : (some : 0 < A.size) (v : List ℕ) → IsFirstRelation k.ops m v
      → Minimal R.ops S (x, x_in) (e, e_in) (length (map (scalar k A law) (read k v)))
      (value R.ops (map R.⊖◌ (map (scalar k A law) (read k v))) R.𝟙)
  minimal_of_first some v first =
      minimal_list R S (vector_algebra k A law some) (x, x_in) (e, e_in) (map (scalar k A law) (read k v))
      (scalars_in k A law (read k v))
      (subst (λ n. R.◌⊗◌ (pow R.ops (x, x_in) n) (e, e_in)
      ≡ combination R.ops (map (scalar k A law) (read k v)) (powers R.ops (x, x_in) (e, e_in) n))
      (sym size) (solution_relation (length v) v first.within first.relation))
      (λ j less r.
      let l : j < length v = let s = size in omega arith in
      let s = relation_solution some j (let w = first.within in omega arith) r in
      first.earlier j l s.0 s.1)
    where
      size : length (map (scalar k A law) (read k v)) ≡ length v
      size = length-map (read k v) (scalar k A law) ∙ length-map v (read_code k)
