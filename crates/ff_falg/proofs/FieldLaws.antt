-- When an algebra is a field.
use Rattle.std.proofs.Common.{◌≡◌, ℕ, ◌<◌, ◌↔◌, List, length, replicate, sym, ap, ◌∙◌, arith}
use Rattle.std.proofs.lemmas.List.{nil_from_length}
use Rattle.ff_falg.proofs.PowerLaws.{empty_or}
use Rattle.ring_lemmas.specs.Ring.{CommRing, IsField, pow}
use Rattle.ff_fields.specs.Field.{CodeField}
use Rattle.ff_linalg.specs.Matrix.{MatrixValue}
use Rattle.ff_linalg.specs.Kernel.{IsKernelBasis}
use Rattle.finite_algebra_theory.specs.ByMap.{Image}
use Rattle.finite_algebra_theory.specs.Idempotents.{FixedSpan}
use Rattle.finite_algebra_theory.proofs.FieldTest.{field_by_number, test_of_field}
use Rattle.ff_falg.specs.Algebras.{AlgebraOps, IsAlgebra, IsFixedVector, IsFieldAlgebra, power, zero_of}
use Rattle.ff_falg.specs.Spaces.{IsEchelonBasisMatrix, IsFrobenius}
use Rattle.ff_falg.proofs.Vectors.{Vector, vector_ring, same_vector, power_value}
use Rattle.ff_falg.proofs.VectorAlgebra.{scalar, vector_algebra, length_scalars}
use Rattle.ff_falg.proofs.Bases.{basis_vectors, length_basis_vectors, basis_independent, member_space, space_span, no_rows, rows_none}
use Rattle.ff_falg.proofs.SpaceLaws.{kernel_space}

module _ (k : CodeField) (A : AlgebraOps) (law : IsAlgebra k A) where
  abbrev R : CommRing (Vector k A.size)
  R = vector_ring k A law

  pub field_value : IsField R.ops → IsFieldAlgebra k.ops A
  field_value F = record {
    one_not_zero = λ e. F.one_not_zero (same_vector k A.size _ _ e);
    inverse = λ a a_in ne.
        let i = F.inverse (a, a_in) (λ e. ne (ap (λ y. y.0) e)) in (i.0.0, i.0.1, ap (λ y. y.0) i.1);
  }

  pub value_field : IsFieldAlgebra k.ops A → IsField R.ops
  value_field F = record {
    one_not_zero = λ e. F.one_not_zero (ap (λ y. y.0) e);
    inverse = λ a ne.
        let i = F.inverse a.0 a.1 (λ e. ne (same_vector k A.size _ _ e)) in ((i.0, i.1), same_vector k A.size _ _ i.2);
  }

  -- a field has dimension 1 at least
  pub field_some : IsFieldAlgebra k.ops A → 0 < A.size
  field_some F = empty_or A.size (0 < A.size)
      (λ e. absurd (F.one_not_zero (nil_from_length A.unit (law.unit_in.size ∙ e) ∙ sym (ap (λ n. replicate n 0) e))))
      (λ l. l)

  -- the elements of which the q-th power is 0
  abbrev pub IsKilled : List ℕ → Type 0
  IsKilled v = power k.ops A v k.size ≡ zero_of A

  pub killed_space : (f m : MatrixValue) → IsFrobenius k.ops A f → IsKernelBasis k.ops f m
      → IsEchelonBasisMatrix k.ops A.size IsKilled m
  killed_space f m h kernel =
      kernel_space k A.size f m IsKilled h.shape kernel
      (λ v v_in e. sym (h.values v v_in) ∙ e) (λ v v_in e. h.values v v_in ∙ e)

  module _ (some : 0 < A.size) where
    pub fixed_span : (m : MatrixValue) (h : IsEchelonBasisMatrix k.ops A.size (IsFixedVector k.ops A) m)
        → FixedSpan R.ops (Image (scalar k A law)) (vector_algebra k A law some).codes
        (basis_vectors k A law (IsFixedVector k.ops A) m h)
    fixed_span m h = record {
      fixed = λ b i.
          ap (pow R.ops b) (length_scalars k A law some)
          ∙ same_vector k A.size _ _ (power_value k A law b k.size
          ∙ (member_space k A law (IsFixedVector k.ops A) m h b i).is);
      spans = λ b e.
          space_span k A law (IsFixedVector k.ops A) m h b (record {
            is =
                sym (power_value k A law b k.size)
                ∙ ap (λ y. y.0) (ap (pow R.ops b) (sym (length_scalars k A law some)) ∙ e);
          });
    }

    above : (killed fixed : MatrixValue) → IsEchelonBasisMatrix k.ops A.size IsKilled killed
        → IsEchelonBasisMatrix k.ops A.size (IsFixedVector k.ops A) fixed
        → ((length killed.rows ≡ 0) × (length fixed.rows ≡ 1)) ↔ IsFieldAlgebra k.ops A
    above killed fixed h f =
        let test = field_by_number R (Image (scalar k A law)) (vector_algebra k A law some)
        (basis_vectors k A law (IsFixedVector k.ops A) fixed f) (fixed_span fixed f)
        (basis_independent k A law (IsFixedVector k.ops A) fixed f) in
        let number = length_basis_vectors k A law (IsFixedVector k.ops A) fixed f in (
          (λ t. field_value (test.1 (
            (λ a e. no_rows k A law IsKilled killed h t.0 a
                (sym (power_value k A law a k.size)
                ∙ ap (λ y. y.0) (ap (pow R.ops a) (sym (length_scalars k A law some)) ∙ e))),
            number ∙ t.1,
          ))),
          (λ F.
              let t = test.0 (value_field F) in (
                rows_none k A law IsKilled killed h (λ x e.
                    t.0 x (ap (pow R.ops x) (length_scalars k A law some)
                    ∙ same_vector k A.size _ _ (power_value k A law x k.size ∙ e))),
                sym number ∙ t.1,
              )),
        )

  -- in a field no element but 0 has the q-th power 0
  pub field_kernel : (killed : MatrixValue) → IsEchelonBasisMatrix k.ops A.size IsKilled killed → IsFieldAlgebra k.ops A
      → length killed.rows ≡ 0
  field_kernel killed h F =
      let some = field_some F in
      let t = test_of_field R (Image (scalar k A law)) (vector_algebra k A law some) (value_field F) in
      rows_none k A law IsKilled killed h (λ x e.
      t.0 x (ap (pow R.ops x) (length_scalars k A law some)
      ∙ same_vector k A.size _ _ (power_value k A law x k.size ∙ e)))

  -- in a field the fixed elements have dimension 1
  pub field_fixed : (fixed : MatrixValue) → IsEchelonBasisMatrix k.ops A.size (IsFixedVector k.ops A) fixed
      → IsFieldAlgebra k.ops A → length fixed.rows ≡ 1
  field_fixed fixed f F =
      let some = field_some F in
      let test = field_by_number R (Image (scalar k A law)) (vector_algebra k A law some)
      (basis_vectors k A law (IsFixedVector k.ops A) fixed f) (fixed_span some fixed f)
      (basis_independent k A law (IsFixedVector k.ops A) fixed f) in
      sym (length_basis_vectors k A law (IsFixedVector k.ops A) fixed f) ∙ (test.0 (value_field F)).1

  -- the algebra is a field exactly where no element but 0 has the q-th power 0, and the fixed ones have dimension 1
  pub field_test : (killed fixed : MatrixValue) → IsEchelonBasisMatrix k.ops A.size IsKilled killed
      → IsEchelonBasisMatrix k.ops A.size (IsFixedVector k.ops A) fixed
      → ((length killed.rows ≡ 0) × (length fixed.rows ≡ 1)) ↔ IsFieldAlgebra k.ops A
  field_test killed fixed h f =
      empty_or A.size (((length killed.rows ≡ 0) × (length fixed.rows ≡ 1)) ↔ IsFieldAlgebra k.ops A)
      (λ e. ((λ t. absurd (none e t.1)), (λ F. absurd (let l = field_some F in omega arith))))
      (λ some. above some killed fixed h f)
    where
      none : A.size ≡ 0 → length fixed.rows ≡ 1 → ⊥
      none e l =
          let z = rows_none k A law (IsFixedVector k.ops A) fixed f
          (λ x s. same_vector k A.size _ _ (nil_from_length x.0 (x.1.size ∙ e) ∙ sym (ap (λ n. replicate n 0) e))) in
          omega arith
