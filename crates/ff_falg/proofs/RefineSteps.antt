-- Steps of the loops over the idempotents and over the rows that split them.
use Rattle.std.proofs.Common.{◌≡◌, ◌≢◌, ℕ, zero, suc, ◌+◌, ◌<◌, ◌≤◌, inl, inr, List, [], ◌∷◌, ◌++◌, length, get_or, take, All, refl, sym, ap, ◌∙◌, subst, arith}
use Rattle.std.specs.Global.{Vec}
use Rattle.std.proofs.lemmas.List.{get_or-map, length-map, map_more}
use Rattle.ff_falg.specs.Idempotents.{elements_of}
use Rattle.std.proofs.lemmas.List.Elements.{All-tail}
use Rattle.ring_lemmas.specs.Ring.{CommRing, pow}
use Rattle.ring_theory.specs.Members.{In}
use Rattle.ff_fields.specs.Field.{CodeField}
use Rattle.ff_linalg.specs.Matrix.{MatrixValue, matrix_row}
use Rattle.finite_algebra_theory.specs.ByMap.{Image}
use Rattle.finite_algebra_theory.proofs.Idempotents.{splitting_start}
use Rattle.ff_falg.specs.Algebras.{AlgebraOps, IsAlgebra, IsVector, IsIdempotentVector, IsFixedVector, zero_of}
use Rattle.ff_falg.specs.Relations.{IsBounded}
use Rattle.ff_falg.specs.Spaces.{IsEchelonBasisMatrix}
use Rattle.ff_falg.specs.Splits.{IsOrthogonal, IsSplitting}
use Rattle.ff_falg.proofs.Bases.{basis_vectors, length_basis_vectors, member_space, rows_none}
use Rattle.ff_falg.proofs.FieldLaws.{fixed_span}
use Rattle.ff_falg.proofs.PowerLaws.{empty_or, by_dimension}
use Rattle.ff_falg.proofs.PowerSpans.{powers_bounded}
use Rattle.ff_falg.proofs.RowSteps.{row_in, rows_in}
use Rattle.ff_falg.proofs.SplitSteps.{size_some}
use Rattle.ff_falg.proofs.Splittings.{orthogonal_value, sum_value}
use Rattle.ff_falg.proofs.Vectors.{Vector, vector_ring, same_vector, power_value, zeros_in}
use Rattle.ff_falg.proofs.VectorAlgebra.{vectors, scalar, length_scalars, one_not_zero}

-- a row is among the vectors of the rows
pub in_vectors : (k : CodeField) (n : ℕ) (rows : List (List ℕ)) (all : All (IsVector k.ops n) rows) (l : ℕ)
    (v_in : IsVector k.ops n (get_or rows l []))
    → l < length rows → In (get_or rows l [], v_in) (vectors k n rows all)
in_vectors k n [] all l v_in less = absurd (omega arith)
in_vectors k n (r ∷ rows) all zero v_in less = inl (same_vector k n _ _ refl)
in_vectors k n (r ∷ rows) all (suc l) v_in less = inr
    (in_vectors k n rows (All-tail (IsVector k.ops n) r rows all) l v_in (omega arith))

-- and a vector of the rows is a row
pub of_vectors : (k : CodeField) (n : ℕ) (rows : List (List ℕ)) (all : All (IsVector k.ops n) rows) (x : Vector k n)
    → In x (vectors k n rows all) → (l : ℕ) × (l < length rows) × (x.0 ≡ get_or rows l [])
of_vectors k n [] all x i = absurd i
of_vectors k n (r ∷ rows) all x (inl e) = (0, omega arith, ap (λ y. y.0) e)
of_vectors k n (r ∷ rows) all x (inr i) =
    let s = of_vectors k n rows (All-tail (IsVector k.ops n) r rows all) x i in
    (suc s.0, let l : s.0 < length rows = s.1 in omega arith, s.2)

module _ (k : CodeField) (A : AlgebraOps) (law : IsAlgebra k A) where
  abbrev R : CommRing (Vector k A.size)
  R = vector_ring k A law

  pub orthogonal_at : (es : List (List ℕ)) (i : ℕ) → i < length es → IsOrthogonal k.ops A es
      → IsIdempotentVector k.ops A (get_or es i []) × (get_or es i [] ≢ zero_of A)
  orthogonal_at [] i less o = absurd (omega arith)
  orthogonal_at (e ∷ es) zero less o = (o.0, o.1)
  orthogonal_at (e ∷ es) (suc i) less o = orthogonal_at es i (omega arith) o.3

  pub member_at : (parts : List (Vec ℕ)) (i : ℕ) (e : Vec ℕ) → e ≡ get_or parts i e → i < length parts
      → IsOrthogonal k.ops A (elements_of parts)
      → IsIdempotentVector k.ops A e.items × (e.items ≢ zero_of A)
  member_at parts i e e_is less o =
      subst (λ y. IsIdempotentVector k.ops A y × (y ≢ zero_of A))
      (get_or-map (λ v. v.items) parts i e [] less ∙ ap (λ v. v.items) (sym e_is))
      (orthogonal_at (elements_of parts) i (let l = length-map parts (λ v. v.items) in omega arith) o)

  pub elements_more : (parts : List (Vec ℕ)) (i : ℕ) (e : Vec ℕ) → e ≡ get_or parts i e → i < length parts
      → elements_of (take (i + 1) parts) ≡ elements_of (take i parts) ++ e.items ∷ []
  elements_more parts i e e_is less =
      map_more (λ v. v.items) parts i e less ∙ ap (λ y. elements_of (take i parts) ++ y.items ∷ []) (sym e_is)

  module _ (basis : MatrixValue) (h : IsEchelonBasisMatrix k.ops A.size (IsFixedVector k.ops A) basis) where
    pub basis_row : (l : ℕ) → l < length basis.rows → IsVector k.ops A.size (matrix_row basis l)
    basis_row l less = row_in k basis (length basis.rows) A.size l h.shape h.over less

    pub basis_fixed : (l : ℕ) → l < length basis.rows → IsFixedVector k.ops A (matrix_row basis l)
    basis_fixed l less =
        member_space k A law (IsFixedVector k.ops A) basis h (matrix_row basis l, basis_row l less)
        (in_vectors k A.size basis.rows (rows_in k basis (length basis.rows) A.size h.shape h.over) l (basis_row l less)
        less)

    pub basis_some : 0 < length basis.rows → 0 < A.size
    basis_some some =
        empty_or A.size (0 < A.size)
        (λ z. absurd (let r = rows_none k A law (IsFixedVector k.ops A) basis h (λ x s. same_vector k A.size _ _
        (by_dimension k A law x.0 (zero_of A) x.1 (zeros_in k A.size) (λ l. absurd (omega arith)))) in
        omega arith))
        (λ l. l)

    -- what the first relation of powers asks for
    pub relation_bound : (l : ℕ) (e : List ℕ) → l < length basis.rows → IsIdempotentVector k.ops A e → e ≢ zero_of A
        → IsBounded k.ops A (matrix_row basis l) e (length basis.rows)
    relation_bound l e less idem ne =
        let some = size_some k A law e idem.vector ne in
        let x_in = basis_row l less in
        record {
          bounded = λ m p independent.
              subst (λ n. length m.rows ≤ n) (length_basis_vectors k A law (IsFixedVector k.ops A) basis h)
              (powers_bounded k A law (matrix_row basis l) e x_in idem.vector m p some
              (basis_vectors k A law (IsFixedVector k.ops A) basis h)
              (fixed_span k A law some basis h)
              (ap (pow R.ops (matrix_row basis l, x_in)) (length_scalars k A law some)
              ∙ same_vector k A.size _ _ (power_value k A law (matrix_row basis l, x_in) k.size ∙ (basis_fixed l less).is))
              (same_vector k A.size _ _ idem.square) independent);
        }

    -- 1 alone
    pub splitting_one : 0 < length basis.rows → IsSplitting k.ops A basis 0 (A.unit ∷ [])
    splitting_one some =
        let s = splitting_start R (Image (scalar k A law)) (one_not_zero k A law (basis_some some)) in
        record {
          orthogonal = orthogonal_value k A law (R.𝟙 ∷ []) s.orthogonal;
          sum = sym (sum_value k A law (R.𝟙 ∷ [])) ∙ ap (λ y. y.0) s.sum;
          scalar = λ l less. absurd (omega arith);
        }
