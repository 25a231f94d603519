-- The words of the private contracts on idempotents that are split.
use Rattle.std.specs.Prelude.{◌≡◌, ◌≢◌, ℕ, ◌<◌, ◌≤◌, ◌-◌, ◌⊎◌, List, [], ◌∷◌, ◌++◌, length, take, All}
use Rattle.ring_lemmas.specs.Lists.{scale_list}
use Rattle.ff_fields.specs.Field.{FieldOps}
use Rattle.ff_fields.specs.Code.{raw_ring}
use Rattle.ff_linalg.specs.Matrix.{MatrixValue, matrix_row}
use Rattle.ff_linalg.specs.Space.{row_product}
use Rattle.ff_falg.specs.Algebras.{AlgebraOps, IsIdempotentVector, zero_of}
use Rattle.ff_falg.specs.Idempotents.{vector_sum}
use Rattle.ff_falg.specs.Roots.{monic_value, quotient_of}

-- the value at c of the quotient by t - c
abbrev pub weight_of : FieldOps → List ℕ → ℕ → ℕ
weight_of k lower c = monic_value k (take (length lower - 1) (quotient_of k lower c)) c

-- the value of that quotient, made 1 at c, where the rows of a matrix are the powers
abbrev pub part_of : FieldOps → List ℕ → MatrixValue → ℕ → List ℕ
part_of k lower powers c = scale_list (raw_ring k) (k.inv (weight_of k lower c))
    (row_product k (quotient_of k lower c) powers)

-- a code whose quotient has a value that isn't 0
pub record IsSimple (k : FieldOps) (lower : List ℕ) (c : ℕ) : Type 0 where
  pub code : c < k.size
  pub weight : weight_of k lower c ≢ 0

-- idempotents that are not 0, with product 0 at different positions
abbrev pub IsOrthogonal : FieldOps → AlgebraOps → List (List ℕ) → Type 0
IsOrthogonal k A [] = Unit {0}
IsOrthogonal k A (e ∷ es) =
    IsIdempotentVector k A e × (e ≢ zero_of A) × All (λ f. A.product k e f ≡ zero_of A) es × IsOrthogonal k A es

-- x·e is a multiple of e by a code
pub record IsScalarAt (k : FieldOps) (A : AlgebraOps) (x e : List ℕ) : Type 0 where
  pub code : ℕ
  pub code_in : code < k.size
  pub is : A.product k x e ≡ scale_list (raw_ring k) code e

-- e is the sum of orthogonal idempotents, at each of which x is a scalar
pub record IsSplit (k : FieldOps) (A : AlgebraOps) (x e : List ℕ) (fs : List (List ℕ)) : Type 0 where
  pub orthogonal : IsOrthogonal k A fs
  pub sum : vector_sum k A fs ≡ e
  pub scalar : All (IsScalarAt k A x) fs

-- such idempotents are appended
pub record IsSplitOnto (k : FieldOps) (A : AlgebraOps) (x e : List ℕ) (old new : List (List ℕ)) : Type 0 where
  pub parts : List (List ℕ)
  pub is : new ≡ old ++ parts
  pub split : IsSplit k A x e parts

-- orthogonal idempotents with sum 1, at each of which the first i rows are scalars
pub record IsSplitting (k : FieldOps) (A : AlgebraOps) (basis : MatrixValue) (i : ℕ) (es : List (List ℕ)) : Type 0 where
  pub orthogonal : IsOrthogonal k A es
  pub sum : vector_sum k A es ≡ A.unit
  pub scalar : (l : ℕ) → l < i → All (IsScalarAt k A (matrix_row basis l)) es

-- the same, where there are as many as rows, or all rows are scalars
pub record IsFullSplitting (k : FieldOps) (A : AlgebraOps) (basis : MatrixValue) (es : List (List ℕ)) : Type 0 where
  pub used : ℕ
  pub splitting : IsSplitting k A basis used es
  pub full : (length es ≡ length basis.rows) ⊎ (length basis.rows ≤ used)
