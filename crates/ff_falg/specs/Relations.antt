-- The elements e, x·e, x·x·e, .. as the rows of a matrix, and the first relation among them.
use Rattle.std.specs.Prelude.{◌≡◌, ℕ, ◌≤◌, List, [], ◌∷◌, length}
use Rattle.ff_fields.specs.Field.{FieldOps}
use Rattle.ff_linalg.specs.Matrix.{MatrixValue}
use Rattle.ff_linalg.specs.Space.{HasIndependentRows, IsFirstRelation}
use Rattle.ff_falg.specs.Algebras.{AlgebraOps, power}
use Rattle.ff_falg.specs.Steps.{HasRowsBelow}

-- the first i rows are e, x·e, x·x·e, ..
pub record IsPowersBelow (k : FieldOps) (A : AlgebraOps) (x e : List ℕ) (i : ℕ) (m : MatrixValue) : Type 0 where
  pub written : HasRowsBelow k (λ l. A.product k (power k A x l) e) (length m.rows) A.size i m

-- the same, for a matrix of so many rows
pub record AreWritten (k : FieldOps) (A : AlgebraOps) (x e : List ℕ) (count i : ℕ) (m : MatrixValue) : Type 0 where
  pub size : length m.rows ≡ count
  pub written : HasRowsBelow k (λ l. A.product k (power k A x l) e) count A.size i m

-- all rows are
pub record IsPowers (k : FieldOps) (A : AlgebraOps) (x e : List ℕ) (m : MatrixValue) : Type 0 where
  pub written : HasRowsBelow k (λ l. A.product k (power k A x l) e) (length m.rows) A.size (length m.rows) m

-- the matrix with one row
abbrev pub IsFirstRow : List ℕ → MatrixValue → Type 0
IsFirstRow e m = m ≡ record { cols = length e; rows = e ∷ [] }

-- at most so many of these elements, from the first on, are independent
pub record IsBounded (k : FieldOps) (A : AlgebraOps) (x e : List ℕ) (bound : ℕ) : Type 0 where
  pub bounded : (m : MatrixValue) → IsPowers k A x e m → HasIndependentRows k m → length m.rows ≤ bound

-- the coefficients of the first of these elements that is a combination of those before it
pub record IsRelation (k : FieldOps) (A : AlgebraOps) (x e : List ℕ) (m : MatrixValue) (v : List ℕ) : Type 0 where
  pub powers : IsPowers k A x e m
  pub first : IsFirstRelation k m v
