-- Commutative algebras of finite dimension over a small field, by their structure constants (Lang, Algebra).
use Rattle.std.specs.Prelude.{◌≡◌, ℕ, ◌*◌, List, [], ◌∷◌, ◌++◌, length, map, All}
use Rattle.ff_fields.specs.Field.{FieldOps, CodeField}
use Rattle.linear_theory.specs.Module.{combination}
use Rattle.ff_linalg.specs.Space.{row_ops}
use Rattle.ff_falg.specs.Algebras.{AlgebraOps, IsAlgebra, IsVector}

pub record StructureValue : Type 0 where
  -- the coordinates of 1
  pub one : List ℕ
  -- those of the products of the first basis element by each, then of the second by each, and so on
  pub table : List (List ℕ)

-- how many basis elements there are
abbrev pub dimension : StructureValue → ℕ
dimension s = length s.one

-- the products of each entry of a by each of b, in the order of the table
abbrev pub entry_products : FieldOps → List ℕ → List ℕ → List ℕ
entry_products k [] b = []
entry_products k (x ∷ a) b = map (k.mul x) b ++ entry_products k a b

-- the sum of a_i·b_j times the product of the basis elements i and j
abbrev pub table_product : StructureValue → FieldOps → List ℕ → List ℕ → List ℕ
table_product s k a b = combination (row_ops k (dimension s)) (entry_products k a b) s.table

-- the vectors with this product
abbrev pub structure_algebra : StructureValue → AlgebraOps
structure_algebra s = record { size = dimension s; unit = s.one; product = table_product s }

-- a product for any two basis elements, by which the vectors are a commutative algebra with unit over k
pub record IsStructure (k : CodeField) (s : StructureValue) : Type 0 where
  pub count : length s.table ≡ dimension s * dimension s
  pub products_in : All (IsVector k.ops (dimension s)) s.table
  pub algebra : IsAlgebra k (structure_algebra s)
