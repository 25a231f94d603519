-- The words of the private contracts.
use Rattle.std.specs.Prelude.{◌≡◌, ◌≢◌, ℕ, zero, suc, ◌*◌, ◌≤◌, ◌↔◌, List, [], ◌∷◌, ◌++◌, length, map, take, drop, slice_set, All}
use Rattle.ff_fields.specs.Field.{FieldOps, CodeField}
use Rattle.ff_fields.specs.Over.{IsOver}
use Rattle.ff_poly.specs.Words.{IsPoly, IsMonicList, DividesList, product_of}
use Rattle.ff_linalg.specs.Matrix.{MatrixValue, IsMatrixOver, HasShape, rows_in}
use Rattle.ff_linalg.specs.Space.{IsInRowSpace, IsReducedForm}
use Rattle.ff_factor.specs.LowestTerms.{AreSameFractions}
use Rattle.function_field.specs.Values.{ElemValue, PresValue, function_of}
use Rattle.ff_space.specs.Vectors.{vector_of, over_den, HasVector}

-- the members of the lists, one list after another
abbrev pub joined : {A : Type 0} → List (List A) → List A
joined [] = []
joined (xs ∷ xss) = xs ++ joined xss

-- n polynomials over a denominator for each element
abbrev pub elems_in : ℕ → ℕ → List (List ℕ) → List ℕ → List ElemValue
elems_in n zero ws den = []
elems_in n (suc count) ws den = record { num = take n ws; den = den } ∷ elems_in n count (drop n ws) den

-- no list is longer
abbrev pub AreShort : ℕ → List (List ℕ) → Type 0
AreShort width ws = All (λ w. length w ≤ width) ws

-- m with the codes as a row
abbrev pub with_row : MatrixValue → ℕ → List ℕ → MatrixValue
with_row m i codes = record { cols = m.cols; rows = slice_set m.rows i codes }

-- d times w is e times v
pub record IsQuotient (k : FieldOps) (e v d w : List ℕ) : Type 0 where
  pub over : IsOver k w
  pub poly : IsPoly w
  pub is : product_of k e v ≡ product_of k d w

-- ws over e are the fractions of vs over d
pub record AreQuotientsOver (k : FieldOps) (e : List ℕ) (vs : List (List ℕ)) (d : List ℕ) (ws : List (List ℕ)) : Type 0
  where
    pub count : length ws ≡ length vs
    pub over : All (IsOver k) ws
    pub poly : All IsPoly ws
    pub same : AreSameFractions k vs d ws e

-- the fractions of vs over d are not those of polynomials over e
abbrev pub HasNoQuotients : FieldOps → List ℕ → List (List ℕ) → List ℕ → Type 0
HasNoQuotients k e vs d = (us : List (List ℕ)) → All (IsOver k) us → All IsPoly us → ¬ AreSameFractions k vs d us e

-- ws are n numerators over e for each of the elements, one element after another
pub record AreNumerators (k : CodeField) (n : ℕ) (zs : List ElemValue) (ws : List (List ℕ)) (e : List ℕ) : Type 0 where
  pub count : length ws ≡ length zs * n
  pub over : All (IsOver k.ops) ws
  pub poly : All IsPoly ws
  pub same : (p : PresValue) → 1 ≤ n → p.n ≡ n
      → map (function_of k p) (elems_in n (length zs) ws e) ≡ map (function_of k p) zs

-- moreover e is monic, and each other denominator of their functions is a multiple of it
pub record AreLeastNumerators (k : CodeField) (n : ℕ) (zs : List ElemValue) (ws : List (List ℕ)) (e : List ℕ) : Type 0
  where
    pub numerators : AreNumerators k n zs ws e
    pub den_over : IsOver k.ops e
    pub monic : IsMonicList e
    pub least : (us : List (List ℕ)) (d : List ℕ) → All (IsOver k.ops) us → IsOver k.ops d → IsPoly d → d ≢ []
        → AreSameFractions k.ops ws e us d → DividesList k.ops e d

-- the width is the greatest length of the lists, 0 if there is none
pub record IsLongest (ws : List (List ℕ)) (width : ℕ) : Type 0 where
  pub short : AreShort width ws
  pub least : (bound : ℕ) → AreShort bound ws → width ≤ bound

-- the rows of r are in reduced row echelon form, none is 0, and they have the row space of m
pub record IsEchelonBasisOf (k : CodeField) (m r : MatrixValue) : Type 0 where
  pub shape : HasShape r (length r.rows) m.cols
  pub over : IsMatrixOver k.ops r
  pub reduced : IsReducedForm k.ops r (length r.rows)
  pub row_space : (v : List ℕ) → IsInRowSpace k.ops r v ↔ IsInRowSpace k.ops m v

-- the rows with the vectors of the polynomials, n for each of so many rows
abbrev pub vector_rows : List (List ℕ) → ℕ → ℕ → ℕ → MatrixValue
vector_rows ws count n width = record { cols = n * width; rows = rows_in (n * width) count (vector_of width ws) }

-- v is the vector of the function of z over the denominator
pub record IsVectorOver (k : CodeField) (z : ElemValue) (den : List ℕ) (width : ℕ) (v : List ℕ) : Type 0 where
  pub count : length v ≡ length z.num * width
  pub over : IsOver k.ops v
  pub is : (p : PresValue) → 1 ≤ p.n → p.n ≡ length z.num → function_of k p z ≡ over_den k p den width v

-- the function of z has no vector over the denominator
abbrev pub HasNoVectorOver : CodeField → ElemValue → List ℕ → ℕ → Type 0
HasNoVectorOver k z den width =
    (p : PresValue) → 1 ≤ p.n → p.n ≡ length z.num → ¬ HasVector k p den width (function_of k p z)
