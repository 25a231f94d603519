-- Spaces of functions over k in the form in which they are printed.
use Rattle.std.specs.Prelude.{◌≡◌, ℕ, ◌≤◌, ◌*◌, ◌↔◌, List, [], ◌∷◌, length}
use Rattle.ring_theory.specs.Subsets.{Span}
use Rattle.ff_fields.specs.Field.{CodeField}
use Rattle.ff_fields.specs.Over.{IsOver}
use Rattle.ff_poly.specs.Words.{IsMonicList, DividesList}
use Rattle.ff_linalg.specs.Matrix.{MatrixValue, IsMatrixOver, HasShape}
use Rattle.ff_linalg.specs.Space.{IsInRowSpace, IsReducedForm}
use Rattle.function_field.specs.Functions.{IsCode}
use Rattle.function_field.specs.Values.{ElemValue, PresValue, Functions, functions, equation_of}
use Rattle.ff_text.specs.Printed.{WrittenValue}
use Rattle.ff_written.specs.LowestTerms.{IsWritten}
use Rattle.ff_space.specs.Vectors.{over_den, IsVectorOf, HaveVectors}

-- a denominator, how many codes each coordinate has, vectors over the denominator as rows, and their functions
pub record SpaceValue : Type 0 where
  pub den : List ℕ
  pub width : ℕ
  pub rows : MatrixValue
  pub functions : List ElemValue

-- the element with its two parts written
abbrev pub written : ElemValue → WrittenValue
written z = record { num = z.num; den = z.den }

module _ (k : CodeField) (p : PresValue) where
  -- z is a combination of the functions with codes of k
  abbrev pub InCodeSpan : List (Functions k p) → Functions k p → Type 0
  InCodeSpan fs = Span (functions k p).ops (IsCode (equation_of k p)) fs

  -- the functions of the rows over the denominator, one for each row, in lowest terms
  abbrev pub AreRowFunctions : List ℕ → ℕ → List (List ℕ) → List ElemValue → Type 0
  AreRowFunctions den width [] zs = zs ≡ []
  AreRowFunctions den width (r ∷ rs) [] = ⊥
  AreRowFunctions den width (r ∷ rs) (z ∷ zs) =
      IsWritten k p (over_den k p den width r) (written z) × AreRowFunctions den width rs zs

  -- rows of codes over a monic denominator, and their functions in lowest terms
  pub record IsSpaceForm (s : SpaceValue) : Type 0 where
    pub den_over : IsOver k.ops s.den
    pub monic : IsMonicList s.den
    pub shape : HasShape s.rows (length s.rows.rows) (p.n * s.width)
    pub over : IsMatrixOver k.ops s.rows
    pub functions : AreRowFunctions s.den s.width s.rows.rows s.functions

  -- the form of a space: over the monic polynomial of least degree for which all its functions have polynomials as
  -- coordinates, so that each other such polynomial is a multiple of it, and with no more codes than they need, the
  -- rows are the reduced echelon basis of its vectors
  pub record IsPrintedSpace (In : Functions k p → Type 0) (s : SpaceValue) : Type 0 where
    pub form : IsSpaceForm s
    pub vectors : HaveVectors k p In s.den s.width
    pub least_den : (den : List ℕ) (width : ℕ) → IsOver k.ops den → IsMonicList den → HaveVectors k p In den width
        → DividesList k.ops s.den den
    pub least_width : (width : ℕ) → HaveVectors k p In s.den width → s.width ≤ width
    pub reduced : IsReducedForm k.ops s.rows (length s.rows.rows)
    pub row_space : (v : List ℕ) → IsInRowSpace k.ops s.rows v ↔ IsVectorOf k p In s.den s.width v

  -- the functions that are printed for a space, in their order
  pub record IsPrintedBasis (In : Functions k p → Type 0) (zs : List ElemValue) : Type 0 where
    pub space : SpaceValue
    pub printed : IsPrintedSpace In space
    pub are : zs ≡ space.functions
