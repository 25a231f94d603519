-- Texts in their order by bytes, and lists of texts in theirs: what the places over one polynomial are numbered by.
use Rattle.std.specs.Prelude.{◌≡◌, ℕ, ◌<◌, ◌⊎◌, List, [], ◌∷◌, map}
use Rattle.ff_fields.specs.Field.{CodeField}
use Rattle.function_field.specs.declared.side.Side.{Side}
use Rattle.function_field.specs.Curves.{CurveValue}
use Rattle.ff_lattice.specs.Lattices.{LatticeValue, row_elems}
use Rattle.ff_text.specs.Printed.{WrittenValue, elem_text}
use Rattle.ff_written.specs.Rows.{AreWrittenRows}

-- at the first difference the byte is less, or the text ends there
abbrev pub IsBeforeText : List ℕ → List ℕ → Type 0
IsBeforeText [] [] = ⊥
IsBeforeText [] (b ∷ vs) = Unit {0}
IsBeforeText (a ∷ us) [] = ⊥
IsBeforeText (a ∷ us) (b ∷ vs) = (a < b) ⊎ ((a ≡ b) × IsBeforeText us vs)

-- at the first difference the text comes before, or the list ends there
abbrev pub IsBeforeTexts : List (List ℕ) → List (List ℕ) → Type 0
IsBeforeTexts [] [] = ⊥
IsBeforeTexts [] (b ∷ vs) = Unit {0}
IsBeforeTexts (a ∷ us) [] = ⊥
IsBeforeTexts (a ∷ us) (b ∷ vs) = IsBeforeText a b ⊎ ((a ≡ b) × IsBeforeTexts us vs)

-- the texts of written rows, row 1 first
abbrev pub texts_of : List WrittenValue → List (List ℕ)
texts_of zs = map (λ z. elem_text z.num z.den) zs

-- these are the texts of the rows of a lattice of the side
pub record HasRowTexts (k : CodeField) (c : CurveValue) (s : Side) (l : LatticeValue) (ts : List (List ℕ)) :
    Type 0 where
  pub rows : List WrittenValue
  pub written : AreWrittenRows k c s (row_elems l) rows
  pub are : ts ≡ texts_of rows
