-- The answers of `places`: all places over a polynomial, or over infinity, each once and numbered (Stichtenoth, section
-- 3.1).
use Rattle.std.specs.Prelude.{◌≡◌, ℕ, suc, List, [], ◌∷◌, ◌++◌, length, map, max, flat_map, codes, decimal, All, AllPairs}
use Rattle.ff_fields.specs.Field.{CodeField}
use Rattle.function_field.specs.declared.side.Side.{Side}
use Rattle.function_field.specs.Values.{Functions, function_of}
use Rattle.function_field.specs.Curves.{CurveValue, IsCurve}
use Rattle.function_field.specs.PlaceLists.{ListedPlace, AreAllPlacesAbove}
use Rattle.ff_lattice.specs.Lattices.{LatticeValue, IsLatticeValue, row_elems}
use Rattle.value_theory.specs.IntegralLattices.{presentation}
use Rattle.place_lists_theory.specs.Lists.{SpansWholePlace}
use Rattle.ff_script.specs.declared.script.Over.{Over}
use Rattle.ff_text.specs.Printed.{WrittenValue}
use Rattle.ff_written.specs.LowestTerms.{elem_of}
use Rattle.ff_written.specs.Rows.{AreWrittenRows}
use Rattle.ff_written.specs.TextOrder.{IsBeforeTexts, texts_of}
use Rattle.ff_meaning.specs.Meaning.{IsBase}
use Rattle.ff_cert.specs.declared.answer.PlaceLines.{PlaceLines}
use Rattle.ff_cert.specs.Lines.{answer_line}
use Rattle.ff_cert.specs.RowOrder as order_row
use Rattle.ff_cert.specs.RowPlace as place_row

-- the numbers go up by one from the first
abbrev pub LinesNumberedFrom : ℕ → List PlaceLines → Type 0
LinesNumberedFrom first [] = Unit {0}
LinesNumberedFrom first (P ∷ Ps) = (P.number ≡ first) × LinesNumberedFrom (suc first) Ps

module _ (k : CodeField) (c : CurveValue) (s : Side) where
  -- the functions that rows stand for
  abbrev pub functions_of : List WrittenValue → List (Functions k c.fin)
  functions_of zs = map (λ z. function_of k c.fin (elem_of z)) zs

  -- the functions of the rows, with the ramification index and the degree
  abbrev pub listed : PlaceLines → ListedPlace (Functions k c.fin)
  listed P = record { rows = functions_of P.rows; e = P.e; degree = P.degree }

  -- zs are the rows of a lattice of the side as they are printed, and span all that a place has of it
  pub record ArePrintedRows (zs : List WrittenValue) : Type 0 where
    pub lattice : LatticeValue
    pub form : IsLatticeValue k.ops (presentation c s).n lattice
    pub rows : AreWrittenRows k c s (row_elems lattice) zs
    pub whole : SpansWholePlace k c s (functions_of zs)

  -- all places over p, each once, by the texts of their rows, and numbered from 1
  pub record AreAllPlaces (p : List ℕ) (Ps : List PlaceLines) : Type 0 where
    pub all : AreAllPlacesAbove k c s p (map listed Ps)
    pub printed : All (λ P. ArePrintedRows P.rows) Ps
    pub ascending : AllPairs (λ P Q. IsBeforeTexts (texts_of P.rows) (texts_of Q.rows)) Ps
    pub numbers : LinesNumberedFrom 1 Ps

-- these are all places over what is written, and this is their number
pub record IsTrue (k : CodeField) (c : CurveValue) (over : Over) (count : ℕ) (Ps : List PlaceLines) : Type 0 where
  pub curve : IsCurve k c
  pub side : Side
  pub p : List ℕ
  pub base : IsBase k.ops over side p
  pub places : AreAllPlaces k c side p Ps
  pub number : count ≡ length Ps

-- the lines of each place
abbrev pub place_lines : List PlaceLines → List ℕ
place_lines Ps = flat_map place_row.lines Ps

-- a line with the number of places, and then the lines of each
abbrev pub lines : ℕ → List PlaceLines → List ℕ
lines count Ps = answer_line (codes "count " ++ decimal count) ++ place_lines Ps

-- the greatest degree of the rows' polynomials, 0 where there are none
abbrev pub degree : List PlaceLines → ℕ
degree [] = 0
degree (P ∷ Ps) = max (order_row.degree P.rows) (degree Ps)
