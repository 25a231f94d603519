-- The rows of a lattice as they are written.
use Rattle.std.specs.Prelude.{◌≡◌, List, [], ◌∷◌}
use Rattle.ff_fields.specs.Field.{CodeField}
use Rattle.function_field.specs.declared.side.Side.{Side}
use Rattle.function_field.specs.Values.{ElemValue}
use Rattle.function_field.specs.Infinity.{function_on}
use Rattle.function_field.specs.Curves.{CurveValue}
use Rattle.ff_text.specs.Printed.{WrittenValue}
use Rattle.ff_written.specs.LowestTerms.{IsWritten}

module _ (k : CodeField) (c : CurveValue) where
  -- one written row for each row of a side's presentation, in their order
  abbrev pub AreWrittenRows : Side → List ElemValue → List WrittenValue → Type 0
  AreWrittenRows s [] zs = zs ≡ []
  AreWrittenRows s (r ∷ rs) [] = ⊥
  AreWrittenRows s (r ∷ rs) (z ∷ zs) = IsWritten k c.fin (function_on k c.fin c.c s r) z × AreWrittenRows s rs zs
