-- The idempotent that a curve is refused by, where its functions are no field.
use Rattle.std.specs.Prelude.{◌≢◌}
use Rattle.ff_fields.specs.Field.{CodeField}
use Rattle.function_field.specs.Values.{PresValue, Functions}
use Rattle.constants_theory.specs.Idempotents.{IsProperIdempotent}
use Rattle.ff_text.specs.Printed.{WrittenValue, elem_text}
use Rattle.ff_written.specs.LowestTerms.{IsWritten}
use Rattle.ff_written.specs.TextOrder.{IsBeforeText}

-- z writes an idempotent other than 0 and 1, and its text comes before that of each other one
pub record IsFirstIdempotent (k : CodeField) (p : PresValue) (z : WrittenValue) : Type 0 where
  pub e : Functions k p
  pub proper : IsProperIdempotent k p e
  pub written : IsWritten k p e z
  pub first : (other : Functions k p) → IsProperIdempotent k p other → other ≢ e → (w : WrittenValue)
      → IsWritten k p other w → IsBeforeText (elem_text z.num z.den) (elem_text w.num w.den)
