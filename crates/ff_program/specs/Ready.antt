-- Statements that a session can take.
use Rattle.std.specs.Prelude.{◌≡◌, ℕ, ◌≤◌, List}
use Rattle.ff_script.specs.declared.script.Statement.{Statement}
use Rattle.ff_script.specs.Printing.{IsWritable}
use Rattle.ff_fields.specs.FieldData.{FieldData}
use Rattle.function_field.specs.Curves.{CurveValue}
use Rattle.ff_meaning.specs.Bindings.{Bindings, NamedPlace, nothing, with_field, with_places, HasSmallPowers}

-- it has a spelling, and its exponents are small
abbrev pub IsReady : Statement → Type 0
IsReady s = IsWritable s × HasSmallPowers s

-- so many statements in order lead to the bindings
pub data IsAfter (k : ℕ) (s : Bindings) : Type 0 where
  AtStart : k ≡ 0 → s ≡ nothing → IsAfter k s
  AfterField : k ≡ 1 → (d : FieldData) → s ≡ with_field d → IsAfter k s
  AfterCurve : 2 ≤ k → (d : FieldData) (c : CurveValue) (Ps : List NamedPlace) → s ≡ with_places d c Ps → IsAfter k s
