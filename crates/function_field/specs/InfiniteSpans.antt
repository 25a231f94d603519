-- Combinations over the fractions of degree at most 0.
use Rattle.std.specs.Prelude.{ℕ, List, map}
use Rattle.ring_theory.specs.Subsets.{Span}
use Rattle.ff_fields.specs.Field.{CodeField}
use Rattle.function_field.specs.declared.side.Side.TheVariants.{Infinite}
use Rattle.function_field.specs.Values.{PresValue, ElemValue, Functions, functions, setting}
use Rattle.function_field.specs.Infinity.{function_on}

module _ (k : CodeField) (p : PresValue) where
  -- z is a combination, over the fractions of degree at most 0, of the functions that these elements of the infinite
  -- presentation stand for
  abbrev pub InInfiniteSpan : ℕ → List ElemValue → Functions k p → Type 0
  InInfiniteSpan c zs = Span (functions k p).ops ((setting k p).IsScalar Infinite) (map (function_on k p c Infinite) zs)
