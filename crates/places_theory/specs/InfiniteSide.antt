-- The ring k[t] at t = 1/x, and its members that t does not divide.
use Rattle.std.specs.Prelude.{◌≡◌, ℕ, List, get_or}
use Rattle.ff_fields.specs.Field.{CodeField}
use Rattle.ff_fields.specs.Over.{IsOver}
use Rattle.function_field.specs.declared.side.Side.TheVariants.{Infinite}
use Rattle.function_field.specs.Values.{PresValue, Functions}
use Rattle.function_field.specs.Infinity.{value_at, variable, IsPolynomialOn}

module _ (k : CodeField) (p : PresValue) where
  -- k[t]
  abbrev pub InReverse : Functions k p → Type 0
  InReverse = IsPolynomialOn k p Infinite

  -- the value at t of a list of codes that does not begin with 0
  pub record IsPrimeToT (z : Functions k p) : Type 0 where
    pub codes : List ℕ
    pub codes_over : IsOver k.ops codes
    pub first : ¬ (get_or codes 0 0 ≡ 0)
    pub value : z ≡ value_at k p (variable k p Infinite) codes
