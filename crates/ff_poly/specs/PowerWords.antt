-- Values at a code, powers, and the rest of a division.
use Rattle.std.specs.Prelude.{ℕ, zero, suc, List, [], ◌∷◌}
use Rattle.ff_fields.specs.Field.{FieldOps}
use Rattle.ff_poly.specs.Words.{IsQuotientWithRest, product_of}

-- the value at the code c of the polynomial with these codes
abbrev pub value_at_code : FieldOps → List ℕ → ℕ → ℕ
value_at_code k [] c = 0
value_at_code k (a ∷ codes) c = k.add a (k.mul c (value_at_code k codes c))

-- a to the power e
abbrev pub power_of : FieldOps → List ℕ → ℕ → List ℕ
power_of k a zero = 1 ∷ []
power_of k a (suc e) = product_of k a (power_of k a e)

-- the rest of a by m: with some quotient it is the division
pub record IsRest (k : FieldOps) (a m rest : List ℕ) : Type 0 where
  pub quotient : List ℕ
  pub division : IsQuotientWithRest k a m quotient rest
