-- What the definitions of places, divisors and spaces speak of.
use Rattle.std.specs.Prelude.{ℕ}
use Rattle.ring_lemmas.specs.Ring.{CommRing}
use Rattle.function_field.specs.declared.side.Side.{Side}

pub record Setting (E : Type 0) : Type 1 where
  -- F
  pub functions : CommRing E
  -- the codes of k
  pub IsCode : E → Type 0
  -- R_fin and R_inf
  pub IsScalar : Side → E → Type 0
  pub x : E
  pub one_over_x : E
  -- the trace of multiplication by a function
  pub trace : E → E
  -- the degree in y
  pub n : ℕ
