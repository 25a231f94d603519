-- The coordinates of a function in a list of functions over k.
use Rattle.std.specs.Prelude.{◌≡◌, ℕ, List, length, map}
use Rattle.ff_fields.specs.Field.{CodeField}
use Rattle.ff_fields.specs.Over.{IsOver}
use Rattle.ff_poly.specs.Polynomials.{constant_poly}
use Rattle.function_field.specs.Functions.{of_poly}
use Rattle.function_field.specs.Spans.{combination}
use Rattle.function_field.specs.Values.{PresValue, Functions, functions, equation_of}

-- z is the sum of the c_i·f_i, with a code c_i of k for each function f_i
pub record AreCoordinates (k : CodeField) (p : PresValue) (fs : List (Functions k p)) (z : Functions k p)
    (codes : List ℕ)
    : Type 0 where
  pub one_each : length codes ≡ length fs
  pub over : IsOver k.ops codes
  pub is : z ≡ combination (functions k p).ops (map (λ c. of_poly (equation_of k p) (constant_poly k c)) codes) fs
