-- The integral functions that products of powers of polynomials take into an order (Pohst and Zassenhaus, Algorithmic
-- Algebraic Number Theory).
use Rattle.std.specs.Prelude.{ℕ, List, [], ◌∷◌, map, cond, nat_lt}
use Rattle.ff_fields.specs.Field.{CodeField}
use Rattle.ff_poly.specs.Polynomials.{Polynomial}
use Rattle.function_field.specs.declared.side.Side.TheVariants.{Finite}
use Rattle.function_field.specs.Places.{IsIntegralAt}
use Rattle.function_field.specs.Functions.{Equation, FunctionOf, ring_of, of_poly, setting_of}
use Rattle.prime_theory.specs.Orders.{PowersOf}

module _ {k : CodeField} (c : Equation k) where
  -- z is integral over the polynomials, and a product of powers of the listed polynomials takes it into O
  pub record TakenByProducts (ps : List (Polynomial k)) (O : FunctionOf c → Type 0) (z : FunctionOf c) : Type 0 where
    pub integral : IsIntegralAt (setting_of c) Finite z
    pub product : FunctionOf c
    pub of_powers : PowersOf (ring_of c) (map (of_poly c) ps) product
    pub inside : O ((ring_of c).◌⊗◌ product z)

-- the polynomials of the parts with an exponent of 2 or more
abbrev pub repeated : List (List ℕ × ℕ) → List (List ℕ)
repeated [] = []
repeated (f ∷ fs) = cond (nat_lt 1 f.1) (f.0 ∷ repeated fs) (repeated fs)
