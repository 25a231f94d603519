-- Lattices that differ from k[x][y] at an irreducible polynomial p alone, and what holds up to factors prime to p.
use Rattle.std.specs.Prelude.{ℕ, ◌<◌}
use Rattle.ring_lemmas.specs.Ring.{pow}
use Rattle.ring_theory.specs.Local.{Locally}
use Rattle.ff_fields.specs.Field.{CodeField}
use Rattle.ff_poly.specs.Polynomials.{Polynomial}
use Rattle.function_field.specs.Functions.{Equation, FunctionOf, ring_of, of_poly, y_of, degree_of_y}
use Rattle.trace_theory.specs.Traces.{HasPolynomialCoordinates}
use Rattle.order_theory.specs.Orders.{IsPrimeTo}

module _ {k : CodeField} (c : Equation k) (p : Polynomial k) where
  -- L is k[x][y] up to powers of p: one of them takes 1, y, up to y^(n-1) into L, and L into k[x][y]
  pub record IsSupportedAt (L : FunctionOf c → Type 0) : Type 0 where
    pub exponent : ℕ
    pub has :
        (i : ℕ) → i < degree_of_y c
        → L ((ring_of c).◌⊗◌ (pow (ring_of c).ops (of_poly c p) exponent) (pow (ring_of c).ops (y_of c) i))
    pub within : (z : FunctionOf c) → L z
        → HasPolynomialCoordinates c ((ring_of c).◌⊗◌ (pow (ring_of c).ops (of_poly c p) exponent) z)

  -- k[x, 1/p][y]: a power of p takes z into k[x][y]
  pub record HasPowerDenominator (z : FunctionOf c) : Type 0 where
    pub exponent : ℕ
    pub cleared : HasPolynomialCoordinates c ((ring_of c).◌⊗◌ (pow (ring_of c).ops (of_poly c p) exponent) z)

  -- L at p: a polynomial that p doesn't divide takes z into L
  abbrev pub IsLocallyIn : (FunctionOf c → Type 0) → FunctionOf c → Type 0
  IsLocallyIn L = Locally (ring_of c).ops (IsPrimeTo c p) L
