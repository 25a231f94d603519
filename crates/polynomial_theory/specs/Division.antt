-- Division with rest in k[x] (Lang, Algebra).
use Rattle.std.specs.Prelude.{◌≡◌, ◌<◌, length}
use Rattle.ff_fields.specs.Field.{CodeField}
use Rattle.ff_poly.specs.Polynomials.{Polynomial, polynomials}

-- a is b times a quotient and a rest that is shorter than b
pub record Divided (k : CodeField) (a b : Polynomial k) : Type 0 where
  pub quotient : Polynomial k
  pub rest : Polynomial k
  pub is : a ≡ (polynomials k).◌⊕◌ ((polynomials k).◌⊗◌ b quotient) rest
  pub shorter : length rest.0 < length b.0
