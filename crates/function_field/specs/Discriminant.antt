-- The discriminant of a presentation (Stichtenoth, chapter 3; Cohen, A Course in Computational Algebraic Number Theory,
-- chapter 4).
use Rattle.std.specs.Prelude.{ℕ, ◌+◌}
use Rattle.ring_theory.specs.Determinant.{determinant}
use Rattle.ring_lemmas.specs.Rows.{row_trace, y_to}
use Rattle.ff_fields.specs.Field.{CodeField}
use Rattle.ff_poly.specs.Polynomials.{Polynomial, polynomials}
use Rattle.function_field.specs.Functions.{Equation, degree_of_y}

module _ {k : CodeField} (c : Equation k) where
  -- the trace of y^m
  abbrev pub power_trace : ℕ → Polynomial k
  power_trace m =
      row_trace (polynomials k).ops c.lower_degree c.coefficients
      (y_to (polynomials k).ops c.lower_degree c.coefficients m)

  -- the determinant of the traces of y^(i+j), i and j from 0 to n - 1
  abbrev pub discriminant : Polynomial k
  discriminant = determinant (polynomials k).ops (degree_of_y c) (λ i j. power_trace (i + j))
