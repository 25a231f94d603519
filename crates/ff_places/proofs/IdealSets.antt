-- The multiples of an order by a polynomial, as the ideal of a quotient.
use Rattle.std.proofs.Common.{ℕ, List}
use Rattle.prime_theory.specs.Ideals.{SameSet, Multiple}
use Rattle.ff_fields.specs.Field.{CodeField}
use Rattle.ff_poly.specs.Value.{value}
use Rattle.function_field.specs.Functions.{of_poly}
use Rattle.function_field.specs.Values.{PresValue, functions, equation_of}
use Rattle.ff_lattice.specs.Lattices.{LatticeValue, Contains}

-- the members of i are the multiples of those of o by the polynomial
abbrev pub IsMultiples : (k : CodeField) (p : PresValue) (o i : LatticeValue) (pi : List ℕ) → Type 0
IsMultiples k p o i pi =
    SameSet (Contains k p i)
    (Multiple (functions k p).ops (of_poly (equation_of k p) (value k pi)) (Contains k p o))
