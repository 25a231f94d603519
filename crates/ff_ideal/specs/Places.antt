-- The places of primes of orders, on both sides (Stichtenoth, section 3.1).
use Rattle.std.specs.Prelude.{◌≡◌, ◌↔◌, ℤ}
use Rattle.prime_theory.specs.Primes.{Pair}
use Rattle.prime_theory.specs.IntegerValues.{ValueIs}
use Rattle.ff_fields.specs.Field.{CodeField}
use Rattle.ff_poly.specs.Value.{value}
use Rattle.ff_poly.specs.Polynomials.{x_poly}
use Rattle.function_field.specs.declared.side.Side.TheVariants.{Infinite}
use Rattle.function_field.specs.Functions.{of_poly}
use Rattle.function_field.specs.Places.{Place, IsPlace, IsIn, LiesOver}
use Rattle.function_field.specs.Infinity.{function_on}
use Rattle.function_field.specs.Curves.{CurveValue}
use Rattle.function_field.specs.Values.{ElemValue, PresValue, IsElem, IsMonicElem, Functions, functions, function_of, equation_of, setting}
use Rattle.ff_lattice.specs.Lattices.{LatticeValue, Contains}
use Rattle.value_theory.specs.Primes.{PrimeValue}

-- a finite place over the polynomial of the prime that has, of the members of the order, those of the prime
pub record IsPlaceOf (k : CodeField) (p : PresValue) (o : LatticeValue) (P : PrimeValue) (M : Place (Functions k p)) :
    Type 0 where
  pub place : IsPlace (setting k p) M
  pub over : LiesOver (setting k p) M (of_poly (equation_of k p) (value k P.p))
  pub members : (z : Functions k p) → Contains k p o z → IsIn (setting k p) M z ↔ Contains k p P.rows z

-- the prime lies over t, and of the functions of elements of the infinite presentation that are members of the order
-- the infinite place has those of the prime
pub record IsInfinitePlaceOf (k : CodeField) (c : CurveValue) (o : LatticeValue) (P : PrimeValue)
    (Q : Place (Functions k c.fin)) : Type 0 where
  pub place : IsPlace (setting k c.fin) Q
  pub side : Q.side ≡ Infinite
  pub over : value k P.p ≡ x_poly k
  pub members : (w : ElemValue) → IsElem k.ops c.inf.n w → IsMonicElem w
      → Contains k c.inf o (function_of k c.inf w)
      → IsIn (setting k c.fin) Q (function_on k c.fin c.c Infinite w) ↔ Contains k c.inf P.rows (function_of k c.inf w)

-- the value of z at the prime that the rows span is m, whatever pair stands for the prime
abbrev pub HasPrimeValue : (k : CodeField) (p : PresValue) (o rows : LatticeValue) → Functions k p → ℤ → Type 0
HasPrimeValue k p o rows z m =
    (t : Pair (functions k p).ops (Contains k p o) (Contains k p rows))
    → ValueIs (functions k p).ops (Contains k p o) (Contains k p rows) t z m
