-- The primes of an order that is maximal at a polynomial, by the primitive idempotents of the order modulo that
-- (Hess, section 3; Cohen, A Course in Computational Algebraic Number Theory, section 6.2).
use Rattle.std.specs.Prelude.{◌≡◌, ◌<◌, ℕ, List}
use Rattle.prime_theory.specs.Ideals.{SameSet, Multiple}
use Rattle.prime_theory.specs.Orders.{MaximalAt}
use Rattle.ff_fields.specs.Field.{CodeField}
use Rattle.ff_fields.specs.Over.{IsOver}
use Rattle.ff_poly.specs.Words.{IsIrreducibleList}
use Rattle.ff_poly.specs.Value.{value}
use Rattle.ff_falg.specs.Algebras.{IsNilpotentVector}
use Rattle.ff_falg.specs.Idempotents.{IsPrimitiveList}
use Rattle.function_field.specs.declared.side.Side.TheVariants.{Finite}
use Rattle.function_field.specs.Places.{IsIntegralAt}
use Rattle.function_field.specs.Functions.{of_poly}
use Rattle.function_field.specs.Values.{PresValue, Functions, functions, equation_of, setting}
use Rattle.ff_lattice.specs.Lattices.{LatticeValue, Contains}
use Rattle.ff_lattice.specs.Orders.{IsOrderLattice}
use Rattle.ff_lattice.specs.Quotients.{QuotientValue, IsQuotientOver, IsClassOf, class_algebra}
use Rattle.value_theory.specs.Primes.{PrimeValue, IsPrimeOf}

-- an order that is maximal at an irreducible polynomial: it has each integral function that a power of that takes into
-- it
pub record IsMaximalOrderAt (k : CodeField) (p : PresValue) (o : LatticeValue) (pi : List ℕ) : Type 0 where
  pub positive : 0 < p.n
  pub order : IsOrderLattice k p o
  pub pi_in : IsOver k.ops pi
  pub irreducible : IsIrreducibleList k.ops pi
  pub maximal : MaximalAt (functions k p).ops (of_poly (equation_of k p) (value k pi))
      (IsIntegralAt (setting k p) Finite) (Contains k p o)

-- the order modulo the multiples of a polynomial, and all its primitive idempotents
pub record AreIdempotentsModulo (k : CodeField) (q : QuotientValue) (pi : List ℕ) (es : List (List ℕ)) : Type 0 where
  pub quotient : IsQuotientOver k q
  pub ideal : SameSet (Contains k q.p q.ideal)
      (Multiple (functions k q.p).ops (of_poly (equation_of k q.p) (value k pi)) (Contains k q.p q.order))
  pub idempotents : IsPrimitiveList k.ops (class_algebra q) es

-- the prime of an idempotent: the members of the order whose class times the idempotent is nilpotent
pub record IsInComponentPrime (k : CodeField) (q : QuotientValue) (e : List ℕ) (z : Functions k q.p) : Type 0 where
  pub within : Contains k q.p q.order z
  pub codes : List ℕ
  pub are : IsClassOf k q z codes
  pub nilpotent : IsNilpotentVector k.ops (class_algebra q) ((class_algebra q).product k.ops codes e)

-- a prime over the polynomial, as a value, that has the members of the prime of the idempotent
pub record IsComponentPrime (k : CodeField) (q : QuotientValue) (pi e : List ℕ) (P : PrimeValue) : Type 0 where
  pub prime : IsPrimeOf k q.p q.order P
  pub over : P.p ≡ pi
  pub members : SameSet (Contains k q.p P.rows) (IsInComponentPrime k q e)
