-- The primes that belong to the idempotents of k[x] modulo a monic polynomial.
use Rattle.std.specs.Prelude.{ℕ, ◌≤◌, ◌^◌, ◌↔◌, List}
use Rattle.ring_lemmas.specs.Ring.{pow}
use Rattle.ring_lemmas.specs.Congruence.{IsCongruent}
use Rattle.ff_fields.specs.Field.{FieldOps, CodeField}
use Rattle.ff_fields.specs.Over.{IsOver}
use Rattle.ff_poly.specs.Words.{IsPoly, IsMonicList, DividesList}
use Rattle.ff_poly.specs.Value.{value}
use Rattle.ff_poly.specs.Polynomials.{polynomials, x_poly}
use Rattle.ff_falg.specs.Algebras.{IsNilpotentVector}
use Rattle.ff_factor.specs.Quotients.{product_modulo, quotient_algebra}

-- p is monic, and its multiples are the polynomials whose product with e is nilpotent modulo g
pub record IsPrimeAt (k : FieldOps) (g e p : List ℕ) : Type 0 where
  pub over : IsOver k p
  pub monic : IsMonicList p
  pub multiples : (u : List ℕ) → IsOver k u → IsPoly u
      → DividesList k p u ↔ IsNilpotentVector k (quotient_algebra g) (product_modulo k g u e)

-- z stands for x to a power of q that is at least the bound, modulo g
pub record IsHighPower (k : CodeField) (g : List ℕ) (bound : ℕ) (z : List ℕ) : Type 0 where
  pub times : ℕ
  pub reached : bound ≤ k.size ^ times
  pub is : IsCongruent (polynomials k).ops (value k g) (value k z) (pow (polynomials k).ops (x_poly k) (k.size ^ times))
