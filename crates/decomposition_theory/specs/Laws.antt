-- The theorems on the primes of an order over a polynomial, as records.
use Rattle.std.specs.Prelude.{◌≡◌, ◌≢◌, ◌↔◌, ℕ, ◌≤◌, ◌*◌, ◌-◌, List, length, pos, ◌-ℤ◌, All, AllPairs}
use Rattle.ring_theory.specs.Subsets.{Product}
use Rattle.prime_theory.specs.Ideals.{SameSet, Power, PowerIn, Multiple}
use Rattle.prime_theory.specs.Orders.{Radical}
use Rattle.prime_theory.specs.Places.{IsMaximalIdeal}
use Rattle.ff_fields.specs.Field.{CodeField}
use Rattle.ff_poly.specs.Value.{value}
use Rattle.function_field.specs.Functions.{of_poly}
use Rattle.function_field.specs.Values.{PresValue, Functions, functions, function_of, equation_of}
use Rattle.ff_lattice.specs.Lattices.{LatticeValue, Contains, IsSumOfMembers, pivot_degree_of}
use Rattle.ff_lattice.specs.Colons.{IsColon}
use Rattle.ff_lattice.specs.Quotients.{QuotientValue, lifted}
use Rattle.value_theory.specs.Primes.{PrimeValue, IsPrimeOf}
use Rattle.decomposition_theory.specs.Decompositions.{IsInComponentPrime}

-- the primes of the idempotents are different maximal ideals with the polynomial, the members of all of them are
-- nilpotent modulo it, and that of e is spanned by the radical and the multiples of 1 - e
pub record HaveComponentPrimes (k : CodeField) (q : QuotientValue) (pi : List ℕ) (es : List (List ℕ)) : Type 0 where
  pub maximal :
      All (λ e. IsMaximalIdeal (functions k q.p).ops (Contains k q.p q.order) (IsInComponentPrime k q e)) es
  pub over : All (λ e. IsInComponentPrime k q e (of_poly (equation_of k q.p) (value k pi))) es
  pub different : AllPairs (λ e f. ¬ SameSet (IsInComponentPrime k q e) (IsInComponentPrime k q f)) es
  pub nilpotent :
      (z : Functions k q.p) → Contains k q.p q.order z → All (λ e. IsInComponentPrime k q e z) es
      → PowerIn (functions k q.p).ops
      (Multiple (functions k q.p).ops (of_poly (equation_of k q.p) (value k pi)) (Contains k q.p q.order)) z
  pub spanned :
      All
      (λ e.
      SameSet (IsInComponentPrime k q e)
      (IsSumOfMembers k q.p
      (Radical (functions k q.p).ops (Contains k q.p q.order) (of_poly (equation_of k q.p) (value k pi)))
      (Multiple (functions k q.p).ops
      ((functions k q.p).◌⊕◌ (functions k q.p).𝟙
      ((functions k q.p).⊖◌ (function_of k q.p (lifted k.ops q e))))
      (Contains k q.p q.order))))
      es

module _ (k : CodeField) (p : PresValue) (o : LatticeValue) (pi : List ℕ) where
  -- different primes over the polynomial such that what is in all of them is nilpotent modulo it
  pub record IsPrimeSystem (Ps : List PrimeValue) : Type 0 where
    pub primes : All (IsPrimeOf k p o) Ps
    pub over : All (λ P. P.p ≡ pi) Ps
    pub different : AllPairs (λ P Q. P.rows ≢ Q.rows) Ps
    pub nilpotent :
        (z : Functions k p) → Contains k p o z → All (λ P. Contains k p P.rows z) Ps
        → PowerIn (functions k p).ops
        (Multiple (functions k p).ops (of_poly (equation_of k p) (value k pi)) (Contains k p o)) z

  -- the product of m and its inverse is the order, and the powers of m that have the polynomial are those up to one
  -- exponent, which times the degree of m is at most n times that of the polynomial
  pub record IsInvertiblePrime (m : LatticeValue) : Type 0 where
    pub product :
        (l : LatticeValue) → ((z : Functions k p) → Contains k p l z ↔ IsColon k p o m z)
        → SameSet (Product (functions k p).ops (Contains k p m) (Contains k p l)) (Contains k p o)
    pub exponent : ℕ
    pub powers :
        (j : ℕ) → Power (functions k p).ops (Contains k p o) (Contains k p m) j (of_poly (equation_of k p) (value k pi))
        ↔ (j ≤ exponent)
    pub exponent_positive : 1 ≤ exponent
    pub degree : ℕ
    pub degree_is : pos degree ≡ pivot_degree_of m -ℤ pivot_degree_of o
    pub degree_positive : 1 ≤ degree
    pub bounded : exponent * degree ≤ p.n * (length pi - 1)
