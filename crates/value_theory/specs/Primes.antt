-- Primes of an order of codes, as values: what is seen of each, and what makes it a prime over a polynomial
-- (Stichtenoth, section 3.1; Hess, section 3).
use Rattle.std.specs.Prelude.{◌≡◌, ◌≢◌, ◌↔◌, ℕ, suc, ◌+◌, ◌*◌, ◌-◌, List, [], ◌∷◌, length, pos, ◌-ℤ◌, All, AllPairs}
use Rattle.ring_theory.specs.Subsets.{Product}
use Rattle.prime_theory.specs.Ideals.{SameSet, Power, Multiple}
use Rattle.prime_theory.specs.Places.{IsMaximalIdeal}
use Rattle.ff_fields.specs.Field.{CodeField}
use Rattle.ff_poly.specs.Value.{value}
use Rattle.function_field.specs.declared.side.Side.{Side}
use Rattle.function_field.specs.Functions.{of_poly}
use Rattle.function_field.specs.Values.{PresValue, Functions, functions, equation_of}
use Rattle.ff_lattice.specs.Lattices.{LatticeValue, IsLatticeValue, Contains, pivot_degree_of}
use Rattle.ff_lattice.specs.Colons.{IsColon}
use Rattle.ff_lattice.specs.Quotients.{IsIdealLattice}

-- a side, the polynomial that the prime lies over, its number among the primes over that, its ramification index and
-- its degree, and the lattices of the prime and of its inverse
pub record PrimeValue : Type 0 where
  pub side : Side
  pub p : List ℕ
  pub number : ℕ
  pub e : ℕ
  pub degree : ℕ
  pub rows : LatticeValue
  pub inverse : LatticeValue

module _ (k : CodeField) (q : PresValue) (o : LatticeValue) where
  -- a maximal ideal of the order that has the polynomial, with its index as the degree, its inverse, and the greatest
  -- power that has the polynomial
  pub record IsPrimeOf (P : PrimeValue) : Type 0 where
    pub ideal : IsIdealLattice k q o P.rows
    pub inverse_form : IsLatticeValue k.ops q.n P.inverse
    pub maximal : IsMaximalIdeal (functions k q).ops (Contains k q o) (Contains k q P.rows)
    pub over : Contains k q P.rows (of_poly (equation_of k q) (value k P.p))
    pub degree : pos P.degree ≡ pivot_degree_of P.rows -ℤ pivot_degree_of o
    pub inverse : (z : Functions k q) → Contains k q P.inverse z ↔ IsColon k q o P.rows z
    pub product : SameSet (Product (functions k q).ops (Contains k q P.rows) (Contains k q P.inverse)) (Contains k q o)
    pub ramified : Power (functions k q).ops (Contains k q o) (Contains k q P.rows) P.e
        (of_poly (equation_of k q) (value k P.p))
    pub not_more : ¬ Power (functions k q).ops (Contains k q o) (Contains k q P.rows) (suc P.e)
        (of_poly (equation_of k q) (value k P.p))

  -- the product of the primes to the powers of their ramification indices
  abbrev pub ProductOfPrimes : List PrimeValue → Functions k q → Type 0
  ProductOfPrimes [] = Contains k q o
  ProductOfPrimes (P ∷ Ps) =
      Product (functions k q).ops (Power (functions k q).ops (Contains k q o) (Contains k q P.rows) P.e)
      (ProductOfPrimes Ps)

  -- the sum of e·f
  abbrev pub sum_of_primes : List PrimeValue → ℕ
  sum_of_primes [] = 0
  sum_of_primes (P ∷ Ps) = P.e * P.degree + sum_of_primes Ps

  -- different primes over the polynomial, whose product is within its multiples, with n times its degree as the sum of
  -- e·f
  pub record AreAllPrimes (pi : List ℕ) (Ps : List PrimeValue) : Type 0 where
    pub primes : All IsPrimeOf Ps
    pub over : All (λ P. P.p ≡ pi) Ps
    pub different : AllPairs (λ P Q. P.rows ≢ Q.rows) Ps
    pub sum : sum_of_primes Ps ≡ q.n * (length pi - 1)
    pub within :
        (z : Functions k q) → ProductOfPrimes Ps z
        → Multiple (functions k q).ops (of_poly (equation_of k q) (value k pi)) (Contains k q o) z
