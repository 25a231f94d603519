-- Divisors given by primes of the orders of both sides with integers, and the lattice that stands for a divisor on each
-- side (F. Hess, Computing Riemann-Roch spaces in algebraic function fields and related topics, 2002, sections 2 to 4).
use Rattle.std.specs.Prelude.{◌≡◌, ◌↔◌, ◌⊎◌, ℤ, pos, neg_ℤ, ◌+ℤ◌, ◌*ℤ◌, List, [], ◌∷◌, map, All, AllPairs}
use Rattle.ring_theory.specs.Subsets.{Span, Product}
use Rattle.ff_fields.specs.Field.{CodeField}
use Rattle.ff_fields.specs.Over.{IsOver}
use Rattle.ff_poly.specs.Words.{IsIrreducibleList}
use Rattle.ff_poly.specs.Polynomials.{x_poly}
use Rattle.function_field.specs.declared.side.Side.{Side}
use Rattle.function_field.specs.declared.side.Side.TheVariants.{Finite, Infinite}
use Rattle.function_field.specs.Places.{Place, IsPlace, IsSamePlace}
use Rattle.function_field.specs.Divisors.{Divisor, IsDivisor, HasMultiplicity, MeetsOn}
use Rattle.function_field.specs.PlaceLists.{listed_place}
use Rattle.function_field.specs.Values.{PresValue, Functions, functions, setting, equation_of}
use Rattle.function_field.specs.Infinity.{function_on, IsPolynomialOn}
use Rattle.function_field.specs.Curves.{CurveValue}
use Rattle.infinite_theory.specs.Supported.{IsSupportedAt}
use Rattle.ideal_theory.specs.Records.{IsAdmitted}
use Rattle.ff_lattice.specs.Lattices.{LatticeValue, IsLatticeValue, Contains, row_elems}
use Rattle.value_theory.specs.IntegralLattices.{presentation, IsOverPowerOfT}
use Rattle.value_theory.specs.Primes.{PrimeValue, IsPrimeOf}
use Rattle.place_lists_theory.specs.Lists.{listed_prime}
use Rattle.ff_ideal.specs.Powers.{IntegerPower}

-- the number where the sides are the same, and 0 where they aren't
abbrev pub where_same : Side → Side → ℤ → ℤ
where_same Finite Finite m = m
where_same Finite Infinite m = pos 0
where_same Infinite Finite m = pos 0
where_same Infinite Infinite m = m

-- the sum of m·degree over the primes of a side
abbrev pub degree_on : Side → List PrimeValue → List ℤ → ℤ
degree_on s [] ms = pos 0
degree_on s (P ∷ Ps) [] = pos 0
degree_on s (P ∷ Ps) (m ∷ ms) = where_same s P.side (m *ℤ pos P.degree) +ℤ degree_on s Ps ms

-- no two primes of one side have the same lattice
abbrev pub AreDifferentPrimes : List PrimeValue → Type 0
AreDifferentPrimes = AllPairs (λ P Q. ¬ ((P.side ≡ Q.side) × (P.rows ≡ Q.rows)))

module _ (k : CodeField) (c : CurveValue) where
  -- a prime of the side, with its lattice and that of its inverse in an order of the side, over an irreducible
  -- polynomial, which is t on the infinite side
  pub record IsSidePrime (s : Side) (o : LatticeValue) (P : PrimeValue) : Type 0 where
    pub side : P.side ≡ s
    pub over : IsOver k.ops P.p
    pub irreducible : IsIrreducibleList k.ops P.p
    pub infinite : s ≡ Infinite → P.p ≡ 0 ∷ 1 ∷ []
    pub prime : IsPrimeOf k (presentation c s) o P

  -- different primes, each one of its side, for an order of each side
  pub record ArePrimesOfSides (o : Side → LatticeValue) (Ps : List PrimeValue) : Type 0 where
    pub primes : All (λ P. IsSidePrime P.side (o P.side) P) Ps
    pub different : AreDifferentPrimes Ps

  -- the place that the rows of a prime span over the ring of its side
  abbrev pub place_of_prime : PrimeValue → Place (Functions k c.fin)
  place_of_prime P = listed_place k c P.side (listed_prime k c P.side P)

  -- the places of the primes with their integers
  abbrev pub divisor_of_primes : List PrimeValue → List ℤ → Divisor (Functions k c.fin)
  divisor_of_primes [] ms = []
  divisor_of_primes (P ∷ Ps) [] = []
  divisor_of_primes (P ∷ Ps) (m ∷ ms) = record { place = place_of_prime P; times = m } ∷ divisor_of_primes Ps ms

  -- at each place D has the integer of the prime whose place it is, and 0 where there is none
  pub record IsDivisorOfPrimes (Ps : List PrimeValue) (ms : List ℤ) (D : Divisor (Functions k c.fin)) : Type 0 where
    pub divisor : IsDivisor (setting k c.fin) D
    pub values : (M : Place (Functions k c.fin)) → IsPlace (setting k c.fin) M → (m : ℤ)
        → HasMultiplicity (setting k c.fin) (divisor_of_primes Ps ms) M m → HasMultiplicity (setting k c.fin) D M m

  -- E is D + m·P for the place P of a prime, which may occur in D
  pub record IsSumWith (D : Divisor (Functions k c.fin)) (P : PrimeValue) (m : ℤ) (E : Divisor (Functions k c.fin)) :
      Type 0 where
    pub divisor : IsDivisor (setting k c.fin) E
    pub here : (M : Place (Functions k c.fin)) → IsPlace (setting k c.fin) M
        → IsSamePlace (setting k c.fin) M (place_of_prime P) → (n : ℤ) → HasMultiplicity (setting k c.fin) D M n
        → HasMultiplicity (setting k c.fin) E M (n +ℤ m)
    pub elsewhere : (M : Place (Functions k c.fin)) → IsPlace (setting k c.fin) M
        → ¬ IsSamePlace (setting k c.fin) M (place_of_prime P) → (n : ℤ) → HasMultiplicity (setting k c.fin) D M n
        → HasMultiplicity (setting k c.fin) E M n

  -- the functions z with v_P(z) ≥ -D(P) at each place P of the side
  abbrev pub MembersOn : Side → Divisor (Functions k c.fin) → Functions k c.fin → Type 0
  MembersOn s D = MeetsOn (setting k c.fin) D s

  -- the functions of the rows of a lattice of a side
  abbrev pub rows_on : Side → LatticeValue → List (Functions k c.fin)
  rows_on s l = map (function_on k c.fin c.c s) (row_elems l)

  -- on the infinite side a set differs from k[t][Y] at t alone; on the finite side nothing is asked
  abbrev pub IsTame : (s : Side) → (Functions k (presentation c s) → Type 0) → Type 0
  IsTame Finite X = Unit {0}
  IsTame Infinite X = IsSupportedAt (equation_of k c.inf) (x_poly k) X

  -- the lattice of a divisor on a side: the combinations of its rows over R_s are the functions that D allows on the
  -- side, and on the infinite side it differs from k[t][Y] at t alone
  pub record IsLatticeOfDivisor (s : Side) (D : Divisor (Functions k c.fin)) (l : LatticeValue) : Type 0 where
    pub form : IsLatticeValue k.ops (presentation c s).n l
    pub span : (z : Functions k c.fin)
        → Span (functions k c.fin).ops ((setting k c.fin).IsScalar s) (rows_on s l) z ↔ MembersOn s D z
    pub tame : IsTame s (Contains k (presentation c s) l)

  -- On the infinite side the combinations of the rows over k[t] are what D allows there in k[t, 1/t][Y]. On the finite
  -- side R_s is the ring of the lattice's coefficients already.
  abbrev pub SpansMembersOverPowersOfT : Side → Divisor (Functions k c.fin) → LatticeValue → Type 0
  SpansMembersOverPowersOfT Finite D l = Unit {0}
  SpansMembersOverPowersOfT Infinite D l =
      (z : Functions k c.fin)
      → Span (functions k c.fin).ops (IsPolynomialOn k c.fin Infinite) (rows_on Infinite l) z
      ↔ (MembersOn Infinite D z × IsOverPowerOfT k c z)

module _ (k : CodeField) (q : PresValue) where
  -- a lattice with the finite sums of products of a member of a and a member of b
  pub record IsProductLattice (a b l : LatticeValue) : Type 0 where
    pub form : IsLatticeValue k.ops q.n l
    pub members : (z : Functions k q) → Contains k q l z
        ↔ Product (functions k q).ops (Contains k q a) (Contains k q b) z

  -- a times the first lattice of the list, that times the second one, and so on, is l
  abbrev pub IsProductOfAll : LatticeValue → List LatticeValue → LatticeValue → Type 0
  IsProductOfAll a [] l = l ≡ a
  IsProductOfAll a (j ∷ js) l = (b : LatticeValue) × IsProductLattice a j b × IsProductOfAll b js l

  module _ (o : LatticeValue) where
    -- what inverses and powers over an order ask of a lattice: it is closed under the order, and at each irreducible
    -- polynomial the order is maximal, or the lattice is the order up to functions prime to it
    pub record IsAdmittedLattice (l : LatticeValue) : Type 0 where
      pub form : IsLatticeValue k.ops q.n l
      pub closed : (u v : Functions k q) → Contains k q o u → Contains k q l v
          → Contains k q l ((functions k q).◌⊗◌ u v)
      pub admitted : IsAdmitted (equation_of k q) (Contains k q o) (Contains k q l)

    -- a lattice with the members of the power P^(-m) over an order
    pub record IsPowerLattice (P : PrimeValue) (m : ℤ) (j : LatticeValue) : Type 0 where
      pub form : IsLatticeValue k.ops q.n j
      pub members : (z : Functions k q) → Contains k q j z
          ↔ IntegerPower (functions k q).ops (Contains k q o) (Contains k q P.rows) (neg_ℤ m) z

    -- the powers P^(-m) of the primes of the side whose m isn't 0, in their order
    pub data PowersOn (s : Side) : List PrimeValue → List ℤ → List LatticeValue → Type 0 where
      none : PowersOn s [] [] []
      power : {P : PrimeValue} {Ps : List PrimeValue} {m : ℤ} {ms : List ℤ} {j : LatticeValue} {js : List LatticeValue}
          → P.side ≡ s → ¬ (m ≡ pos 0) → IsPowerLattice P m j → PowersOn s Ps ms js
          → PowersOn s (P ∷ Ps) (m ∷ ms) (j ∷ js)
      passed : {P : PrimeValue} {Ps : List PrimeValue} {m : ℤ} {ms : List ℤ} {js : List LatticeValue}
          → ¬ (P.side ≡ s) ⊎ (m ≡ pos 0) → PowersOn s Ps ms js → PowersOn s (P ∷ Ps) (m ∷ ms) js
