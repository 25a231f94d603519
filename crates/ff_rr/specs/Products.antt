-- The lattices of a divisor on both sides, as products of powers of primes, and its space.
use Rattle.std.specs.Prelude.{◌≡◌, ◌≤ℤ◌, ◌⊎◌, ◌+◌, ◌-◌, ◌*◌, ◌/◌, ℤ, pos, ◌+ℤ◌, ◌-ℤ◌, List, map, All}
use Rattle.ff_fields.specs.Field.{CodeField}
use Rattle.function_field.specs.declared.side.Side.{Side}
use Rattle.function_field.specs.declared.side.Side.TheVariants.{Finite, Infinite}
use Rattle.function_field.specs.Divisors.{Divisor, InSpace, IsSpaceBasis, IsSimultaneousBasis}
use Rattle.function_field.specs.Values.{PresValue, IsElem, Functions, function_of, setting}
use Rattle.linear_theory.specs.Lists.{entry}
use Rattle.reduced_basis_theory.specs.Degree.{degree_sum}
use Rattle.ff_lattice.specs.Lattices.{LatticeValue, pivot_degree_of}
use Rattle.value_theory.specs.IntegralLattices.{presentation}
use Rattle.value_theory.specs.Primes.{PrimeValue}
use Rattle.pair_theory.specs.Pairs.{ArePrimesOfSides, IsDivisorOfPrimes, IsLatticeOfDivisor, IsPowerLattice, IsProductLattice, IsProductOfAll, PowersOn, degree_on}
use Rattle.ff_split.specs.Splits.{IsLowestElem, IsInOrder, IsSplitForm}
use Rattle.ff_space.specs.Spaces.{IsPrintedSpace}
use Rattle.ff_rr.specs.Frames.{FrameValue, order_on}
use Rattle.ff_rr.specs.Constants.{SpaceBasisValue}

-- ---- one prime after another

module _ (k : CodeField) (q : PresValue) (o : LatticeValue) (s : Side) where
  -- l' is l times P^(-m) where P is a prime of the side and m isn't 0, and l else
  pub data IsWithPrime (P : PrimeValue) (m : ℤ) (l l' : LatticeValue) : Type 0 where
    passed : ¬ (P.side ≡ s) ⊎ (m ≡ pos 0) → l' ≡ l → IsWithPrime P m l l'
    times : P.side ≡ s → ¬ (m ≡ pos 0) → (j : LatticeValue) → IsPowerLattice k q o P m j
        → IsProductLattice k q l j l' → IsWithPrime P m l l'

  -- l is the product of the order and the powers P^(-m) of the primes of the side
  pub record IsProductOfPowers (Ps : List PrimeValue) (ms : List ℤ) (l : LatticeValue) : Type 0 where
    pub powers : List LatticeValue
    pub are : PowersOn k q o s Ps ms powers
    pub product : IsProductOfAll k q o powers l

-- ---- the lattices and the space of a divisor

module _ (k : CodeField) (f : FrameValue) where
  -- different primes, each of the order of its side
  abbrev pub ArePrimesOfFrame : List PrimeValue → Type 0
  ArePrimesOfFrame = ArePrimesOfSides k f.curve (order_on f)

  -- l is the lattice, on a side, of the divisor that the primes with their integers give
  pub record IsLatticeOfPrimes (s : Side) (Ps : List PrimeValue) (ms : List ℤ) (l : LatticeValue) : Type 0 where
    pub lattice : (D : Divisor (Functions k f.curve.fin)) → IsDivisorOfPrimes k f.curve Ps ms D
        → IsLatticeOfDivisor k f.curve s D l
    pub degree : pivot_degree_of l ≡ pivot_degree_of (order_on f s) -ℤ degree_on s Ps ms

  -- a basis of the lattices of D on both sides, in its one form, by ascending degrees; and the printed basis of L(D)
  pub record IsSpaceOfDivisor (D : Divisor (Functions k f.curve.fin)) (s : SpaceBasisValue) : Type 0 where
    pub fin : LatticeValue
    pub inf : LatticeValue
    pub finite : IsLatticeOfDivisor k f.curve Finite D fin
    pub infinite : IsLatticeOfDivisor k f.curve Infinite D inf
    pub form : IsSplitForm k f.curve fin inf s.split
    pub simultaneous :
        IsSimultaneousBasis (setting k f.curve.fin) D (map (function_of k f.curve.fin) s.split.basis) s.split.degrees
    pub lowest : All (IsLowestElem k.ops f.curve.fin.n) s.split.basis
    pub ascending : IsInOrder ◌≤ℤ◌ s.split.degrees
    pub sum :
        degree_sum f.curve.fin.n (entry (pos 0) s.split.degrees)
        ≡ (pivot_degree_of fin +ℤ pivot_degree_of inf)
        +ℤ pos (f.curve.c * (f.curve.fin.n * (f.curve.fin.n - 1)) / 2)
    pub printed : IsPrintedSpace k f.curve.fin (InSpace (setting k f.curve.fin) D) s.space
    pub elements : All (IsElem k.ops f.curve.fin.n) s.space.functions
    pub basis :
        IsSpaceBasis (setting k f.curve.fin) (InSpace (setting k f.curve.fin) D)
        (map (function_of k f.curve.fin) s.space.functions)
