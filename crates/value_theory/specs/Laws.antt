-- The theorems on lattices of codes in the words of the theory, as records.
use Rattle.std.specs.Prelude.{◌≡◌, ◌↔◌, ℕ, ◌-ℤ◌, List, [], ◌∷◌, map}
use Rattle.ring_theory.specs.Subsets.{IsModule}
use Rattle.prime_theory.specs.Ideals as theory_ideals
use Rattle.prime_theory.specs.Places.{IsMaximalIdeal}
use Rattle.trace_theory.specs.Traces.{HasPolynomialCoordinates}
use Rattle.ff_fields.specs.Field.{CodeField}
use Rattle.ff_poly.specs.Value.{value}
use Rattle.ff_poly.specs.Polynomials.{polynomials}
use Rattle.ff_falg.specs.Algebras.{IsFieldAlgebra}
use Rattle.function_field.specs.Discriminant.{discriminant}
use Rattle.function_field.specs.Values.{PresValue, Functions, functions, function_of, equation_of}
use Rattle.ideal_theory.specs.Indices.{HasRelativeIndex}
use Rattle.ideal_theory.specs.Records.{RecordedPrime, IsRecordAt, ArePrimesOfPlaces}
use Rattle.ff_lattice.specs.Lattices.{LatticeValue, IsLatticeValue, Contains, row_elems, pivot_degree_of}
use Rattle.ff_lattice.specs.Quotients.{QuotientValue, IsIdealLattice, class_algebra}
use Rattle.value_theory.specs.Primes.{PrimeValue}

-- the rows of a lattice, as functions
abbrev pub row_functions : (k : CodeField) (p : PresValue) → LatticeValue → List (Functions k p)
row_functions k p l = map (function_of k p) (row_elems l)

module _ (k : CodeField) (p : PresValue) where
  -- the index of a lattice relative to another and to k[x][y] by pivot degrees
  pub record IndicesByDegrees : Type 0 where
    pub relative :
        (a b : LatticeValue) → IsLatticeValue k.ops p.n a → IsLatticeValue k.ops p.n b
        → HasRelativeIndex (equation_of k p) (Contains k p a) (Contains k p b) (pivot_degree_of a -ℤ pivot_degree_of b)
    pub coordinates :
        (a : LatticeValue) → IsLatticeValue k.ops p.n a
        → HasRelativeIndex (equation_of k p) (Contains k p a) (HasPolynomialCoordinates (equation_of k p))
        (pivot_degree_of a)

  -- an ideal of an order of codes is one of the theory, and a module over the order
  pub record IdealsAsSets : Type 0 where
    pub ideal : (o i : LatticeValue) → IsIdealLattice k p o i
        → theory_ideals.IsIdeal (functions k p).ops (Contains k p o) (Contains k p i)
    pub module_is : (o i : LatticeValue) → IsIdealLattice k p o i
        → IsModule (functions k p).ops (Contains k p o) (Contains k p i)

  -- the record of a prime: its rows and those of its inverse, with its ramification index and its degree
  pub record IsRecordOf (o : LatticeValue) (P : PrimeValue) (R : RecordedPrime (equation_of k p) (Contains k p o)) :
      Type 0 where
    pub rows : R.rows ≡ row_functions k p P.rows
    pub inverse_rows : R.inverse_rows ≡ row_functions k p P.inverse
    pub exponent : R.exponent ≡ P.e
    pub degree : R.degree ≡ P.degree

  -- the records of the primes of a list, each in its position
  abbrev pub AreRecordsOf : (o : LatticeValue) → List PrimeValue
      → List (RecordedPrime (equation_of k p) (Contains k p o)) → Type 0
  AreRecordsOf o [] [] = Unit {0}
  AreRecordsOf o [] (R ∷ Rs) = ⊥
  AreRecordsOf o (P ∷ Ps) [] = ⊥
  AreRecordsOf o (P ∷ Ps) (R ∷ Rs) = IsRecordOf o P R × AreRecordsOf o Ps Rs

  -- they are a record of primes over the polynomial, and those of the places over it where the discriminant isn't 0
  pub record IsRecordOfPrimes (o : LatticeValue) (pi : List ℕ) (Ps : List PrimeValue)
      (Rs : List (RecordedPrime (equation_of k p) (Contains k p o))) : Type 0 where
    pub each : AreRecordsOf o Ps Rs
    pub record_is : IsRecordAt (equation_of k p) (Contains k p o) (value k pi) Rs
    pub places :
        ¬ (discriminant (equation_of k p) ≡ (polynomials k).𝟘)
        → ArePrimesOfPlaces (equation_of k p) (Contains k p o) (value k pi) Rs

-- the order modulo an ideal is a field exactly where the ideal is maximal
abbrev pub FieldsAndMaximalIdeals : (k : CodeField) → QuotientValue → Type 0
FieldsAndMaximalIdeals k q =
    IsFieldAlgebra k.ops (class_algebra q)
    ↔ IsMaximalIdeal (functions k q.p).ops (Contains k q.p q.order) (Contains k q.p q.ideal)
