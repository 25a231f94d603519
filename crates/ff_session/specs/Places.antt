-- The primes of the order of a side's integral functions, as places with their lines.
use Rattle.std.specs.Prelude.{◌≡◌, ℕ, ◌<◌, ◌⊎◌, List, All}
use Rattle.std.specs.List.{AllZip}
use Rattle.ff_fields.specs.Field.{CodeField}
use Rattle.function_field.specs.declared.side.Side.{Side}
use Rattle.function_field.specs.Curves.{CurveValue}
use Rattle.ff_lattice.specs.Lattices.{LatticeValue, row_elems}
use Rattle.value_theory.specs.IntegralLattices.{presentation, IsIntegralLattice}
use Rattle.value_theory.specs.Primes.{PrimeValue, AreAllPrimes}
use Rattle.ff_written.specs.Rows.{AreWrittenRows}
use Rattle.ff_places.specs.Numbers.{NumberedFrom, AreInOrder}
use Rattle.ff_meaning.specs.declared.refusal.Refusal.{Refusal}
use Rattle.ff_meaning.specs.declared.refusal.Refusal.TheVariants.{NoSuchPlace}
use Rattle.ff_cert.specs.declared.answer.PlaceLines.{PlaceLines}
use Rattle.ff_cert.specs.RowPlaces.{AreAllPlaces}

module _ (k : CodeField) (c : CurveValue) (s : Side) where
  -- all primes over p, by the texts of their rows, numbered from 1
  pub record ArePrimesOver (p : List ℕ) (Ps : List PrimeValue) : Type 0 where
    pub order : LatticeValue
    pub integral : IsIntegralLattice k c s order
    pub primes : AreAllPrimes k (presentation c s) order p Ps
    pub sides : All (λ P. P.side ≡ s) Ps
    pub in_order : AreInOrder k c s Ps
    pub numbers : NumberedFrom 1 Ps

  -- its numbers, and its rows as they are printed
  pub record AreLinesOf (P : PrimeValue) (L : PlaceLines) : Type 0 where
    pub number : L.number ≡ P.number
    pub e : L.e ≡ P.e
    pub degree : L.degree ≡ P.degree
    pub rows : AreWrittenRows k c s (row_elems P.rows) L.rows

  -- all places over p as primes and as lines, one by one
  pub record AreListedPlaces (p : List ℕ) (Ps : List PrimeValue) (Ls : List PlaceLines) : Type 0 where
    pub primes : ArePrimesOver p Ps
    pub lines : AllZip AreLinesOf Ps Ls
    pub all : AreAllPlaces k c s p Ls

-- the number is 0 or above the count, and both are told
pub record IsNoNumber (count index : ℕ) (r : Refusal) : Type 0 where
  pub outside : (index ≡ 0) ⊎ (count < index)
  pub is : r ≡ NoSuchPlace index count
