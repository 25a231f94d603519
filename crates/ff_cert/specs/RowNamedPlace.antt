-- The answers of `place`: one of all places over a polynomial, or over infinity, which is bound to a name.
use Rattle.std.specs.Prelude.{◌≡◌, ◌↔◌, ℕ, List, [], ◌∷◌, ◌++◌}
use Rattle.std.specs.List.{Any}
use Rattle.ff_fields.specs.Field.{CodeField}
use Rattle.ff_fields.specs.FieldData.{FieldData}
use Rattle.function_field.specs.declared.side.Side.{Side}
use Rattle.function_field.specs.Values.{Functions}
use Rattle.function_field.specs.Curves.{CurveValue}
use Rattle.ff_lattice.specs.Lattices.{LatticeValue, IsLatticeValue, Contains, row_elems}
use Rattle.ff_lattice.specs.Colons.{IsColon}
use Rattle.value_theory.specs.IntegralLattices.{presentation, IsIntegralLattice}
use Rattle.value_theory.specs.Primes.{PrimeValue}
use Rattle.ff_script.specs.declared.script.Over.{Over}
use Rattle.ff_written.specs.Rows.{AreWrittenRows}
use Rattle.ff_meaning.specs.Bindings.{Bindings, Bound, with_places}
use Rattle.ff_cert.specs.declared.answer.PlaceLines.{PlaceLines}
use Rattle.ff_cert.specs.RowPlaces as places_row

module _ (k : CodeField) (c : CurveValue) (s : Side) (p : List ℕ) where
  -- Q is the place of these lines, over p on the side, with the lattice of its rows; the inverse lattice has all that
  -- takes this into the order of the side's integral functions
  pub record IsPlaceOfLines (P : PlaceLines) (Q : PrimeValue) : Type 0 where
    pub side : Q.side ≡ s
    pub over : Q.p ≡ p
    pub number : Q.number ≡ P.number
    pub e : Q.e ≡ P.e
    pub degree : Q.degree ≡ P.degree
    pub form : IsLatticeValue k.ops (presentation c s).n Q.rows
    pub rows : AreWrittenRows k c s (row_elems Q.rows) P.rows
    pub inverse_form : IsLatticeValue k.ops (presentation c s).n Q.inverse
    pub order : LatticeValue
    pub integral : IsIntegralLattice k c s order
    pub inverse : (z : Functions k (presentation c s))
        → Contains k (presentation c s) Q.inverse z ↔ IsColon k (presentation c s) order Q.rows z

-- P is the place with the number of all places over what is written, and it is bound to the name behind the others
pub record IsTrue (k : CodeField) (d : FieldData) (b : Bound) (name : List ℕ) (over : Over) (index : ℕ) (P : PlaceLines)
    (next : Bindings) : Type 0 where
  pub count : ℕ
  pub places : List PlaceLines
  pub all : places_row.IsTrue k b.curve over count places
  pub among : Any (λ Q. Q ≡ P) places
  pub number : P.number ≡ index
  pub place : PrimeValue
  pub is_place : IsPlaceOfLines k b.curve all.side all.p P place
  pub bound : next ≡ with_places d b.curve (b.places ++ record { name = name; place = place } ∷ [])
