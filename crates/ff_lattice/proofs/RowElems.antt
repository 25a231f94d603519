-- The rows of a lattice as elements.
use Rattle.std.proofs.Common.{◌≡◌, ℕ, zero, suc, ◌<◌, List, [], ◌∷◌, length, refl, arith, Some}
use Rattle.std.specs.Prelude.{slice_get}
use Rattle.std.proofs.lemmas.List.{length-map}
use Rattle.ff_poly.specs.Popov.{row_at}
use Rattle.function_field.specs.Values.{ElemValue}
use Rattle.ff_lattice.specs.Lattices.{LatticeValue, elems_over, row_elems}

pub elem_at : (rows : List (List (List ℕ))) (den : List ℕ) (i : ℕ) → i < length rows
    → slice_get (elems_over rows den) i ≡ Some (record { num = row_at rows i; den = den })
elem_at [] den i less = absurd (omega (arith, less))
elem_at (row ∷ rows) den zero less = refl
elem_at (row ∷ rows) den (suc i) less = elem_at rows den i (omega (arith, less))

pub elems_length : (l : LatticeValue) → length (row_elems l) ≡ length l.rows
elems_length l = length-map {B = ElemValue} l.rows (λ v. record { num = v; den = l.den })
