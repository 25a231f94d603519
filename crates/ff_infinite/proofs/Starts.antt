-- The lattice of the unit rows, as the order that the infinite side begins with.
use Rattle.std.proofs.Common.{◌≡◌, ◌↔◌, ℕ, ◌<◌, [], ◌∷◌, ap, subst, ◌∙◌}
use Rattle.ff_fields.specs.Field.{CodeField}
use Rattle.ff_poly.specs.Polynomials.{x_poly}
use Rattle.function_field.specs.Values.{PresValue, Functions, equation_of}
use Rattle.trace_theory.specs.Traces.{HasPolynomialCoordinates}
use Rattle.infinite_theory.specs.Supported.{IsSupportedAt}
use Rattle.infinite_theory.proofs.InfiniteTransport.{x_irreducible}
use Rattle.infinite_theory.proofs.SupportedLattices.{coordinates_supported}
use Rattle.ff_lattice.specs.Lattices.{LatticeValue, IsLatticeValue, IsSpannedBy, Contains, elems_over}
use Rattle.ff_lattice.specs.Orders.{IsOrderLattice}
use Rattle.ff_lattice.specs.Units.{unit_rows}
use Rattle.value_theory.proofs.UnitRows.{coordinate_lattice, coordinate_order}

-- an order of the functions with polynomials as coordinates, which differs from them at the variable alone
pub record IsStart (k : CodeField) (q : PresValue) (l : LatticeValue) : Type 0 where
  pub order : IsOrderLattice k q l
  pub members : (z : Functions k q) → Contains k q l z ↔ HasPolynomialCoordinates (equation_of k q) z
  pub tame : IsSupportedAt (equation_of k q) (x_poly k) (Contains k q l)

-- what the unit rows span, in the words of the presentation q' that the calls are given
pub started : (k : CodeField) (q q' : PresValue) (n : ℕ) (l : LatticeValue) → q' ≡ q → n ≡ q'.n → 0 < q'.n
    → IsLatticeValue k.ops n l → IsSpannedBy k n (elems_over (unit_rows n n) (1 ∷ [])) l → IsStart k q l
started k q q' n l same n_is positive form spanned = record {
  order = coordinate_order k q some l (subst (λ m. IsLatticeValue k.ops m l) size form) unit_spanned;
  members = members;
  tame =
      let t = coordinates_supported (equation_of k q) (x_poly k) (x_irreducible k) in
      record {
        exponent = t.exponent;
        has = λ i less. (members _).1 (t.has i less);
        within = λ z m. t.within z ((members z).0 m);
      };
}
  where
    size : n ≡ q.n
    size = n_is ∙ ap (λ p. p.n) same

    some : 0 < q.n
    some = subst (λ p. 0 < p.n) same positive

    unit_spanned : IsSpannedBy k q.n (elems_over (unit_rows q.n q.n) (1 ∷ [])) l
    unit_spanned = subst (λ m. IsSpannedBy k m (elems_over (unit_rows m m) (1 ∷ [])) l) size spanned

    members : (z : Functions k q) → Contains k q l z ↔ HasPolynomialCoordinates (equation_of k q) z
    members = coordinate_lattice k q some l unit_spanned
