-- Each pair of a lattice and a lattice at infinity has a reduced basis.
use Rattle.std.proofs.Common.{◌≡◌, ℕ, ℤ, pos, List}
use Rattle.ff_fields.specs.Field.{CodeField}
use Rattle.ff_fields.specs.Code.{code_ring, code_field}
use Rattle.ff_poly.specs.Polynomials.{polynomials}
use Rattle.function_field.specs.declared.side.Side.TheVariants.{Finite, Infinite}
use Rattle.function_field.specs.Discriminant.{discriminant}
use Rattle.function_field.specs.Places.{IsIntegralAt}
use Rattle.function_field.specs.Functions.{Equation, FunctionOf, setting_of}
use Rattle.lattice_theory.specs.Lattices.{IsLattice}
use Rattle.reduced_basis_theory.proofs.Existence.{existence}
use Rattle.space_theory.specs.Spaces.{IsLatticeAtInfinity, multiples_of, IsReducedBasis}
use Rattle.space_theory.proofs.FunctionModule.{functions_module}
use Rattle.order_theory.proofs.IntegralLattice.{integral_lattice}
use Rattle.space_theory.proofs.AtInfinity.{integral_at_infinity}
use Rattle.space_theory.proofs.LatticeBases.{basis_of_lattice}
use Rattle.space_theory.proofs.InfiniteBases.{infinite_basis}

module _ {k : CodeField} (c : Equation k) (I N : FunctionOf c → Type 0) (𝓘 : IsLattice c I)
    (𝓝 : IsLatticeAtInfinity c N) where
  pub reduced_basis : (b : List (FunctionOf c)) × (d : ℕ → ℤ) × IsReducedBasis c I N b d
  reduced_basis =
      let h = infinite_basis c N 𝓝 in
      let g = basis_of_lattice c I 𝓘 in
      let r = existence (code_ring k) (code_field k) (functions_module c) c.lower_degree (multiples_of c N)
      h.functions (λ i. pos 0) h.is I g.0 g.1 in
      (r.basis, r.degrees, r.is)

-- one of O_fin and O_inf
module _ {k : CodeField} (c : Equation k) (some : ¬ (discriminant c ≡ (polynomials k).𝟘)) where
  pub sides_basis : (b : List (FunctionOf c)) × (d : ℕ → ℤ)
      × IsReducedBasis c (IsIntegralAt (setting_of c) Finite) (IsIntegralAt (setting_of c) Infinite) b d
  sides_basis =
      reduced_basis c (IsIntegralAt (setting_of c) Finite) (IsIntegralAt (setting_of c) Infinite)
      (integral_lattice c some) (integral_at_infinity c some)
