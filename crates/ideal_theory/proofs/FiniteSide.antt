-- The finite side: its places are invertible primes of the maximal order, so the ideal of a divisor is its conditions
-- at the finite places.
use Rattle.std.proofs.Common.{◌≡◌, ◌↔◌, inl}
use Rattle.prime_theory.specs.Ideals.{Invertible}
use Rattle.ff_fields.specs.Field.{CodeField}
use Rattle.ff_poly.specs.Polynomials.{polynomials}
use Rattle.function_field.specs.declared.side.Side.TheVariants.{Finite}
use Rattle.function_field.specs.Places.{Place, IsPlace, IsIn}
use Rattle.function_field.specs.Divisors.{Divisor}
use Rattle.function_field.specs.Functions.{Equation, FunctionOf, ring_of, setting_of}
use Rattle.function_field.specs.Discriminant.{discriminant}
use Rattle.function_field.proofs.ScalarRings.{scalars_subring}
use Rattle.order_theory.specs.Orders.{IsOrder}
use Rattle.order_theory.proofs.IntegralLattice.{integral_lattice, integral_subring}
use Rattle.order_theory.proofs.FinitePlaces.{Int}
use Rattle.order_theory.proofs.InvertibleIdeals.{lattice_invertible}
use Rattle.order_theory.proofs.SideOfPlaces.{lattice_of_place, prime_of_place, regular_functions}
use Rattle.ideal_theory.specs.Ideals.{IsDivisorOn, DivisorIdeal, HasValuesOf}
use Rattle.ideal_theory.proofs.DivisorIdeals.{by_values}

module _ {k : CodeField} (c : Equation k) (some : ¬ (discriminant c ≡ (polynomials k).𝟘)) where
  pub maximal_order : IsOrder c (Int c)
  maximal_order = record { lattice = integral_lattice c some; ring = integral_subring c }

  pub finite_invertible : (P : Place (FunctionOf c)) → IsPlace (setting_of c) P → P.side ≡ Finite
      → Invertible (ring_of c).ops (Int c) (IsIn (setting_of c) P)
  finite_invertible P place e =
      let 𝓟 = (prime_of_place c P place e).ideal in
      lattice_invertible c (Int c) maximal_order (IsIn (setting_of c) P) (lattice_of_place c P place e)
      (record { zero_in = 𝓟.zero_in; sum_in = 𝓟.sum_in; scale_in = 𝓟.scale_in }) (λ p h. inl (λ z n m i. m))

  pub finite_by_values : (D : Divisor (FunctionOf c)) → IsDivisorOn (setting_of c) Finite D → (z : FunctionOf c)
      → DivisorIdeal (setting_of c) Finite D z ↔ HasValuesOf (setting_of c) Finite D z
  finite_by_values D on z =
      by_values (setting_of c) (scalars_subring c) Finite (λ P place e. prime_of_place c P place e) finite_invertible
      D on
      (λ z h. (regular_functions c z some).0 h) z
