-- A basis of the lattices of a divisor on both sides is a simultaneous basis of the divisor, and gives a basis of its
-- space over k.
use Rattle.std.proofs.Common.{◌≡◌, ◌↔◌, List}
use Rattle.std.proofs.Math.IntN.{ℤ, pos, ◌-ℤ◌}
use Rattle.ring_theory.specs.Subsets.{IsModule, Span}
use Rattle.ring_theory.proofs.Subsets.{span_least}
use Rattle.prime_theory.specs.Ideals.{SameSet}
use Rattle.ff_fields.specs.Field.{CodeField}
use Rattle.ff_fields.specs.Code.{code_ring}
use Rattle.ff_poly.specs.Polynomials.{polynomials}
use Rattle.function_field.specs.declared.side.Side.{Side}
use Rattle.function_field.specs.declared.side.Side.TheVariants.{Finite, Infinite}
use Rattle.function_field.specs.Discriminant.{discriminant}
use Rattle.function_field.specs.Places.{IsIntegralAt}
use Rattle.function_field.specs.Divisors.{Divisor, IsDivisor, MeetsOn, InSpace, IsSpaceBasis, SpansOnce, IsSimultaneousBasis}
use Rattle.function_field.specs.Functions.{Equation, FunctionOf, ring_of, setting_of, IsCode}
use Rattle.function_field.specs.InfiniteSpans.{InInfiniteSpan}
use Rattle.function_field.specs.Values.{Functions, setting, equation_of}
use Rattle.function_field.specs.Curves.{CurveValue, IsCurve}
use Rattle.linear_theory.specs.Lists.{entry}
use Rattle.lattice_theory.specs.Lattices.{polynomial_ops}
use Rattle.reduced_basis_theory.specs.Degree.{size}
use Rattle.reduced_basis_theory.specs.Reduced.{layers}
use Rattle.space_theory.specs.Spaces.{IsReducedBasis, IsBasisOfBoth}
use Rattle.space_theory.proofs.Laws.{basis_same, space_basis}
use Rattle.divisor_theory.proofs.Constants.{code_subring, code_on_both}
use Rattle.divisor_theory.proofs.Pairs.{allowed_at_infinity}
use Rattle.ff_lattice.specs.Lattices.{LatticeValue, Contains, row_elems}
use Rattle.pair_theory.specs.Pairs.{IsLatticeOfDivisor}
use Rattle.pair_theory.proofs.BothReduced.{both_reduced}
use Rattle.pair_theory.proofs.DivisorLattices.{lattice_members}
use Rattle.pair_theory.proofs.OneMore.{allowed_module}

module _ {k : CodeField} (c : Equation k) where
  spans_same : (s : Side) (V W : FunctionOf c → Type 0) → SameSet V W → (gs : List (FunctionOf c))
      → SpansOnce (setting_of c) s V gs → SpansOnce (setting_of c) s W gs
  spans_same s V W e gs h z = (λ m. (h z).0 ((e z).1 m), λ m. (e z).0 ((h z).1 m))

  module _ (some : ¬ (discriminant c ≡ (polynomials k).𝟘)) (D : Divisor (FunctionOf c))
      (is : IsDivisor (setting_of c) D) (bs : List (FunctionOf c)) (ds : List ℤ)
      (both : IsSimultaneousBasis (setting_of c) D bs ds) where
    -- a simultaneous basis is a reduced basis of what the divisor allows on the two sides
    pub simultaneous_reduced : IsReducedBasis c (MeetsOn (setting_of c) D Finite) (MeetsOn (setting_of c) D Infinite) bs
        (entry (pos 0) ds)
    simultaneous_reduced =
        both_reduced c (MeetsOn (setting_of c) D Finite) (MeetsOn (setting_of c) D Infinite)
        (allowed_at_infinity c some D is) bs ds
        (record { count = both.count; one_each = both.one_each; finite = both.finite; infinite = both.infinite })

    -- the x^j·b_i with 0 ≤ j ≤ -d_i are a basis of the space of the divisor
    pub space_layers : IsSpaceBasis (setting_of c) (InSpace (setting_of c) D)
        (layers (code_ring k) (polynomial_ops c) bs (λ i. size (pos 0 -ℤ entry (pos 0) ds i)))
    space_layers =
        basis_same c (λ z. MeetsOn (setting_of c) D Finite z × MeetsOn (setting_of c) D Infinite z)
        (InSpace (setting_of c) D)
        (λ z. (
          λ m s. elim s as (λ t. MeetsOn (setting_of c) D t z) [ Finite ↦ m.0 | Infinite ↦ m.1 ],
          λ m. (m Finite, m Infinite),
        )) _
        (space_basis c (MeetsOn (setting_of c) D Finite) (MeetsOn (setting_of c) D Infinite) bs (entry (pos 0) ds)
        simultaneous_reduced)

    space_module : IsModule (ring_of c).ops (IsCode c) (InSpace (setting_of c) D)
    space_module =
        let a = allowed_module c some D is in
        record {
          zero_in = λ s. (a s).zero_in;
          sum_in = λ u v m n s. (a s).sum_in u v (m s) (n s);
          scale_in = λ u v u_in m s.
              let t = code_on_both c u u_in in
              (a s).scale_in u v
              (elim s as (λ r. IsIntegralAt (setting_of c) r u) [ Finite ↦ t.0 | Infinite ↦ t.1 ]) (m s);
        }

    pub space_spanned : (z : FunctionOf c)
        → Span (ring_of c).ops (IsCode c)
        (layers (code_ring k) (polynomial_ops c) bs (λ i. size (pos 0 -ℤ entry (pos 0) ds i))) z
        ↔ InSpace (setting_of c) D z
    space_spanned z = (
      span_least (ring_of c) (IsCode c) (code_subring c) (InSpace (setting_of c) D) space_module _
          space_layers.members z,
      space_layers.spanning z,
    )

-- a basis of both lattices of a divisor
module _ (k : CodeField) (c : CurveValue) (curve : IsCurve k c) (D : Divisor (Functions k c.fin))
    (fin inf : LatticeValue) (finite : IsLatticeOfDivisor k c Finite D fin)
    (infinite : IsLatticeOfDivisor k c Infinite D inf) where
  pub simultaneous : (bs : List (Functions k c.fin)) (ds : List ℤ)
      → IsBasisOfBoth (equation_of k c.fin) (Contains k c.fin fin) (InInfiniteSpan k c.fin c.c (row_elems inf)) bs ds
      → IsSimultaneousBasis (setting k c.fin) D bs ds
  simultaneous bs ds both = record {
    count = both.count;
    one_each = both.one_each;
    finite =
        spans_same (equation_of k c.fin) Finite (Contains k c.fin fin) (MeetsOn (setting k c.fin) D Finite)
        (lattice_members k c curve D fin finite) bs both.finite;
    infinite =
        spans_same (equation_of k c.fin) Infinite (InInfiniteSpan k c.fin c.c (row_elems inf))
        (MeetsOn (setting k c.fin) D Infinite) infinite.span _ both.infinite;
  }
