-- The index of a product of powers of infinite places, relative to O_inf, is its degree; and such indices are one
-- number.
use Rattle.std.proofs.Common.{◌≡◌, ℕ, List, ◌++◌, All, arith}
use Rattle.std.proofs.lemmas.Int.{ints}
use Rattle.std.proofs.Math.IntN.{ℤ, pos, ◌+ℤ◌, ◌-ℤ◌}
use Rattle.ring_theory.specs.Subsets.{Span}
use Rattle.ring_theory.proofs.Subsets.{span_append_left, span_append_right}
use Rattle.prime_theory.proofs.Lists.{both}
use Rattle.ff_fields.specs.Field.{CodeField}
use Rattle.ff_fields.specs.Code.{code_ring, code_field}
use Rattle.ff_poly.specs.Polynomials.{polynomials}
use Rattle.function_field.specs.declared.side.Side.TheVariants.{Infinite}
use Rattle.function_field.specs.Places.{IsPlace, IsIntegralAt}
use Rattle.function_field.specs.Divisors.{Divisor, HasTotalDegree}
use Rattle.function_field.specs.Functions.{Equation, FunctionOf, ring_of, setting_of, degree_of_y, IsFiniteAtInfinity}
use Rattle.function_field.specs.Discriminant.{discriminant}
use Rattle.function_field.proofs.ScalarRings.{finite_at_infinity_subring}
use Rattle.lattice_theory.specs.Lattices.{IsLattice}
use Rattle.trace_theory.specs.Traces.{HasPolynomialCoordinates}
use Rattle.lattice_theory.proofs.Operations.{polynomial_lattice}
use Rattle.reduced_basis_theory.specs.Degree.{degree_sum}
use Rattle.ideal_theory.specs.Ideals.{IsDivisorOn, DivisorIdeal}
use Rattle.reduced_basis_theory.proofs.Compare.{same_degree_sum}
use Rattle.space_theory.specs.Spaces.{IsLatticeAtInfinity, IsReducedBasis, multiples_of}
use Rattle.space_theory.proofs.AtInfinity.{integral_at_infinity}
use Rattle.space_theory.proofs.FunctionModule.{functions_module}
use Rattle.space_theory.proofs.InfiniteIndices.{infinite_index, infinite_index_degrees}
use Rattle.space_theory.proofs.Pairs.{reduced_basis}
use Rattle.divisor_theory.specs.Indices.{HasIndexAtInfinity}
use Rattle.divisor_theory.proofs.InvertibleAtInfinity.{invertible_lattice, ring_invertible}
use Rattle.divisor_theory.proofs.DegreesAtInfinity.{degree_over, ideal_degree, total_degree_at_infinity}

module _ {k : CodeField} (c : Equation k) where
  abbrev Spanned : List (FunctionOf c) → FunctionOf c → Type 0
  Spanned = Span (ring_of c).ops (IsFiniteAtInfinity c)

  -- an index relative to another is the difference of the sums of degrees
  pub relative_degrees : (A B : FunctionOf c → Type 0) → IsLatticeAtInfinity c A → IsLatticeAtInfinity c B → (m : ℤ)
      → HasIndexAtInfinity c A B m
      → (I : FunctionOf c → Type 0) → IsLattice c I → (a b : List (FunctionOf c)) (d e : ℕ → ℤ)
      → IsReducedBasis c I A a d → IsReducedBasis c I B b e
      → m ≡ degree_sum (degree_of_y c) d -ℤ degree_sum (degree_of_y c) e
  relative_degrees A B 𝓐 𝓑 m h I 𝓘 a b d e reduced reduced' =
      let r = reduced_basis c I (Spanned h.larger) 𝓘 h.lattice in
      let f = infinite_index_degrees c A (Spanned h.larger) 𝓐 h.lattice h.has_first I a r.0 d r.1 reduced r.2 h.first
      h.first_index in
      let g = infinite_index_degrees c B (Spanned h.larger) 𝓑 h.lattice h.has_second I b r.0 e r.1 reduced' r.2
      h.second h.second_index in
      let i : m ≡ pos h.first -ℤ pos h.second = h.is in
      omega (arith, ints)

  -- so it is one number
  pub relative_once : (A B : FunctionOf c → Type 0) → IsLatticeAtInfinity c A → IsLatticeAtInfinity c B → (m n : ℤ)
      → HasIndexAtInfinity c A B m
      → HasIndexAtInfinity c A B n → m ≡ n
  relative_once A B 𝓐 𝓑 m n h i =
      let P = HasPolynomialCoordinates c in
      let 𝓟 = polynomial_lattice c in
      let r = reduced_basis c P A 𝓟 𝓐 in
      let s = reduced_basis c P B 𝓟 𝓑 in
      let f = relative_degrees A B 𝓐 𝓑 m h P 𝓟 r.0 s.0 r.1 s.1 r.2 s.2 in
      let g = relative_degrees A B 𝓐 𝓑 n i P 𝓟 r.0 s.0 r.1 s.1 r.2 s.2 in
      omega (arith, ints)

  -- each pair of lattices at infinity has one, by the sums of degrees with any lattice
  pub relative_by_degrees : (A B : FunctionOf c → Type 0) → IsLatticeAtInfinity c A → IsLatticeAtInfinity c B
      → (I : FunctionOf c → Type 0) → IsLattice c I → (a b : List (FunctionOf c)) (d e : ℕ → ℤ)
      → IsReducedBasis c I A a d → IsReducedBasis c I B b e
      → (m : ℤ) → m ≡ degree_sum (degree_of_y c) d -ℤ degree_sum (degree_of_y c) e → HasIndexAtInfinity c A B m
  relative_by_degrees A B 𝓐 𝓑 I 𝓘 a b d e reduced reduced' m is =
      let r = reduced_basis c I (Spanned gs) 𝓘 𝓛 in
      let i = infinite_index c A (Spanned gs) 𝓐 𝓛 in_first in
      let j = infinite_index c B (Spanned gs) 𝓑 𝓛 in_second in
      let f = infinite_index_degrees c A (Spanned gs) 𝓐 𝓛 in_first I a r.0 d r.1 reduced r.2 i.0 i.1 in
      let g = infinite_index_degrees c B (Spanned gs) 𝓑 𝓛 in_second I b r.0 e r.1 reduced' r.2 j.0 j.1 in
      record {
        larger = gs;
        lattice = 𝓛;
        has_first = in_first;
        has_second = in_second;
        first = i.0;
        first_index = i.1;
        second = j.0;
        second_index = j.1;
        is = omega (arith, ints);
      }
    where
      gs : List (FunctionOf c)
      gs = 𝓐.generators ++ 𝓑.generators

      in_first : (z : FunctionOf c) → A z → Spanned gs z
      in_first z m =
          span_append_left (ring_of c) (IsFiniteAtInfinity c) (finite_at_infinity_subring c) 𝓐.generators
          𝓑.generators z ((𝓐.spanned z).0 m)

      in_second : (z : FunctionOf c) → B z → Spanned gs z
      in_second z m =
          span_append_right (ring_of c) (IsFiniteAtInfinity c) (finite_at_infinity_subring c) 𝓐.generators
          𝓑.generators z ((𝓑.spanned z).0 m)

      𝓛 : IsLatticeAtInfinity c (Spanned gs)
      𝓛 = record {
        generators = gs;
        spanned = λ z. (λ m. m, λ m. m);
        exponent = 𝓐.exponent;
        taken = λ z. in_first _ (𝓐.taken z);
      }

  module _ (some : ¬ (discriminant c ≡ (polynomials k).𝟘)) (D : Divisor (FunctionOf c))
      (on : IsDivisorOn (setting_of c) Infinite D) where
    pub all_on : All (λ e. IsPlace (setting_of c) e.place × (e.place.side ≡ Infinite)) D
    all_on = both (λ e. IsPlace (setting_of c) e.place) (λ e. e.place.side ≡ Infinite) D on.divisor.places on.sides

    pub divisor_lattice_at_infinity : IsLatticeAtInfinity c (DivisorIdeal (setting_of c) Infinite D)
    divisor_lattice_at_infinity =
        let d = total_degree_at_infinity c some D all_on in
        let t = ideal_degree c some (HasPolynomialCoordinates c) (polynomial_lattice c) D d.0 all_on d.1 in
        invertible_lattice c (DivisorIdeal (setting_of c) Infinite D) t.0 some

    -- the sum of degrees with any lattice
    pub ideal_degrees : (d : ℤ) → HasTotalDegree (setting_of c) D d → (I : FunctionOf c → Type 0) → IsLattice c I
        → (a b : List (FunctionOf c)) (f g : ℕ → ℤ)
        → IsReducedBasis c I (DivisorIdeal (setting_of c) Infinite D) a f
        → IsReducedBasis c I (IsIntegralAt (setting_of c) Infinite) b g
        → degree_sum (degree_of_y c) f ≡ degree_sum (degree_of_y c) g +ℤ d
    unfolding degree_over
    ideal_degrees d total I 𝓘 a b f g reduced reduced' =
        let A = DivisorIdeal (setting_of c) Infinite D in
        let B = IsIntegralAt (setting_of c) Infinite in
        let t = ideal_degree c some I 𝓘 D d all_on total in
        let r = reduced_basis c I A 𝓘 (invertible_lattice c A t.0 some) in
        let s = reduced_basis c I B 𝓘 (invertible_lattice c B (ring_invertible c some) some) in
        let e : degree_sum (degree_of_y c) r.1 ≡ degree_sum (degree_of_y c) s.1 +ℤ d = t.1 in
        let h = same_degree_sum (code_ring k) (code_field k) (functions_module c) (degree_of_y c) I
        (multiples_of c A) a r.0 f r.1 reduced r.2 in
        let i = same_degree_sum (code_ring k) (code_field k) (functions_module c) (degree_of_y c) I
        (multiples_of c B) b s.0 g s.1 reduced' s.2 in
        omega (arith, ints)

    pub ideal_index_at_infinity : (d : ℤ) → HasTotalDegree (setting_of c) D d
        → HasIndexAtInfinity c (DivisorIdeal (setting_of c) Infinite D) (IsIntegralAt (setting_of c) Infinite) d
    ideal_index_at_infinity d total =
        let A = DivisorIdeal (setting_of c) Infinite D in
        let B = IsIntegralAt (setting_of c) Infinite in
        let P = HasPolynomialCoordinates c in
        let 𝓟 = polynomial_lattice c in
        let 𝓐 = divisor_lattice_at_infinity in
        let 𝓑 = integral_at_infinity c some in
        let r = reduced_basis c P A 𝓟 𝓐 in
        let s = reduced_basis c P B 𝓟 𝓑 in
        let e = ideal_degrees d total P 𝓟 r.0 s.0 r.1 s.1 r.2 s.2 in
        relative_by_degrees A B 𝓐 𝓑 P 𝓟 r.0 s.0 r.1 s.1 r.2 s.2 d (omega (arith, ints))
