-- The pair of a divisor: what it allows at the finite places is a lattice, what it allows at the infinite ones a
-- lattice at infinity, and the sum of degrees of the pair is that of (O_fin, O_inf) less the degree of the divisor.
use Rattle.std.proofs.Common.{◌≡◌, ℕ, List, refl, sym, ◌∙◌, ap, arith}
use Rattle.std.specs.Prelude.{neg_ℤ}
use Rattle.std.proofs.lemmas.Int.{ints}
use Rattle.std.proofs.Math.IntN.{ℤ, pos, ◌+ℤ◌, ◌-ℤ◌}
use Rattle.ring_theory.specs.Subsets.{Span}
use Rattle.prime_theory.specs.Ideals.{SameSet}
use Rattle.ff_fields.specs.Field.{CodeField}
use Rattle.ff_fields.specs.Code.{code_ring, code_field}
use Rattle.ff_poly.specs.Polynomials.{polynomials}
use Rattle.function_field.specs.declared.side.Side.{Side}
use Rattle.function_field.specs.declared.side.Side.TheVariants.{Finite, Infinite}
use Rattle.function_field.specs.Discriminant.{discriminant}
use Rattle.function_field.specs.Places.{IsIntegralAt}
use Rattle.function_field.specs.Divisors.{Divisor, IsDivisor, HasTotalDegree, MeetsOn}
use Rattle.function_field.specs.Functions.{Equation, FunctionOf, ring_of, setting_of, degree_of_y, IsPolynomial}
use Rattle.function_field.specs.Indices.{HasIndex}
use Rattle.lattice_theory.specs.Lattices.{IsLattice}
use Rattle.order_theory.proofs.IntegralLattice.{integral_lattice}
use Rattle.order_theory.proofs.IndexProducts.{lattice_same}
use Rattle.reduced_basis_theory.specs.Degree.{degree_sum}
use Rattle.reduced_basis_theory.proofs.Laws.{lattice_dimension}
use Rattle.reduced_basis_theory.proofs.Transport.{reduced_same}
use Rattle.ideal_theory.specs.Ideals.{IsDivisorOn, DivisorIdeal, opposite_divisor}
use Rattle.ideal_theory.specs.Indices.{HasRelativeIndex}
use Rattle.ideal_theory.proofs.DivisorIdeals.{opposite_on}
use Rattle.ideal_theory.proofs.FiniteSide.{maximal_order}
use Rattle.ideal_theory.proofs.SideIdeals.{space_conditions, divisor_lattice, divisor_index}
use Rattle.space_theory.specs.Spaces.{IsLatticeAtInfinity, IsReducedBasis, multiples_of}
use Rattle.space_theory.proofs.FunctionModule.{functions_module}
use Rattle.space_theory.proofs.Pairs.{reduced_basis}
use Rattle.divisor_theory.specs.Parts.{part}
use Rattle.divisor_theory.proofs.Parts.{part_on, meets_part, part_degrees, opposite_degree}
use Rattle.divisor_theory.proofs.IndexAtInfinity.{divisor_lattice_at_infinity, ideal_degrees}

module _ {k : CodeField} (c : Equation k) where
  pub at_infinity_same : (X Y : FunctionOf c → Type 0) → SameSet X Y → IsLatticeAtInfinity c X → IsLatticeAtInfinity c Y
  at_infinity_same X Y s 𝓧 = record {
    generators = 𝓧.generators;
    spanned = λ z. (λ h. (𝓧.spanned z).0 ((s z).1 h), λ h. (s z).0 ((𝓧.spanned z).1 h));
    exponent = 𝓧.exponent;
    taken = λ z. (s _).0 (𝓧.taken z);
  }

  pub pair_same : (I I' N N' : FunctionOf c → Type 0) → SameSet I I' → SameSet N N'
      → (b : List (FunctionOf c)) (d : ℕ → ℤ) → IsReducedBasis c I N b d
      → IsReducedBasis c I' N' b d
  pair_same I I' N N' s t b d reduced =
      reduced_same (code_ring k) (functions_module c) (degree_of_y c) I I' (multiples_of c N) (multiples_of c N') b d
      d s (λ m z. t _) (λ i. refl) reduced

  -- the index of a lattice in a larger one, by the sums of degrees with any lattice at infinity
  index_degrees : (A B : FunctionOf c → Type 0) → ((z : FunctionOf c) → A z → B z) → (g : ℕ) → HasIndex c A B g
      → (N : FunctionOf c → Type 0)
      → (a b : List (FunctionOf c)) (d e : ℕ → ℤ) → IsReducedBasis c A N a d → IsReducedBasis c B N b e
      → pos g ≡ degree_sum (degree_of_y c) d -ℤ degree_sum (degree_of_y c) e
  index_degrees A B within g i N a b d e reduced reduced' =
      let h = lattice_dimension (code_ring k) (code_field k) (functions_module c) (degree_of_y c) B A
      (multiples_of c N) b a e d reduced' reduced within in
      ap pos (sym i.count) ∙ h.only_size i.basis i.is

  pub lattice_degrees : (A B : FunctionOf c → Type 0) (m : ℤ) → HasRelativeIndex c A B m
      → (N : FunctionOf c → Type 0) → IsLatticeAtInfinity c N
      → (a b : List (FunctionOf c)) (d e : ℕ → ℤ) → IsReducedBasis c A N a d → IsReducedBasis c B N b e
      → m ≡ degree_sum (degree_of_y c) d -ℤ degree_sum (degree_of_y c) e
  lattice_degrees A B m h N 𝓝 a b d e reduced reduced' =
      let L : FunctionOf c → Type 0 = Span (ring_of c).ops (IsPolynomial c) h.larger in
      let r = reduced_basis c L N h.lattice 𝓝 in
      let f = index_degrees A L h.has_first h.first h.first_index N a r.0 d r.1 reduced r.2 in
      let g = index_degrees B L h.has_second h.second h.second_index N b r.0 e r.1 reduced' r.2 in
      let i : m ≡ pos h.first -ℤ pos h.second = h.is in
      omega (arith, ints)

  module _ (some : ¬ (discriminant c ≡ (polynomials k).𝟘)) (D : Divisor (FunctionOf c))
      (is : IsDivisor (setting_of c) D) where
    abbrev Opposite : Side → Divisor (FunctionOf c)
    Opposite s = opposite_divisor (part s D)

    on : (s : Side) → IsDivisorOn (setting_of c) s (Opposite s)
    on s = opposite_on (setting_of c) s (part s D) (part_on (setting_of c) s D is)

    -- what D allows on a side is the ideal of the opposite of its part there
    pub conditions : (s : Side)
        → SameSet (DivisorIdeal (setting_of c) s (opposite_divisor (part s D))) (MeetsOn (setting_of c) D s)
    conditions s z =
        let a = space_conditions c some s (part s D) (part_on (setting_of c) s D is) z in
        let b = meets_part (setting_of c) s D z in
        (λ h. b.1 (a.0 h), λ h. a.1 (b.0 h))

    pub allowed_lattice : IsLattice c (MeetsOn (setting_of c) D Finite)
    allowed_lattice =
        lattice_same c (IsIntegralAt (setting_of c) Finite) (maximal_order c some) _
        (MeetsOn (setting_of c) D Finite) (conditions Finite)
        (divisor_lattice c some (Opposite Finite) (on Finite))

    pub allowed_at_infinity : IsLatticeAtInfinity c (MeetsOn (setting_of c) D Infinite)
    allowed_at_infinity =
        at_infinity_same _ (MeetsOn (setting_of c) D Infinite) (conditions Infinite)
        (divisor_lattice_at_infinity c some (Opposite Infinite) (on Infinite))

    -- the sum of degrees of the pair
    pub pair_degrees : (d : ℤ) → HasTotalDegree (setting_of c) D d → (a b : List (FunctionOf c)) (f g : ℕ → ℤ)
        → IsReducedBasis c (MeetsOn (setting_of c) D Finite) (MeetsOn (setting_of c) D Infinite) a f
        → IsReducedBasis c (IsIntegralAt (setting_of c) Finite) (IsIntegralAt (setting_of c) Infinite) b g
        → degree_sum (degree_of_y c) f ≡ degree_sum (degree_of_y c) g -ℤ d
    pair_degrees d total a b f g reduced reduced' =
        let Fin : FunctionOf c → Type 0 = IsIntegralAt (setting_of c) Finite in
        let I : FunctionOf c → Type 0 = MeetsOn (setting_of c) D Finite in
        let N : FunctionOf c → Type 0 = MeetsOn (setting_of c) D Infinite in
        let A : FunctionOf c → Type 0 = DivisorIdeal (setting_of c) Finite (Opposite Finite) in
        let B : FunctionOf c → Type 0 = DivisorIdeal (setting_of c) Infinite (Opposite Infinite) in
        let 𝓕 = integral_lattice c some in
        let own : SameSet Fin Fin = λ z. (λ m. m, λ m. m) in
        let p = part_degrees (setting_of c) D d total in
        let r = reduced_basis c Fin B 𝓕 (divisor_lattice_at_infinity c some (Opposite Infinite) (on Infinite)) in
        let u = ideal_degrees c some (Opposite Infinite) (on Infinite) (neg_ℤ p.infinite)
        (opposite_degree (setting_of c) (part Infinite D) p.infinite p.infinite_degree)
        Fin 𝓕 r.0 b r.1 g r.2 reduced' in
        let v = lattice_degrees A Fin (neg_ℤ p.finite)
        (divisor_index c some (Opposite Finite) (neg_ℤ p.finite) (on Finite)
        (opposite_degree (setting_of c) (part Finite D) p.finite p.finite_degree)) N allowed_at_infinity
        a r.0 f r.1 (pair_same I A N N (λ z. ((conditions Finite z).1, (conditions Finite z).0))
        (λ z. (λ m. m, λ m. m)) a f reduced)
        (pair_same Fin Fin B N own (conditions Infinite) r.0 r.1 r.2) in
        let e : d ≡ p.finite +ℤ p.infinite = p.is in
        omega (arith, ints)
