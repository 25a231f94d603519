-- The theorems in the words of the contracts.
use Rattle.std.proofs.Common.{◌≡◌, ℕ, ℤ, pos, ◌-ℤ◌, List, length, ◌∙◌}
use Rattle.std.proofs.lemmas.List.Elements.{All-weaker}
use Rattle.ff_fields.specs.Field.{CodeField}
use Rattle.ff_fields.specs.Code.{code_ring, code_field}
use Rattle.ff_poly.specs.Polynomials.{polynomials}
use Rattle.function_field.specs.declared.side.Side.TheVariants.{Finite, Infinite}
use Rattle.function_field.specs.Discriminant.{discriminant}
use Rattle.function_field.specs.Functions.{Equation, FunctionOf, setting_of, degree_of_y}
use Rattle.function_field.specs.Places.{IsIntegralAt}
use Rattle.function_field.specs.Divisors.{Divisor, MeetsOn, InSpace, IsSpaceBasis, IsSimultaneousBasis, IsSumOfSides, SpansOnce, shifted}
use Rattle.prime_theory.specs.Ideals.{SameSet}
use Rattle.linear_theory.specs.Lists.{tabulate}
use Rattle.linear_theory.specs.Basis.{IsSum}
use Rattle.trace_theory.specs.Traces.{HasPolynomialCoordinates}
use Rattle.function_field.specs.Indices.{HasIndex, space_ops}
use Rattle.lattice_theory.specs.Lattices.{IsLattice, polynomial_ops}
use Rattle.lattice_theory.proofs.Bases.{index_same}
use Rattle.lattice_theory.proofs.Operations.{polynomial_lattice}
use Rattle.order_theory.proofs.IntegralLattice.{integral_lattice}
use Rattle.infinite_theory.proofs.InfiniteLaws.{spans_decided}
use Rattle.reduced_basis_theory.specs.Degree.{size, dimension_sum, genus_sum}
use Rattle.reduced_basis_theory.specs.Reduced.{layers, Section}
use Rattle.reduced_basis_theory.proofs.Count.{section_basis, length_section}
use Rattle.space_theory.specs.Spaces.{IsLatticeAtInfinity, multiples_of, IsReducedBasis, IsBasisOfBoth}
use Rattle.space_theory.proofs.FunctionModule.{functions_module}
use Rattle.space_theory.proofs.Pairs.{reduced_basis}
use Rattle.space_theory.proofs.InfiniteIndices.{level_zero}
use Rattle.space_theory.proofs.AtInfinity.{integral_at_infinity}
use Rattle.space_theory.proofs.CodeBases.{basis_by_codes}
use Rattle.space_theory.proofs.Simultaneous.{basis_of_both, shifted_length}
use Rattle.space_theory.proofs.GenusDimension.{genus_index}

module _ {k : CodeField} (c : Equation k) where
  pub infinite_decided : (N : FunctionOf c → Type 0) → IsLatticeAtInfinity c N → (z : FunctionOf c) → Dec (N z)
  infinite_decided N 𝓝 z =
      elim (spans_decided k c 𝓝.generators z)
      [ yes h ↦ yes ((𝓝.spanned z).1 h) | no n ↦ no (λ h. n ((𝓝.spanned z).0 h)) ]

  pub infinite_basis_once : (N : FunctionOf c → Type 0) → IsLatticeAtInfinity c N
      → (bs : List (FunctionOf c)) × (length bs ≡ degree_of_y c) × SpansOnce (setting_of c) Infinite N bs
  infinite_basis_once N 𝓝 =
      let r = reduced_basis c (HasPolynomialCoordinates c) N (polynomial_lattice c) 𝓝 in
      let b = basis_of_both c (HasPolynomialCoordinates c) N 𝓝 r.0 r.1 r.2 in
      (shifted (setting_of c) (tabulate (length r.0) r.1) r.0, shifted_length c r.0 r.1 ∙ b.count, b.infinite)

  pub both_exists : (I N : FunctionOf c → Type 0) → IsLattice c I → IsLatticeAtInfinity c N
      → (bs : List (FunctionOf c)) × (ds : List ℤ) × IsBasisOfBoth c I N bs ds
  both_exists I N 𝓘 𝓝 = let r = reduced_basis c I N 𝓘 𝓝 in
      (r.0, tabulate (length r.0) r.1, basis_of_both c I N 𝓝 r.0 r.1 r.2)

  module _ (I N : FunctionOf c → Type 0) (bs : List (FunctionOf c)) (d : ℕ → ℤ)
      (reduced : IsReducedBasis c I N bs d) where
    pub level_basis : (m : ℤ)
        → IsSpaceBasis (setting_of c) (λ z. I z × multiples_of c N m z)
        (layers (code_ring k) (polynomial_ops c) bs (λ i. size (m -ℤ d i)))
    level_basis m =
        basis_by_codes c (Section I (multiples_of c N) m) _
        (section_basis (code_ring k) (code_field k) (functions_module c) (degree_of_y c) I (multiples_of c N) bs d
        reduced m)

    pub level_count : (m : ℤ) → length (layers (code_ring k) (polynomial_ops c) bs (λ i. size (m -ℤ d i)))
        ≡ dimension_sum (degree_of_y c) d m
    level_count m =
        length_section (code_ring k) (code_field k) (functions_module c) (degree_of_y c) I (multiples_of c N) bs d
        reduced m

  -- bases of the same spaces
  pub basis_same : (V W : FunctionOf c → Type 0) → SameSet V W → (bs : List (FunctionOf c))
      → IsSpaceBasis (setting_of c) V bs → IsSpaceBasis (setting_of c) W bs
  basis_same V W s bs b = record {
    members = All-weaker V W (λ z. (s z).0) bs b.members;
    independent = b.independent;
    spanning = λ z h. b.spanning z ((s z).1 h);
  }

  pub space_basis : (I N : FunctionOf c → Type 0) (bs : List (FunctionOf c)) (d : ℕ → ℤ) → IsReducedBasis c I N bs d
      → IsSpaceBasis (setting_of c) (λ z. I z × N z) (layers (code_ring k) (polynomial_ops c) bs (λ i. size (pos 0 -ℤ d i)))
  space_basis I N bs d reduced =
      basis_same (λ z. I z × multiples_of c N (pos 0) z) (λ z. I z × N z)
      (λ z. (λ m. (m.0, (level_zero c N z).0 m.1), λ m. (m.0, (level_zero c N z).1 m.1))) _
      (level_basis I N bs d reduced (pos 0))

  module _ (D : Divisor (FunctionOf c)) (𝓘 : IsLattice c (MeetsOn (setting_of c) D Finite))
      (𝓝 : IsLatticeAtInfinity c (MeetsOn (setting_of c) D Infinite)) where
    abbrev I : FunctionOf c → Type 0
    I = MeetsOn (setting_of c) D Finite

    abbrev N : FunctionOf c → Type 0
    N = MeetsOn (setting_of c) D Infinite

    both_sides : (z : FunctionOf c) → I z → N z → InSpace (setting_of c) D z
    both_sides z h g Finite = h
    both_sides z h g Infinite = g

    pub divisor_basis : (bs : List (FunctionOf c)) × (ds : List ℤ) × (d : ℕ → ℤ)
        × IsReducedBasis c (MeetsOn (setting_of c) D Finite) (MeetsOn (setting_of c) D Infinite) bs d
        × IsSimultaneousBasis (setting_of c) D bs ds
        × IsSpaceBasis (setting_of c) (InSpace (setting_of c) D)
        (layers (code_ring k) (polynomial_ops c) bs (λ i. size (pos 0 -ℤ d i)))
    divisor_basis =
        let r = reduced_basis c I N 𝓘 𝓝 in
        let b = basis_of_both c I N 𝓝 r.0 r.1 r.2 in (
          r.0,
          tabulate (length r.0) r.1,
          r.1,
          r.2,
          record { count = b.count; one_each = b.one_each; finite = b.finite; infinite = b.infinite },
          basis_same (λ z. I z × N z) (InSpace (setting_of c) D)
              (λ z. (λ m. both_sides z m.0 m.1, λ m. (m Finite, m Infinite))) _ (space_basis I N r.0 r.1 r.2),
        )

  pub sides_dimension : ¬ (discriminant c ≡ (polynomials k).𝟘) → (b : List (FunctionOf c)) × (d : ℕ → ℤ)
      × IsReducedBasis c (IsIntegralAt (setting_of c) Finite) (IsIntegralAt (setting_of c) Infinite) b d
      × HasIndex c (IsSumOfSides (setting_of c)) (λ z. Unit {0}) (genus_sum (degree_of_y c) d)
  sides_dimension some =
      let r = reduced_basis c (IsIntegralAt (setting_of c) Finite) (IsIntegralAt (setting_of c) Infinite)
      (integral_lattice c some) (integral_at_infinity c some) in (
        r.0,
        r.1,
        r.2,
        index_same c (IsSum (space_ops c) (IsIntegralAt (setting_of c) Finite)
            (IsIntegralAt (setting_of c) Infinite)) (IsSumOfSides (setting_of c)) (λ z. Unit {0}) (λ z. Unit {0})
            (λ z. (
              λ m. record {
                finite_part = m.left;
                infinite_part = m.right;
                finite = m.left_in;
                infinite = m.right_in;
                value = m.is;
              },
              λ m. record {
                left = m.finite_part;
                left_in = m.finite;
                right = m.infinite_part;
                right_in = m.infinite;
                is = m.value;
              },
            ))
            (λ z. (λ m. m, λ m. m)) _
            (genus_index c (IsIntegralAt (setting_of c) Finite) (IsIntegralAt (setting_of c) Infinite) r.0 r.1 r.2),
      )
