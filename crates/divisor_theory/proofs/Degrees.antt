-- The degree of a divisor, and the dimension of its space: there is one number each. The degree of W - D for a
-- canonical W.
use Rattle.std.proofs.Common.{◌≡◌, ℕ, List, [], ◌∷◌, All, refl, arith}
use Rattle.std.proofs.lemmas.Int.{ints}
use Rattle.std.proofs.lemmas.List.Elements.{All-head, All-tail}
use Rattle.std.proofs.Math.IntN.{ℤ, pos, ◌+ℤ◌, ◌*ℤ◌}
use Rattle.linear_theory.specs.Basis.{IsNull}
use Rattle.ff_fields.specs.Field.{CodeField}
use Rattle.ff_fields.specs.Code.{code_ring, code_field}
use Rattle.ff_poly.specs.Polynomials.{polynomials}
use Rattle.function_field.specs.declared.side.Side.{Side}
use Rattle.function_field.specs.declared.side.Side.TheVariants.{Finite, Infinite}
use Rattle.function_field.specs.Discriminant.{discriminant}
use Rattle.function_field.specs.Places.{Place, IsPlace}
use Rattle.function_field.specs.Divisors.{Divisor, IsDivisor, HasDegree, HasTotalDegree, MeetsOn, InSpace, none, entry}
use Rattle.function_field.specs.Functions.{Equation, FunctionOf, setting_of, degree_of_y}
use Rattle.function_field.specs.Indices.{HasIndex, space_ops}
use Rattle.lattice_theory.proofs.Bases.{index_same}
use Rattle.order_theory.proofs.SideOfPlaces.{degree_of_place}
use Rattle.infinite_theory.proofs.InfiniteLaws.{degree_exists}
use Rattle.reduced_basis_theory.specs.Degree.{dimension_sum}
use Rattle.reduced_basis_theory.specs.Reduced.{Section}
use Rattle.reduced_basis_theory.proofs.Count.{section_basis, length_section}
use Rattle.space_theory.specs.Spaces.{IsReducedBasis, multiples_of}
use Rattle.space_theory.proofs.FunctionModule.{functions_module}
use Rattle.space_theory.proofs.InfiniteIndices.{level_zero}
use Rattle.space_theory.proofs.Pairs.{reduced_basis, sides_basis}
use Rattle.divisor_theory.proofs.Pairs.{allowed_lattice, allowed_at_infinity, pair_degrees}
use Rattle.divisor_theory.proofs.RiemannRoch.{space_is}

module _ {k : CodeField} (c : Equation k) (some : ¬ (discriminant c ≡ (polynomials k).𝟘)) where
  -- each place has a degree
  place_degree : (P : Place (FunctionOf c)) → IsPlace (setting_of c) P → (g : ℕ) × HasDegree (setting_of c) P g
  place_degree P place = go P.side refl
    where
      go : (s : Side) → P.side ≡ s → (g : ℕ) × HasDegree (setting_of c) P g
      go Finite e = degree_of_place c some P place e
      go Infinite e = degree_exists k c some P place e

  degrees : (D : Divisor (FunctionOf c)) → All (λ e. IsPlace (setting_of c) e.place) D → (d : ℤ)
      × HasTotalDegree (setting_of c) D d
  degrees [] h = (pos 0, none)
  degrees (e ∷ D) h =
      let r = degrees D (All-tail (λ e. IsPlace (setting_of c) e.place) e D h) in
      let g = place_degree e.place (All-head (λ e. IsPlace (setting_of c) e.place) e D h) in
      (e.times *ℤ pos g.0 +ℤ r.0, entry g.0 g.1 r.1)

  module _ (D : Divisor (FunctionOf c)) (is : IsDivisor (setting_of c) D) where
    pub total_degree : (d : ℤ) × HasTotalDegree (setting_of c) D d
    total_degree = degrees D is.places

    -- a reduced basis of the pair
    pub pair_basis : (b : List (FunctionOf c)) × (d : ℕ → ℤ)
        × IsReducedBasis c (MeetsOn (setting_of c) D Finite) (MeetsOn (setting_of c) D Infinite) b d
    pair_basis =
        reduced_basis c (MeetsOn (setting_of c) D Finite) (MeetsOn (setting_of c) D Infinite)
        (allowed_lattice c some D is) (allowed_at_infinity c some D is)

    pub total_degree_once : (d e : ℤ) → HasTotalDegree (setting_of c) D d → HasTotalDegree (setting_of c) D e → d ≡ e
    total_degree_once d e h i =
        let β = sides_basis c some in
        let r = pair_basis in
        let a = pair_degrees c some D is d h r.0 β.0 r.1 β.1 r.2 β.2 in
        let b = pair_degrees c some D is e i r.0 β.0 r.1 β.1 r.2 β.2 in
        omega (arith, ints)

    -- the dimension of the space, by any reduced basis of the pair
    pub space_dimension : (b : List (FunctionOf c)) (d : ℕ → ℤ)
        → IsReducedBasis c (MeetsOn (setting_of c) D Finite) (MeetsOn (setting_of c) D Infinite) b d
        → HasIndex c (IsNull (space_ops c)) (InSpace (setting_of c) D) (dimension_sum (degree_of_y c) d (pos 0))
    space_dimension b d reduced =
        let I = MeetsOn (setting_of c) D Finite in
        let N = MeetsOn (setting_of c) D Infinite in
        index_same c (IsNull (space_ops c)) (IsNull (space_ops c)) (Section I (multiples_of c N) (pos 0))
        (InSpace (setting_of c) D) (λ z. (λ e. e, λ e. e))
        (λ z.
        let s = space_is c some D z in
        (λ m. s.1 (m.0, (level_zero c N z).0 m.1), λ m. let t = s.0 m in (t.0, (level_zero c N z).1 t.1))) _
        (record {
          basis = _;
          is = section_basis (code_ring k) (code_field k) (functions_module c) (degree_of_y c) I (multiples_of c N) b
              d reduced (pos 0);
          count = length_section (code_ring k) (code_field k) (functions_module c) (degree_of_y c) I
              (multiples_of c N) b d reduced (pos 0);
        })
