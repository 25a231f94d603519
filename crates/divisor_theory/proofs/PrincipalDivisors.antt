-- The divisor of a function with an inverse has the degree 0; and a divisor with a degree below 0 allows no function
-- but 0, where F is a field.
use Rattle.std.proofs.Common.{◌≡◌, ◌⊎◌, inl, inr, List, ◌++◌, map, refl, subst, arith}
use Rattle.std.specs.List.{Any}
use Rattle.std.proofs.lemmas.Int.{ints}
use Rattle.std.proofs.Math.IntN.{ℤ, pos, ◌+ℤ◌}
use lib.Signed.{◌<ℤ◌}
use Rattle.ring_lemmas.specs.Ring.{IsField}
use Rattle.prime_theory.specs.Ideals.{SameSet, Multiple}
use Rattle.ff_fields.specs.Field.{CodeField}
use Rattle.ff_fields.specs.Code.{code_ring, code_field}
use Rattle.ff_poly.specs.Polynomials.{polynomials}
use Rattle.function_field.specs.declared.side.Side.{Side}
use Rattle.function_field.specs.declared.side.Side.TheVariants.{Finite, Infinite}
use Rattle.function_field.specs.Discriminant.{discriminant}
use Rattle.function_field.specs.Places.{Place, IsPlace, IsSamePlace, IsIntegralAt, HasValuation}
use Rattle.function_field.specs.Divisors.{Divisor, IsDivisor, HasMultiplicity, HasTotalDegree, MeetsOn, InSpace}
use Rattle.function_field.specs.Functions.{Equation, FunctionOf, ring_of, setting_of, degree_of_y, functions_discrete}
use Rattle.function_field.proofs.ScalarRings.{scalars_subring}
use Rattle.places_theory.proofs.Multiplicities.{multiplicity_unique}
use Rattle.places_theory.proofs.SamePlaces.{same_place_sym}
use Rattle.places_theory.proofs.Valuations.{valuation_unique}
use Rattle.order_theory.proofs.IntegralLattice.{integral_lattice}
use Rattle.order_theory.proofs.SideOfPlaces.{value_at_place}
use Rattle.infinite_theory.proofs.InfiniteLaws.{value_exists}
use Rattle.reduced_basis_theory.proofs.Positivity.{positivity}
use Rattle.ideal_theory.specs.Ideals.{IsDivisorOn, DivisorIdeal, IsDivisorOf}
use Rattle.ideal_theory.proofs.PrincipalIdeals.{value_along}
use Rattle.ideal_theory.proofs.SideIdeals.{side_divisor, side_principal, divisor_index}
use Rattle.space_theory.specs.Spaces.{multiples_of}
use Rattle.space_theory.proofs.FunctionModule.{functions_module}
use Rattle.space_theory.proofs.InfiniteIndices.{level_zero}
use Rattle.space_theory.proofs.Pairs.{reduced_basis, sides_basis}
use Rattle.divisor_theory.specs.Parts.{part, IsPrincipal}
use Rattle.divisor_theory.proofs.Parts.{part_on, part_multiplicity, part_degrees}
use Rattle.divisor_theory.proofs.Pairs.{pair_same, lattice_degrees, pair_degrees}
use Rattle.divisor_theory.proofs.IndexAtInfinity.{divisor_lattice_at_infinity, ideal_degrees}
use Rattle.divisor_theory.proofs.ClosedPairs.{closed_pair, times_linear, multiples_basis}
use Rattle.divisor_theory.proofs.RiemannRoch.{allowed_closed}
use Rattle.divisor_theory.proofs.Degrees.{pair_basis}
use Rattle.divisor_theory.proofs.DivisorsByValues.{Placed, places_of, places_cover, divisor_by_values}
use Rattle.prime_theory.proofs.Lists.{any_left, any_right}

module _ {k : CodeField} (c : Equation k) (some : ¬ (discriminant c ≡ (polynomials k).𝟘)) where
  infixl 70 ◌⊗◌
  open ring_of c use {ops, 𝟘, 𝟙, ◌⊗◌}

  abbrev Fin : FunctionOf c → Type 0
  Fin = IsIntegralAt (setting_of c) Finite

  abbrev Inf : FunctionOf c → Type 0
  Inf = IsIntegralAt (setting_of c) Infinite

  -- a function with an inverse has a value at each place
  pub value_at : (P : Place (FunctionOf c)) → IsPlace (setting_of c) P → (z y : FunctionOf c) → z ⊗ y ≡ 𝟙 → (m : ℤ)
      × HasValuation (setting_of c) P z m
  value_at P place z y inverse = go P.side refl
    where
      go : (s : Side) → P.side ≡ s → (m : ℤ) × HasValuation (setting_of c) P z m
      go Finite e = value_at_place c some P place e z y inverse
      go Infinite e = value_exists k c some P place e z y inverse

  module _ (z y : FunctionOf c) (inverse : z ⊗ y ≡ 𝟙) where
    module _ (D : Divisor (FunctionOf c)) (is : IsPrincipal (setting_of c) D z) where
      on : (s : Side) → IsDivisorOn (setting_of c) s (part s D)
      on s = part_on (setting_of c) s D is.divisor

      of_side : (s : Side) → IsDivisorOf (setting_of c) s (part s D) z
      of_side s =
          record {
            on = on s;
            values = λ P place e m h. is.values P place m
                ((part_multiplicity (setting_of c) s P e D m).1 h);
          }

      ideal : (s : Side) → SameSet (Multiple (ring_of c).ops z (IsIntegralAt (setting_of c) s))
          (DivisorIdeal (setting_of c) s (part s D))
      ideal s w = let t = side_principal c some s z y inverse (part s D) (of_side s) w in (t.1, t.0)

      pub principal_degree : (d : ℤ) → HasTotalDegree (setting_of c) D d → d ≡ pos 0
      principal_degree d total =
          let A : FunctionOf c → Type 0 = DivisorIdeal (setting_of c) Finite (part Finite D) in
          let B : FunctionOf c → Type 0 = DivisorIdeal (setting_of c) Infinite (part Infinite D) in
          let p = part_degrees (setting_of c) D d total in
          let β = sides_basis c some in
          let 𝓑 = divisor_lattice_at_infinity c some (part Infinite D) (on Infinite) in
          let 𝓕 = integral_lattice c some in
          let r = reduced_basis c Fin B 𝓕 𝓑 in
          let u = ideal_degrees c some (part Infinite D) (on Infinite) p.infinite p.infinite_degree Fin 𝓕 r.0 β.0 r.1
          β.1 r.2 β.2 in
          let v = lattice_degrees c A Fin p.finite
          (divisor_index c some (part Finite D) p.finite (on Finite) p.finite_degree) B 𝓑 (map (◌⊗◌ z) β.0) r.0
          β.1 r.1
          (pair_same c (Multiple ops z Fin) A (Multiple ops z Inf) B (ideal Finite) (ideal Infinite)
          (map (◌⊗◌ z) β.0) β.1
          (multiples_basis c z y inverse Fin Inf β.0 β.1 β.2)) r.2 in
          let e : d ≡ p.finite +ℤ p.infinite = p.is in
          omega (arith, ints)

    value : (P : Place (FunctionOf c)) → IsPlace (setting_of c) P → ℤ
    value P place = (value_at P place z y inverse).0

    value_is : (P : Place (FunctionOf c)) (place : IsPlace (setting_of c) P)
        → HasValuation (setting_of c) P z (value P place)
    unfolding value
    value_is P place = (value_at P place z y inverse).1

    value_same : (P Q : Place (FunctionOf c)) (h : IsPlace (setting_of c) P) (i : IsPlace (setting_of c) Q)
        → IsSamePlace (setting_of c) P Q → value P h ≡ value Q i
    value_same P Q h i s =
        valuation_unique (setting_of c) (scalars_subring c) Q i z (value P h) (value Q i)
        (value_along (setting_of c) Q P (same_place_sym (setting_of c) P Q s) z (value P h) (value_is P h))
        (value_is Q i)

    -- its divisor
    pub principal_exists : (D : Divisor (FunctionOf c)) × IsPrincipal (setting_of c) D z
    principal_exists =
        let r = divisor_by_values c value value_same (places Finite ++ places Infinite) elsewhere in (
          r.0,
          record {
            divisor = r.1;
            values = λ P place m h.
                subst (HasValuation (setting_of c) P z)
                (multiplicity_unique (setting_of c) r.0 P (value P place) m (r.2 P place) h) (value_is P place);
          },
        )
      where
        of : (s : Side) → (D : Divisor (FunctionOf c)) × IsDivisorOf (setting_of c) s D z
        of s = side_divisor c some s z y inverse

        places : Side → List (Placed c)
        places s = places_of c (of s).0 (of s).1.on.divisor.places

        by : (s : Side) (P : Place (FunctionOf c)) (h : IsPlace (setting_of c) P) → P.side ≡ s
            → (value P h ≡ pos 0) ⊎ Any (λ Q. IsSamePlace (setting_of c) Q.0 P) (places s)
        by s P h e = go (places_cover c (of s).0 (of s).1.on.divisor.places P h)
          where
            go : HasMultiplicity (setting_of c) (of s).0 P (pos 0)
                ⊎ Any (λ Q. IsSamePlace (setting_of c) Q.0 P) (places s)
                → (value P h ≡ pos 0) ⊎ Any (λ Q. IsSamePlace (setting_of c) Q.0 P) (places s)
            go (inl m) =
                inl (valuation_unique (setting_of c) (scalars_subring c) P h z (value P h) (pos 0) (value_is P h)
                ((of s).1.values P h e (pos 0) m))
            go (inr a) = inr a

        elsewhere : (P : Place (FunctionOf c)) (h : IsPlace (setting_of c) P)
            → (value P h ≡ pos 0) ⊎ Any (λ Q. IsSamePlace (setting_of c) Q.0 P) (places Finite ++ places Infinite)
        elsewhere P h = go P.side refl
          where
            go : (s : Side) → P.side ≡ s → (value P h ≡ pos 0)
                ⊎ Any (λ Q. IsSamePlace (setting_of c) Q.0 P) (places Finite ++ places Infinite)
            go Finite e =
                elim (by Finite P h e) [
                  | inl v ↦ inl v
                  | inr a ↦ inr
                      (any_left (λ Q. IsSamePlace (setting_of c) Q.0 P) (places Finite) (places Infinite) a)
                ]
            go Infinite e =
                elim (by Infinite P h e) [
                  | inl v ↦ inl v
                  | inr a ↦ inr
                      (any_right (λ Q. IsSamePlace (setting_of c) Q.0 P) (places Finite) (places Infinite) a)
                ]

  -- a function of L(D) that isn't 0 shows that the degree of D is at least 0
  pub negative_degree : IsField (ring_of c).ops → (D : Divisor (FunctionOf c)) → IsDivisor (setting_of c) D → (d : ℤ)
      → HasTotalDegree (setting_of c) D d
      → d <ℤ pos 0 → (z : FunctionOf c) → InSpace (setting_of c) D z → z ≡ 𝟘
  negative_degree field D is d total negative z z_in = go (functions_discrete c z 𝟘)
    where
      go : Dec (z ≡ 𝟘) → z ≡ 𝟘
      go (yes e) = e
      go (no n) =
          let I = MeetsOn (setting_of c) D Finite in
          let N = MeetsOn (setting_of c) D Infinite in
          let y = field.inverse z n in
          let β = sides_basis c some in
          let r = pair_basis c some D is in
          let a = positivity (code_ring k) (code_field k) (functions_module c) (degree_of_y c) (ring_of c)
          (times_linear c) Fin (multiples_of c Inf) β.0 β.1 β.2 I
          (multiples_of c N) (closed_pair c I N (allowed_closed c some D Finite) (allowed_closed c some D Infinite))
          r.0 r.1 r.2 z y.0 y.1 (z_in Finite)
          ((level_zero c N z).1 (z_in Infinite)) in
          let b = pair_degrees c some D is d total r.0 β.0 r.1 β.1 r.2 β.2 in
          absurd (omega (arith, ints))
