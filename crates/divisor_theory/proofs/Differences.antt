-- What the difference W - D of two divisors allows on a side is what takes the functions that D allows into those that
-- W allows.
use Rattle.std.proofs.Common.{◌≡◌, List, refl, subst, arith}
use Rattle.std.specs.Prelude.{neg_ℤ}
use Rattle.std.proofs.lemmas.Int.{ints}
use Rattle.std.proofs.lemmas.List.Elements.{All-weaker}
use Rattle.std.proofs.Math.IntN.{ℤ, ◌+ℤ◌, ◌-ℤ◌}
use lib.Signed.{◌≤ℤ◌}
use Rattle.ring_theory.specs.Subsets.{Colon, Product}
use Rattle.ring_lemmas.proofs.Ring.{mul_left_comm}
use Rattle.prime_theory.specs.Ideals.{SameSet, Invertible}
use Rattle.prime_theory.specs.Primes.{IsPrime}
use Rattle.prime_theory.proofs.Lists.{both}
use Rattle.prime_theory.proofs.Products.{product_universal}
use Rattle.ff_fields.specs.Field.{CodeField}
use Rattle.ff_poly.specs.Polynomials.{polynomials}
use Rattle.function_field.specs.declared.side.Side.{Side}
use Rattle.function_field.specs.declared.side.Side.TheVariants.{Finite, Infinite}
use Rattle.function_field.specs.Discriminant.{discriminant}
use Rattle.function_field.specs.Places.{Place, IsPlace, IsSamePlace, IsIn, IsIntegralAt, HasValuationAtLeast}
use Rattle.function_field.specs.Divisors.{Divisor, IsDivisor, HasMultiplicity, MeetsOn}
use Rattle.function_field.specs.Functions.{Equation, FunctionOf, ring_of, setting_of}
use Rattle.function_field.proofs.ScalarRings.{scalars_subring}
use Rattle.places_theory.proofs.Multiplicities.{multiplicity_exists, multiplicity_unique}
use Rattle.places_theory.proofs.SamePlaces.{same_place_decided}
use Rattle.places_theory.proofs.Valuations.{at_least_product, at_least_weaker}
use Rattle.lattice_theory.proofs.Lattices.{lattice_decided}
use Rattle.order_theory.proofs.SideOfPlaces.{lattice_of_place, prime_of_place}
use Rattle.infinite_theory.proofs.InfiniteLaws.{spans_decided}
use Rattle.ideal_theory.specs.Ideals.{DivisorIdeal, opposite_divisor}
use Rattle.ideal_theory.proofs.PowerValues.{on_side, place_at, values_additive}
use Rattle.ideal_theory.proofs.DivisorIdeals.{values_of_ideal, one_in_opposite}
use Rattle.ideal_theory.proofs.FiniteSide.{finite_invertible}
use Rattle.ideal_theory.proofs.InfiniteSide.{infinite_prime, infinite_invertible}
use Rattle.divisor_theory.specs.Parts.{part, IsDifference}
use Rattle.divisor_theory.proofs.Parts.{part_multiplicity, part_on}
use Rattle.divisor_theory.proofs.Pairs.{conditions}

module _ {k : CodeField} (c : Equation k) where
  infixl 70 ◌⊗◌
  open ring_of c use {ops, 𝟙, ◌⊗◌}

  -- membership in a place is decided
  in_place : (P : Place (FunctionOf c)) → IsPlace (setting_of c) P → (z : FunctionOf c) → Dec (IsIn (setting_of c) P z)
  in_place P place = go P.side refl
    where
      go : (s : Side) → P.side ≡ s → (z : FunctionOf c) → Dec (IsIn (setting_of c) P z)
      go Finite e z = lattice_decided c (IsIn (setting_of c) P) (lattice_of_place c P place e) z
      go Infinite e z =
          on_side (setting_of c) (scalars_subring c) Infinite
          (λ P. (z : FunctionOf c) → Dec (IsIn (setting_of c) P z)) (λ gs z. spans_decided k c gs z) P e z

  -- so is sameness of places, and a divisor has a multiplicity at each place
  pub places_same_decided : (P Q : Place (FunctionOf c)) → IsPlace (setting_of c) P → IsPlace (setting_of c) Q
      → Dec (IsSamePlace (setting_of c) P Q)
  places_same_decided P Q place place' =
      same_place_decided (setting_of c) (scalars_subring c) P Q (in_place P place) (in_place Q place')

  pub multiplicity_at : (D : Divisor (FunctionOf c)) → IsDivisor (setting_of c) D → (P : Place (FunctionOf c))
      → IsPlace (setting_of c) P
      → (m : ℤ) × HasMultiplicity (setting_of c) D P m
  multiplicity_at D is P place =
      multiplicity_exists (setting_of c) D P
      (All-weaker (λ e. IsPlace (setting_of c) e.place) (λ e. Dec (IsSamePlace (setting_of c) P e.place))
      (λ e p. places_same_decided P e.place place p) D is.places)

  module _ (some : ¬ (discriminant c ≡ (polynomials k).𝟘)) where
    pub side_prime : (s : Side) (P : Place (FunctionOf c)) → IsPlace (setting_of c) P → P.side ≡ s
        → IsPrime (ring_of c).ops (IsIntegralAt (setting_of c) s) (IsIn (setting_of c) P)
    side_prime Finite P place e = prime_of_place c P place e
    side_prime Infinite P place e = infinite_prime c P place e

    pub side_invertible : (s : Side) (P : Place (FunctionOf c)) → IsPlace (setting_of c) P → P.side ≡ s
        → Invertible (ring_of c).ops (IsIntegralAt (setting_of c) s) (IsIn (setting_of c) P)
    side_invertible Finite P place e = finite_invertible c some P place e
    side_invertible Infinite P place e = infinite_invertible c some P place e

    module _ (W D E : Divisor (FunctionOf c)) (is_W : IsDivisor (setting_of c) W) (is_D : IsDivisor (setting_of c) D)
        (difference : IsDifference (setting_of c) W D E) (s : Side) where
      -- a function that W - D allows takes what D allows into what W allows
      into_colon : (z : FunctionOf c) → MeetsOn (setting_of c) E s z
          → Colon (ring_of c).ops (MeetsOn (setting_of c) W s) (MeetsOn (setting_of c) D s) z
      into_colon z z_in u u_in P place e m h =
          let n = multiplicity_at D is_D P place in
          at_least_weaker (setting_of c) (scalars_subring c) P place (z ⊗ u) (neg_ℤ (m -ℤ n.0) +ℤ neg_ℤ n.0)
          (neg_ℤ m) (total m n.0)
          (at_least_product (setting_of c) (scalars_subring c) P place z u (neg_ℤ (m -ℤ n.0)) (neg_ℤ n.0)
          (z_in P place e (m -ℤ n.0) (difference.values P place m n.0 h n.1)) (u_in P place e n.0 n.1))
        where
          total : (m n : ℤ) → neg_ℤ m ≤ℤ (neg_ℤ (m -ℤ n) +ℤ neg_ℤ n)
          total m n = omega (arith, ints)

      one : Product (ring_of c).ops (DivisorIdeal (setting_of c) s (part s D))
          (DivisorIdeal (setting_of c) s (opposite_divisor (part s D))) 𝟙
      one =
          let on = part_on (setting_of c) s D is_D in
          one_in_opposite (setting_of c) (scalars_subring c) s (side_prime s) (side_invertible s) (part s D)
          (both (λ e. IsPlace (setting_of c) e.place) (λ e. e.place.side ≡ s) (part s D) on.divisor.places on.sides)

      -- and back, since 1 is a sum of products of functions with the values of D and of functions that D allows
      from_colon : (z : FunctionOf c)
          → Colon (ring_of c).ops (MeetsOn (setting_of c) W s) (MeetsOn (setting_of c) D s) z
          → MeetsOn (setting_of c) E s z
      from_colon z h P place e =
          on_side (setting_of c) (scalars_subring c) s
          (λ P. IsPlace (setting_of c) P → (l : ℤ) → HasMultiplicity (setting_of c) E P l
          → HasValuationAtLeast (setting_of c) P z (neg_ℤ l)) at P e place
        where
          at : (gs : List (FunctionOf c)) → IsPlace (setting_of c) (place_at (setting_of c) (scalars_subring c) s gs)
              → (l : ℤ)
              → HasMultiplicity (setting_of c) E (place_at (setting_of c) (scalars_subring c) s gs) l
              → HasValuationAtLeast (setting_of c) (place_at (setting_of c) (scalars_subring c) s gs) z (neg_ℤ l)
          at gs place l l_is =
              let P = place_at (setting_of c) (scalars_subring c) s gs in
              let m = multiplicity_at W is_W P place in
              let n = multiplicity_at D is_D P place in
              let same : l ≡ m.0 -ℤ n.0 = multiplicity_unique (setting_of c) E P l (m.0 -ℤ n.0) l_is
              (difference.values P place m.0 n.0 m.1 n.1) in
              subst (λ w. HasValuationAtLeast (setting_of c) P w (neg_ℤ l)) ((ring_of c).mul_one z)
              (product_universal (ring_of c) (DivisorIdeal (setting_of c) s (part s D))
              (DivisorIdeal (setting_of c) s (opposite_divisor (part s D)))
              (λ w. HasValuationAtLeast (setting_of c) P w (neg_ℤ l))
              (values_additive (setting_of c) (scalars_subring c) s gs place (neg_ℤ l)) z
              (λ a b i j.
              subst (λ w. HasValuationAtLeast (setting_of c) P w (neg_ℤ l)) (mul_left_comm (ring_of c) a z b)
              (at_least_weaker (setting_of c) (scalars_subring c) P place (a ⊗ (z ⊗ b)) (n.0 +ℤ neg_ℤ m.0) (neg_ℤ l)
              (total l m.0 n.0 same)
              (at_least_product (setting_of c) (scalars_subring c) P place a (z ⊗ b) n.0 (neg_ℤ m.0)
              (values_of_ideal (setting_of c) (scalars_subring c) s (side_prime s) (side_invertible s) (part s D)
              (part_on (setting_of c) s D is_D) a i P place refl n.0
              ((part_multiplicity (setting_of c) s P refl D n.0).0 n.1))
              (h b ((conditions c some D is_D s b).0 j) P place refl m.0 m.1)))) 𝟙 one)
            where
              total : (l m n : ℤ) → l ≡ m -ℤ n → neg_ℤ l ≤ℤ (n +ℤ neg_ℤ m)
              total l m n e = omega (arith, ints)

      pub difference_is_colon : SameSet (MeetsOn (setting_of c) E s)
          (Colon (ring_of c).ops (MeetsOn (setting_of c) W s) (MeetsOn (setting_of c) D s))
      difference_is_colon z = (into_colon z, from_colon z)
