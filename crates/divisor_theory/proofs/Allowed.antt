-- What a divisor allows on a side tells its multiplicities there; so there is one canonical divisor.
use Rattle.std.proofs.Common.{◌≡◌, refl, arith}
use Rattle.std.specs.Prelude.{neg_ℤ}
use Rattle.std.proofs.lemmas.Int.{ints, by_lt_z}
use Rattle.std.proofs.Math.IntN.{ℤ, pos, ◌+ℤ◌}
use lib.Signed.{◌≤ℤ◌, ◌<ℤ◌}
use Rattle.prime_theory.proofs.Lists.{both}
use Rattle.prime_theory.proofs.Products.{product_into}
use Rattle.ff_fields.specs.Field.{CodeField}
use Rattle.ff_poly.specs.Polynomials.{polynomials}
use Rattle.function_field.specs.declared.side.Side.{Side}
use Rattle.function_field.specs.declared.side.Side.TheVariants.{Finite, Infinite}
use Rattle.function_field.specs.Discriminant.{discriminant}
use Rattle.function_field.specs.Places.{Place, IsPlace, HasValuationAtLeast}
use Rattle.function_field.specs.Divisors.{Divisor, IsDivisor, HasMultiplicity, MeetsOn, IsCanonical}
use Rattle.function_field.specs.Functions.{Equation, FunctionOf, ring_of, setting_of}
use Rattle.function_field.proofs.ScalarRings.{scalars_subring}
use Rattle.places_theory.proofs.Sides.{side_ring}
use Rattle.places_theory.proofs.Valuations.{at_least_product, at_least_weaker, valuation_of_outside}
use Rattle.ideal_theory.specs.Ideals.{DivisorIdeal, opposite_divisor}
use Rattle.ideal_theory.proofs.PowerValues.{values_additive}
use Rattle.ideal_theory.proofs.DivisorIdeals.{values_of_ideal, one_in_opposite}
use Rattle.space_theory.proofs.TraceDuals.{canonical_sides}
use Rattle.divisor_theory.specs.Parts.{part}
use Rattle.divisor_theory.proofs.Parts.{part_multiplicity, part_on}
use Rattle.divisor_theory.proofs.Pairs.{conditions}
use Rattle.divisor_theory.proofs.Differences.{side_prime, side_invertible}

module _ {k : CodeField} (c : Equation k) (some : ¬ (discriminant c ≡ (polynomials k).𝟘)) where
  infixl 70 ◌⊗◌
  open ring_of c use {𝟙, ◌⊗◌}

  -- where E allows what D allows, its multiplicities are at least those of D: else 1 would be a sum of products with
  -- values above 0
  pub allowed_order : (D E : Divisor (FunctionOf c)) → IsDivisor (setting_of c) D → (P : Place (FunctionOf c))
      → IsPlace (setting_of c) P
      → ((z : FunctionOf c) → MeetsOn (setting_of c) D P.side z → MeetsOn (setting_of c) E P.side z)
      → (m n : ℤ) → HasMultiplicity (setting_of c) D P m → HasMultiplicity (setting_of c) E P n → m ≤ℤ n
  allowed_order D E is P place within m n h i = by_lt_z n m (λ l. absurd (none l)) (λ l. l)
    where
      total : n <ℤ m → pos 1 ≤ℤ (m +ℤ neg_ℤ n)
      total l = omega (arith, ints)

      none : n <ℤ m → ⊥
      none l =
          let s = P.side in
          let on = part_on (setting_of c) s D is in
          let one = one_in_opposite (setting_of c) (scalars_subring c) s (side_prime c some s)
          (side_invertible c some s) (part s D)
          (both (λ e. IsPlace (setting_of c) e.place) (λ e. e.place.side ≡ s) (part s D) on.divisor.places on.sides) in
          let v = valuation_of_outside (setting_of c) (scalars_subring c) P place 𝟙
          (side_ring (setting_of c) (scalars_subring c) s).one_in place.proper in
          v.not_more
          (at_least_weaker (setting_of c) (scalars_subring c) P place 𝟙 (pos 1) (pos 0 +ℤ pos 1) (omega (arith, ints))
          (product_into (ring_of c) (DivisorIdeal (setting_of c) s (part s D))
          (DivisorIdeal (setting_of c) s (opposite_divisor (part s D)))
          (λ w. HasValuationAtLeast (setting_of c) P w (pos 1))
          (values_additive (setting_of c) (scalars_subring c) s P.generators place (pos 1))
          (λ a b x y.
          at_least_weaker (setting_of c) (scalars_subring c) P place (a ⊗ b) (m +ℤ neg_ℤ n) (pos 1) (total l)
          (at_least_product (setting_of c) (scalars_subring c) P place a b m (neg_ℤ n)
          (values_of_ideal (setting_of c) (scalars_subring c) s (side_prime c some s) (side_invertible c some s)
          (part s D) on a x P place refl m
          ((part_multiplicity (setting_of c) s P refl D m).0 h))
          (within b ((conditions c some D is s b).0 y) P place refl n i))) 𝟙 one))

  -- two canonical divisors have the same multiplicities
  pub canonical_once : (W V : Divisor (FunctionOf c)) → IsCanonical (setting_of c) W → IsCanonical (setting_of c) V
      → (P : Place (FunctionOf c)) → IsPlace (setting_of c) P → (m n : ℤ) → HasMultiplicity (setting_of c) W P m
      → HasMultiplicity (setting_of c) V P n → m ≡ n
  canonical_once W V w v P place m n h i =
      let a = allowed_order W V w.divisor P place (within P.side W V w v) m n h i in
      let b = allowed_order V W v.divisor P place (within P.side V W v w) n m i h in
      omega (arith, ints)
    where
      within : (s : Side) (W V : Divisor (FunctionOf c)) → IsCanonical (setting_of c) W
          → IsCanonical (setting_of c) V → (z : FunctionOf c)
          → MeetsOn (setting_of c) W s z → MeetsOn (setting_of c) V s z
      within Finite W V w v z h = ((canonical_sides c V v).0 z).1 (((canonical_sides c W w).0 z).0 h)
      within Infinite W V w v z h = ((canonical_sides c V v).1 z).1 (((canonical_sides c W w).1 z).0 h)
