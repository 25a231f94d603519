-- What D + m·P allows on the side of the place P: the products of what D allows with the power P^(-m).
use Rattle.std.proofs.Common.{◌≡◌, inl, inr, [], ◌∷◌, refl, sym, subst, arith}
use Rattle.std.specs.Prelude.{neg_ℤ}
use Rattle.std.proofs.lemmas.Int.{ints}
use Rattle.std.proofs.lemmas.List.Elements.{All-nil, All-cons}
use Rattle.std.proofs.lemmas.List.Kept.{AllPairs-cons}
use Rattle.std.proofs.Math.IntN.{ℤ, pos, ◌+ℤ◌, ◌-ℤ◌}
use Rattle.ring_lemmas.proofs.Ring.{mul_left_comm}
use Rattle.ring_theory.specs.Subsets.{IsSubring, IsModule, Product}
use Rattle.ring_theory.proofs.Subsets.{product_member, product_module}
use Rattle.prime_theory.specs.Ideals.{SameSet}
use Rattle.prime_theory.specs.IntegerValues.{PrimePower}
use Rattle.prime_theory.proofs.Lists.{both}
use Rattle.prime_theory.proofs.Primes.{ideal_module as prime_module}
use Rattle.prime_theory.proofs.Products.{product_into, product_monotone, product_one, product_swap, product_universal, own_module, additive_of_module}
use Rattle.ff_fields.specs.Field.{CodeField}
use Rattle.ff_poly.specs.Polynomials.{polynomials}
use Rattle.function_field.specs.declared.side.Side.{Side}
use Rattle.function_field.specs.Discriminant.{discriminant}
use Rattle.function_field.specs.Places.{Place, IsPlace, IsSamePlace, IsIn, IsIntegralAt}
use Rattle.function_field.specs.Divisors.{Entry, Divisor, IsDivisor, HasMultiplicity, MeetsOn}
use Rattle.function_field.specs.Functions.{Equation, FunctionOf, ring_of, setting_of}
use Rattle.function_field.proofs.ScalarRings.{scalars_subring}
use Rattle.places_theory.proofs.Multiplicities.{multiplicity_unique}
use Rattle.places_theory.proofs.Sides.{side_ring}
use Rattle.ideal_theory.specs.Ideals.{IsDivisorOn, DivisorIdeal, opposite_divisor}
use Rattle.ideal_theory.proofs.DivisorIdeals.{ideal_module, one_in_opposite, opposite_on}
use Rattle.ideal_theory.proofs.SideIdeals.{space_conditions}
use Rattle.divisor_theory.specs.Parts.{part, IsDifference}
use Rattle.divisor_theory.proofs.Differences.{multiplicity_at, side_prime, side_invertible, difference_is_colon}
use Rattle.divisor_theory.proofs.Parts.{part_on}
use Rattle.divisor_theory.proofs.Pairs.{conditions}
use Rattle.ff_ideal.specs.Powers.{IntegerPower}
use Rattle.ff_ideal.proofs.IntegerPowers.{same_module}
use Rattle.pair_theory.proofs.Extensions.{integer_module, integer_parts}

-- E is D + m·P for the place P
pub record IsMoreAt {k : CodeField} (c : Equation k) (D : Divisor (FunctionOf c)) (P : Place (FunctionOf c)) (m : ℤ)
    (E : Divisor (FunctionOf c)) : Type 0 where
  pub divisor : IsDivisor (setting_of c) E
  pub here : (M : Place (FunctionOf c)) → IsPlace (setting_of c) M → IsSamePlace (setting_of c) M P → (n : ℤ)
      → HasMultiplicity (setting_of c) D M n → HasMultiplicity (setting_of c) E M (n +ℤ m)
  pub elsewhere : (M : Place (FunctionOf c)) → IsPlace (setting_of c) M → ¬ IsSamePlace (setting_of c) M P → (n : ℤ)
      → HasMultiplicity (setting_of c) D M n → HasMultiplicity (setting_of c) E M n

module _ {k : CodeField} (c : Equation k) (some : ¬ (discriminant c ≡ (polynomials k).𝟘)) where
  infixl 70 ◌⊗◌
  open ring_of c use {ops, 𝟙, ◌⊗◌}

  abbrev Int : Side → FunctionOf c → Type 0
  Int s = IsIntegralAt (setting_of c) s

  pub ring_at : (s : Side) → IsSubring (ring_of c).ops (IsIntegralAt (setting_of c) s)
  ring_at s = side_ring (setting_of c) (scalars_subring c) s

  -- what a divisor allows on a side is closed under the functions that are integral on the side
  pub allowed_module : (D : Divisor (FunctionOf c)) → IsDivisor (setting_of c) D → (s : Side)
      → IsModule (ring_of c).ops (IsIntegralAt (setting_of c) s) (MeetsOn (setting_of c) D s)
  allowed_module D is s =
      let D' = opposite_divisor (part s D) in
      let o = opposite_on (setting_of c) s (part s D) (part_on (setting_of c) s D is) in
      same_module (ring_of c) (Int s) (ring_at s) (MeetsOn (setting_of c) D s) (DivisorIdeal (setting_of c) s D')
      (λ z. let t = conditions c some D is s z in (t.1, t.0))
      (ideal_module (setting_of c) (scalars_subring c) s (side_prime c some s) (side_invertible c some s) D'
      (both (λ e. IsPlace (setting_of c) e.place) (λ e. e.place.side ≡ s) D' o.divisor.places o.sides))

  -- it depends on the multiplicities at the places of the side alone
  pub allowed_within : (D E : Divisor (FunctionOf c)) → IsDivisor (setting_of c) D → (s : Side)
      → ((M : Place (FunctionOf c)) → IsPlace (setting_of c) M → M.side ≡ s → (n : ℤ)
      → HasMultiplicity (setting_of c) D M n → HasMultiplicity (setting_of c) E M n)
      → SameSet (MeetsOn (setting_of c) D s) (MeetsOn (setting_of c) E s)
  allowed_within D E is s same z = (
    λ h M place e n n_is.
        let d = multiplicity_at c D is M place in
        let eq : n ≡ d.0 = multiplicity_unique (setting_of c) E M n d.0 n_is (same M place e d.0 d.1) in
        h M place e n (subst (HasMultiplicity (setting_of c) D M) (sym eq) d.1),
    λ h M place e n n_is. h M place e n (same M place e n n_is),
  )

  module _ (P : Place (FunctionOf c)) (place : IsPlace (setting_of c) P) where
    abbrev single : ℤ → Divisor (FunctionOf c)
    single n = record { place = P; times = n } ∷ []

    single_on : (n : ℤ) → IsDivisorOn (setting_of c) P.side (single n)
    single_on n =
        let e : Entry (FunctionOf c) = record { place = P; times = n } in
        record {
          divisor = record {
            places = All-cons (λ e. IsPlace (setting_of c) e.place) e [] place
                (All-nil (λ e. IsPlace (setting_of c) e.place));
            different = AllPairs-cons (λ e e'. ¬ IsSamePlace (setting_of c) e.place e'.place) e []
                (All-nil (λ e'. ¬ IsSamePlace (setting_of c) P e'.place)) (λ i j d l m. absurd (omega (arith, m)));
          };
          sides = All-cons (λ e. e.place.side ≡ P.side) e [] refl (All-nil (λ e. e.place.side ≡ P.side));
        }

    abbrev Allowed : ℤ → FunctionOf c → Type 0
    Allowed n = DivisorIdeal (setting_of c) P.side (single n)

    -- the power P^n by its values
    allowed_single : (n : ℤ) → SameSet (DivisorIdeal (setting_of c) P.side (single (neg_ℤ n)))
        (MeetsOn (setting_of c) (single n) P.side)
    allowed_single n z = space_conditions c some P.side (single n) (single_on n) z

    single_module : (n : ℤ) → IsModule (ring_of c).ops (IsIntegralAt (setting_of c) P.side)
        (DivisorIdeal (setting_of c) P.side (single n))
    single_module n =
        let o = single_on n in
        ideal_module (setting_of c) (scalars_subring c) P.side (side_prime c some P.side)
        (side_invertible c some P.side) (single n)
        (both (λ e. IsPlace (setting_of c) e.place) (λ e. e.place.side ≡ P.side) (single n) o.divisor.places o.sides)

    -- opposite powers have 1 in their product
    one_in : (n : ℤ)
        → Product (ring_of c).ops (DivisorIdeal (setting_of c) P.side (single n))
        (DivisorIdeal (setting_of c) P.side (single (neg_ℤ n))) (ring_of c).𝟙
    one_in n =
        let o = single_on n in
        one_in_opposite (setting_of c) (scalars_subring c) P.side (side_prime c some P.side)
        (side_invertible c some P.side) (single n)
        (both (λ e. IsPlace (setting_of c) e.place) (λ e. e.place.side ≡ P.side) (single n) o.divisor.places o.sides)

    module _ (D E : Divisor (FunctionOf c)) (is_D : IsDivisor (setting_of c) D) (m : ℤ)
        (more : IsMoreAt c D P m E) where
      -- E is D less -m·P, and D is E less m·P
      less_opposite : IsDifference (setting_of c) D (single (neg_ℤ m)) E
      less_opposite = record {
        divisor = more.divisor;
        values = λ M place a b a_is.
            elim [
              | inl h ↦
                  subst (HasMultiplicity (setting_of c) E M) (total a b h.1) (more.here M place h.0 a a_is)
              | inr h ↦ subst (HasMultiplicity (setting_of c) E M) (none a b h.1) (more.elsewhere M place h.0 a a_is)
            ];
      }
        where
          total : (a b : ℤ) → neg_ℤ m ≡ b → a +ℤ m ≡ a -ℤ b
          total a b e = omega (arith, ints)

          none : (a b : ℤ) → b ≡ pos 0 → a ≡ a -ℤ b
          none a b e = omega (arith, ints)

      less_more : IsDifference (setting_of c) E (single m) D
      less_more = record {
        divisor = is_D;
        values = λ M place a b a_is b_is.
            let d = multiplicity_at c D is_D M place in
            subst (HasMultiplicity (setting_of c) D M) (
            elim b_is [
              | inl h ↦
                  total a b d.0 h.1
                  (multiplicity_unique (setting_of c) E M a (d.0 +ℤ m) a_is (more.here M place h.0 d.0 d.1))
              | inr h ↦
                  none a b d.0 h.1
                  (multiplicity_unique (setting_of c) E M a d.0 a_is (more.elsewhere M place h.0 d.0 d.1))
            ]
            ) d.1;
      }
        where
          total : (a b d : ℤ) → m ≡ b → a ≡ d +ℤ m → d ≡ a -ℤ b
          total a b d e f = omega (arith, ints)

          none : (a b d : ℤ) → b ≡ pos 0 → a ≡ d → d ≡ a -ℤ b
          none a b d e f = omega (arith, ints)

      abbrev X : FunctionOf c → Type 0
      X = MeetsOn (setting_of c) D P.side

      more_into : (z : FunctionOf c) → MeetsOn (setting_of c) E P.side z
          → Product (ring_of c).ops (DivisorIdeal (setting_of c) P.side (single (neg_ℤ m)))
          (MeetsOn (setting_of c) D P.side) z
      more_into z h =
          let K = Allowed (neg_ℤ m) in
          let 𝓚 = product_module (ring_of c) (Int P.side) (ring_at P.side) K X (single_module (neg_ℤ m)) in
          let takes = (difference_is_colon c some D (single (neg_ℤ m)) E is_D (single_on (neg_ℤ m)).divisor
          less_opposite P.side z).0 h in
          subst (Product ops K X) ((ring_of c).mul_one z)
          (product_universal (ring_of c) K (Allowed (neg_ℤ (neg_ℤ m))) (Product ops K X)
          (additive_of_module (ring_of c) (Int P.side) (Product ops K X) 𝓚) z
          (λ a b i j.
          subst (Product ops K X) (mul_left_comm (ring_of c) a z b)
          (product_member (ring_of c) (Int P.side) (ring_at P.side) K X a (z ⊗ b) i
          (takes b ((allowed_single (neg_ℤ m) b).0 j)))) 𝟙 (one_in (neg_ℤ m)))

      more_from : (z : FunctionOf c)
          → Product (ring_of c).ops (DivisorIdeal (setting_of c) P.side (single (neg_ℤ m)))
          (MeetsOn (setting_of c) D P.side) z
          → MeetsOn (setting_of c) E P.side z
      more_from =
          let Y = MeetsOn (setting_of c) E P.side in
          product_into (ring_of c) (Allowed (neg_ℤ m)) X Y
          (additive_of_module (ring_of c) (Int P.side) Y (allowed_module E more.divisor P.side))
          (λ a b i j.
          subst Y ((ring_of c).mul_comm b a)
          ((difference_is_colon c some E (single m) D more.divisor (single_on m).divisor less_more P.side b).0 j a
          ((allowed_single m a).0 i)))

      -- E allows the products of what D allows with the power P^(-m)
      pub more_allowed : SameSet (MeetsOn (setting_of c) E P.side)
          (Product (ring_of c).ops
          (IntegerPower (ring_of c).ops (IsIntegralAt (setting_of c) P.side) (IsIn (setting_of c) P) (neg_ℤ m))
          (MeetsOn (setting_of c) D P.side))
      more_allowed z =
          let B = Int P.side in
          let 𝓑 = ring_at P.side in
          let 𝓟 = prime_module (ring_of c) B 𝓑 (IsIn (setting_of c) P)
          (side_prime c some P.side P place refl).ideal in
          let I = IntegerPower ops B (IsIn (setting_of c) P) (neg_ℤ m) in
          let K = PrimePower ops B (IsIn (setting_of c) P) (neg_ℤ m) in
          let 𝓘 = integer_module (ring_of c) B 𝓑 (IsIn (setting_of c) P) 𝓟 (neg_ℤ m) in
          let s = integer_parts (ring_of c) B 𝓑 (IsIn (setting_of c) P) 𝓟 (neg_ℤ m) in
          let 𝓚 = same_module (ring_of c) B 𝓑 K I (λ a. ((s a).1, (s a).0)) 𝓘 in
          let one = product_one (ring_of c) B 𝓑 K 𝓚 in (
            λ h.
                product_monotone (ring_of c) B 𝓑 (Allowed (neg_ℤ m)) X I X 𝓘
                (λ a i. (s a).1 ((one a).0 (product_swap (ring_of c) B 𝓑 K B (own_module (ring_of c) B 𝓑) a i)))
                (λ a i. i) z (more_into z h),
            λ h.
                more_from z
                (product_monotone (ring_of c) B 𝓑 I X (Allowed (neg_ℤ m)) X (single_module (neg_ℤ m))
                (λ a i. product_swap (ring_of c) B 𝓑 B K 𝓚 a ((one a).1 ((s a).0 i))) (λ a i. i) z h),
          )
