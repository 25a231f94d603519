-- At a place over p, with an order that is maximal at p: the valuation of the place is that of its prime of the order.
-- So it is additive on products, and each function with an inverse has one.
use Rattle.prime_theory.proofs.Scalars.{span_wider}
use Rattle.std.proofs.Common.{◌≡◌, ◌↔◌, ◌⊎◌, inl, inr, ℕ, suc, arith}
use Rattle.std.proofs.lemmas.Int.{ints}
use Rattle.std.proofs.Math.IntN.{ℤ, pos, negsuc, ◌+ℤ◌, ◌-ℤ◌}
use Rattle.ring_lemmas.specs.Ring.{pow}
use Rattle.ring_theory.specs.Subsets.{IsSubring}
use Rattle.ring_theory.specs.Local.{Locally}
use Rattle.ring_theory.proofs.Subsets.{span_members}
use Rattle.prime_theory.specs.Primes.{IsPrime, Pair}
use Rattle.prime_theory.specs.Places.{PlaceAtLeast, PlaceAtLeastMinus, PlaceOf}
use Rattle.prime_theory.specs.IntegerValues.{up, down, ValueAtLeast, ValueIs}
use Rattle.prime_theory.proofs.Places.{prime_of_place, place_from_prime, value_of_place, place_of_value, value_of_place_minus, place_minus_of_value}
use Rattle.prime_theory.proofs.IntegerValues.{value_of_exact, value_bounded, value_next, exact_product, exact_sum}
use Rattle.prime_theory.proofs.IntegerFactors.{parts_of}
use Rattle.prime_theory.proofs.Valuation.{eq_reindex}
use Rattle.prime_theory.proofs.Exact.{exact_of_invertible}
use Rattle.function_field.specs.declared.side.Side.{Side}
use Rattle.function_field.specs.Setting.{Setting}
use Rattle.function_field.specs.Places.{Place, IsPlace, IsIntegralAt, IsIn, IsInPowerLocally, TakesPowerLocally, HasValuationAtLeast, HasValuation}
use Rattle.places_theory.specs.Orders.{IsOrderAt, InPrime}
use Rattle.places_theory.proofs.Sides.{side_ring, scalar_integral, place_is_maximal, place_ideal, in_power_is}

module _ {E : Type 0} (S : Setting E) (scalars : (s : Side) → IsSubring S.functions.ops (S.IsScalar s)) (P : Place E)
    (place : IsPlace S P)
    (Base N O : E → Type 0) (p : E) (order : IsOrderAt S P.side Base N p O) (p_in : IsIn S P p)
    (decide : (u : E) → O u → IsIn S P u ⊎ (¬ (IsIn S P u))) where
  infixl 65 ◌⊕◌
  infixl 70 ◌⊗◌
  infixr 80 ⊖◌
  open S.functions use {ops, 𝟘, 𝟙, ◌⊕◌, ◌⊗◌, ⊖◌}

  abbrev B : E → Type 0
  B = IsIntegralAt S P.side

  abbrev M : E → Type 0
  M = IsIn S P

  pub place_prime : IsPrime ops O (InPrime S P O)
  place_prime =
      prime_of_place S.functions Base order.base_ring N p order.prime_to O order.ring order.base B
      (side_ring S scalars P.side) order.integral order.locally
      M ((place_is_maximal S scalars P).0 place) p_in decide

  from_prime : (z : E) → IsIn S P z ↔ PlaceOf ops B N (InPrime S P O) z
  from_prime =
      place_from_prime S.functions Base order.base_ring N p order.prime_to O order.ring order.base B
      (side_ring S scalars P.side) order.integral order.locally
      M ((place_is_maximal S scalars P).0 place) p_in

  to_local : (z : E) → IsIn S P z → Locally ops N (InPrime S P O) z
  to_local z h = ((from_prime z).0 h).1

  p_order : O p
  p_order = order.base p order.prime_to.p_in

  -- the two forms of each condition
  at_least : (z : E) (m : ℕ) → IsInPowerLocally S P m z ↔ PlaceAtLeast ops B M z m
  at_least z m = (
    λ h. record {
      unit = h.factor;
      unit_in = h.integral;
      unit_out = h.outside;
      inside = (in_power_is S scalars P place m (h.factor ⊗ z)).0 h.product;
    },
    λ h. record {
      factor = h.unit;
      integral = h.unit_in;
      outside = h.unit_out;
      product = (in_power_is S scalars P place m (h.unit ⊗ z)).1 h.inside;
    },
  )

  at_least_minus : (z : E) (m : ℕ) → TakesPowerLocally S P m z ↔ PlaceAtLeastMinus ops B M z m
  at_least_minus z m = (
    λ h. record {
      unit = h.factor;
      unit_in = h.integral;
      unit_out = h.outside;
      takes = λ w i. h.products w ((in_power_is S scalars P place m w).1 i);
    },
    λ h. record {
      factor = h.unit;
      integral = h.unit_in;
      outside = h.unit_out;
      products = λ w i. h.takes w ((in_power_is S scalars P place m w).0 i);
    },
  )

  module _ (t : Pair ops O (InPrime S P O)) where
    prime_p : (InPrime S P O) p
    prime_p = (p_order, p_in)

    -- the valuation of the place is that of the prime
    pub value_iff : (z : E) (m : ℤ) → HasValuationAtLeast S P z m ↔ ValueAtLeast ops O (InPrime S P O) t z m
    value_iff z (pos m) = (
      λ h.
          value_of_place S.functions Base order.base_ring N p order.prime_to O order.ring order.base B
          (side_ring S scalars P.side) order.integral order.locally
          (InPrime S P O) place_prime prime_p t M (place_ideal S scalars P place) to_local (λ a i. i.1) z m
          ((at_least z m).0 h),
      λ h.
          (at_least z m).1
          (place_of_value S.functions Base order.base_ring N p order.prime_to O order.ring order.base B
          (side_ring S scalars P.side) order.integral order.locally
          (InPrime S P O) place_prime prime_p t M (place_ideal S scalars P place) to_local (λ a i. i.1) z m h),
    )
    value_iff z (negsuc m) = (
      λ h.
          value_of_place_minus S.functions Base order.base_ring N p order.prime_to O order.ring order.base B
          (side_ring S scalars P.side) order.integral order.locally
          (InPrime S P O) place_prime prime_p t M (place_ideal S scalars P place) to_local (λ a i. i.1) z (suc m)
          ((at_least_minus z (suc m)).0 h),
      λ h.
          (at_least_minus z (suc m)).1
          (place_minus_of_value S.functions Base order.base_ring N p order.prime_to O order.ring order.base B
          (side_ring S scalars P.side) order.integral order.locally
          (InPrime S P O) place_prime prime_p t M (place_ideal S scalars P place) to_local (λ a i. i.1) P.generators
          (span_members S.functions (S.IsScalar P.side) (scalars P.side) P.generators)
          (span_wider S.functions (S.IsScalar P.side) B (scalar_integral S scalars P.side) P.generators) z (suc m)
          h),
    )

    pub valuation_iff : (z : E) (m : ℤ) → HasValuation S P z m ↔ ValueIs ops O (InPrime S P O) t z m
    valuation_iff z m = (
      λ h. exact h (value_next S.functions O order.ring (InPrime S P O) place_prime t z m
          ((value_iff z m).0 h.reached)),
      λ h. record {
        reached = (value_iff z m).1 (value_of_exact S.functions O order.ring (InPrime S P O) place_prime t z m h);
        not_more = λ i.
            let l = value_bounded S.functions O order.ring (InPrime S P O) place_prime t z m (m +ℤ pos 1) h
            ((value_iff z (m +ℤ pos 1)).0 i) in
            absurd (omega (arith, ints));
      },
    )
      where
        exact : HasValuation S P z m → ValueAtLeast ops O (InPrime S P O) t z (m +ℤ pos 1)
            ⊎ ValueIs ops O (InPrime S P O) t z m → ValueIs ops O (InPrime S P O) t z m
        exact h (inl i) = absurd (h.not_more ((value_iff z (m +ℤ pos 1)).1 i))
        exact h (inr i) = i

    -- values add on products
    pub valuation_product : (z w : E) (m n : ℤ) → HasValuation S P z m → HasValuation S P w n
        → HasValuation S P (z ⊗ w) (m +ℤ n)
    valuation_product z w m n h i =
        (valuation_iff (z ⊗ w) (m +ℤ n)).1
        (exact_product S.functions O order.ring (InPrime S P O) place_prime t z w m n ((valuation_iff z m).0 h)
        ((valuation_iff w n).0 i))

    -- and that of a sum of different values is the smaller one
    pub valuation_sum : (z w : E) (m : ℤ) → HasValuation S P z m → HasValuationAtLeast S P w (m +ℤ pos 1)
        → HasValuation S P (z ⊕ w) m
    valuation_sum z w m h i =
        (valuation_iff (z ⊕ w) m).1
        (exact_sum S.functions O order.ring (InPrime S P O) place_prime t z w m ((valuation_iff z m).0 h)
        ((value_iff w (m +ℤ pos 1)).0 i))

    -- a function with an inverse has a valuation: d·z and d'·y are in the order, with d·d' a power of p times a w
    -- outside the place
    pub valuation_exists : (z y d d' w : E) (e n : ℕ) → z ⊗ y ≡ 𝟙 → O d → O d' → O (d ⊗ z) → O (d' ⊗ y)
        → d ⊗ d' ≡ pow ops p n ⊗ w
        → O w → ¬ (IsIn S P w) → HasValuation S P p (pos e) → (m : ℤ) × HasValuation S P z m
    valuation_exists z y d d' w e n inverse d_in d'_in dz d'y split w_in w_out h =
        let r =
        exact_of_invertible S.functions O order.ring (InPrime S P O) place_prime t p z y d d' w e n inverse d_in d'_in
        dz d'y split
        (record { within = w_in; out = λ i. w_out i.1 }) ((valuation_iff p (pos e)).0 h) in (
          pos r.0 -ℤ pos r.1,
          (valuation_iff z (pos r.0 -ℤ pos r.1)).1
              (eq_reindex S.functions O order.ring (InPrime S P O) place_prime t z r.0 r.1 (up (pos r.0 -ℤ pos r.1))
              (down (pos r.0 -ℤ pos r.1)) (parts_of r.0 r.1) r.2),
        )
