-- The integral functions of a side are a ring, and the places of the side are its maximal ideals with finitely many
-- generators.
use Rattle.std.proofs.Common.{◌↔◌, ℕ, zero, suc, ap, subst}
use Rattle.ring_theory.specs.Subsets.{IsSubring, IsModule}
use Rattle.ring_theory.proofs.Subsets.{span_module, product_module}
use Rattle.prime_theory.specs.Ideals.{IsIdeal, SameSet, Power}
use Rattle.prime_theory.specs.Places.{IsMaximalIdeal}
use Rattle.prime_theory.proofs.IntegralRing.{integral_ring, integral_base}
use Rattle.prime_theory.proofs.Products.{own_module, power_module, product_monotone, product_swap, product_into, additive_of_module}
use Rattle.function_field.specs.declared.side.Side.{Side}
use Rattle.function_field.specs.Setting.{Setting}
use Rattle.function_field.specs.Places.{Place, IsPlace, IsIntegralAt, IsIn, InPower}

module _ {E : Type 0} (S : Setting E) (scalars : (s : Side) → IsSubring S.functions.ops (S.IsScalar s)) where
  infixl 65 ◌⊕◌
  infixl 70 ◌⊗◌
  infixr 80 ⊖◌
  open S.functions use {ops, 𝟘, 𝟙, ◌⊕◌, ◌⊗◌, ⊖◌}

  pub side_ring : (s : Side) → IsSubring ops (IsIntegralAt S s)
  side_ring s = integral_ring S.functions (S.IsScalar s) (scalars s)

  pub scalar_integral : (s : Side) (z : E) → S.IsScalar s z → IsIntegralAt S s z
  scalar_integral s = integral_base S.functions (S.IsScalar s) (scalars s)

  pub integral_module : (s : Side) → IsModule ops (IsIntegralAt S s) (IsIntegralAt S s)
  integral_module s = own_module S.functions (IsIntegralAt S s) (side_ring s)

  pub place_ideal : (P : Place E) → IsPlace S P → IsIdeal ops (IsIntegralAt S P.side) (IsIn S P)
  place_ideal P place =
      let 𝓜 = span_module S.functions (S.IsScalar P.side) (scalars P.side) P.generators in
      record { within = place.integral; zero_in = 𝓜.zero_in; sum_in = 𝓜.sum_in; scale_in = place.ideal }

  pub place_module : (P : Place E) → IsPlace S P → IsModule ops (IsIntegralAt S P.side) (IsIn S P)
  place_module P place =
      let 𝓜 = place_ideal P place in
      record { zero_in = 𝓜.zero_in; sum_in = 𝓜.sum_in; scale_in = 𝓜.scale_in }

  -- a place is a maximal ideal of the ring of its side
  pub place_is_maximal : (P : Place E) → IsPlace S P ↔ IsMaximalIdeal ops (IsIntegralAt S P.side) (IsIn S P)
  place_is_maximal P = (
    λ place. record {
      ideal = place_ideal P place;
      proper = place.proper;
      invert = λ u u_in n.
          let w = place.inverse u u_in n in
          record {
            inverse = w.0;
            inverse_in = w.1;
            is = subst (IsIn S P)
                (ap (λ x. x ⊕ ⊖ 𝟙) (S.functions.mul_comm u w.0)) w.2;
          };
    },
    λ max. record {
      integral = max.ideal.within;
      ideal = max.ideal.scale_in;
      proper = max.proper;
      inverse = λ z z_in n.
          let w = max.invert z z_in n in
          (w.inverse, w.inverse_in, subst (IsIn S P) (ap (λ x. x ⊕ ⊖ 𝟙) (S.functions.mul_comm w.inverse z)) w.is);
    },
  )

  -- the powers of a place are ideals, those of the local theory
  module _ (P : Place E) (place : IsPlace S P) where
    pub in_power_module : (m : ℕ) → IsModule ops (IsIntegralAt S P.side) (InPower S P m)
    in_power_module zero = integral_module P.side
    in_power_module (suc m) =
        product_module S.functions (IsIntegralAt S P.side) (side_ring P.side) (InPower S P m) (IsIn S P)
        (in_power_module m)

    pub in_power_integral : (m : ℕ) (z : E) → InPower S P m z → IsIntegralAt S P.side z
    in_power_integral zero z h = h
    in_power_integral (suc m) z h =
        product_into S.functions (InPower S P m) (IsIn S P) (IsIntegralAt S P.side)
        (additive_of_module S.functions (IsIntegralAt S P.side) (IsIntegralAt S P.side) (integral_module P.side))
        (λ a b i j. (side_ring P.side).product_in a b (in_power_integral m a i) (place.integral b j)) z h

    -- each lies in the one before, and from the first on in the place
    pub in_power_descends : (m : ℕ) (z : E) → InPower S P (suc m) z → InPower S P m z
    in_power_descends m z h =
        product_into S.functions (InPower S P m) (IsIn S P) (InPower S P m)
        (additive_of_module S.functions (IsIntegralAt S P.side) (InPower S P m) (in_power_module m))
        (λ a b i j. subst (InPower S P m) (S.functions.mul_comm b a)
        ((in_power_module m).scale_in b a (place.integral b j) i)) z h

    pub in_power_within : (m : ℕ) (z : E) → InPower S P (suc m) z → IsIn S P z
    in_power_within m z h =
        product_into S.functions (InPower S P m) (IsIn S P) (IsIn S P)
        (additive_of_module S.functions (IsIntegralAt S P.side) (IsIn S P) (place_module P place))
        (λ a b i j. place.ideal a b (in_power_integral m a i) j) z h

    pub in_power_is : (m : ℕ) → SameSet (InPower S P m) (Power ops (IsIntegralAt S P.side) (IsIn S P) m)
    in_power_is zero z = (λ h. h, λ h. h)
    in_power_is (suc m) z =
        let O = IsIntegralAt S P.side in
        let M = IsIn S P in
        let 𝓞 = side_ring P.side in
        let 𝓜 = place_module P place in
        let same = in_power_is m in (
          λ h.
              product_swap S.functions O 𝓞 (Power ops O M m) M 𝓜 z
              (product_monotone S.functions O 𝓞 (InPower S P m) M (Power ops O M m) M
              (power_module S.functions O 𝓞 M 𝓜 m)
              (λ a. (same a).0) (λ a i. i) z h),
          λ h.
              product_monotone S.functions O 𝓞 (Power ops O M m) M (InPower S P m) M (in_power_module m)
              (λ a. (same a).1) (λ a i. i) z
              (product_swap S.functions O 𝓞 M (Power ops O M m) (power_module S.functions O 𝓞 M 𝓜 m) z h),
        )
