-- Places with the same members have the same valuation and the same degree.
use Rattle.std.proofs.Common.{◌↔◌, ℕ, zero, suc, List, refl}
use Rattle.std.specs.Prelude.{ℤ, pos, negsuc}
use Rattle.ring_theory.specs.Maps.{IsHom}
use Rattle.function_field.specs.declared.side.Side.{Side}
use Rattle.function_field.specs.Setting.{Setting}
use Rattle.function_field.specs.Places.{Place, IsIn, InPower, HasValuationAtLeast, HasValuation}
use Rattle.function_field.specs.Divisors.{HasDegree}
use Rattle.places_theory.proofs.Transport.{product_image}

module _ {E : Type 0} (S : Setting E) (s : Side) where
  abbrev at : List E → Place E
  at gs = record { side = s; generators = gs }

  self : IsHom S.functions S.functions (λ z. z)
  self = record { add = λ a b. refl; mul = λ a b. refl; 𝟙 = refl }

  in_power_same : (gs hs : List E) → ((z : E) → IsIn S (at gs) z ↔ IsIn S (at hs) z) → (m : ℕ) (z : E)
      → InPower S (at gs) m z → InPower S (at hs) m z
  in_power_same gs hs e zero z h = h
  in_power_same gs hs e (suc m) z h =
      product_image S.functions S.functions (λ z. z) self (InPower S (at gs) m) (IsIn S (at gs))
      (InPower S (at hs) m) (IsIn S (at hs))
      (in_power_same gs hs e m) (λ a. (e a).0) z h

  pub turn : (gs hs : List E) → ((z : E) → IsIn S (at gs) z ↔ IsIn S (at hs) z) → (z : E) → IsIn S (at hs) z
      ↔ IsIn S (at gs) z
  turn gs hs e z = ((e z).1, (e z).0)

  pub at_least_same : (gs hs : List E) → ((z : E) → IsIn S (at gs) z ↔ IsIn S (at hs) z) → (z : E) (m : ℤ)
      → HasValuationAtLeast S (at gs) z m
      → HasValuationAtLeast S (at hs) z m
  at_least_same gs hs e z (pos m) v = record {
    factor = v.factor;
    integral = v.integral;
    outside = λ n. v.outside ((e v.factor).1 n);
    product = in_power_same gs hs e m _ v.product;
  }
  at_least_same gs hs e z (negsuc m) v = record {
    factor = v.factor;
    integral = v.integral;
    outside = λ n. v.outside ((e v.factor).1 n);
    products = λ w i. v.products w (in_power_same hs gs (turn gs hs e) (suc m) w i);
  }

  pub value_same : (gs hs : List E) → ((z : E) → IsIn S (at gs) z ↔ IsIn S (at hs) z) → (z : E) (m : ℤ)
      → HasValuation S (at gs) z m → HasValuation S (at hs) z m
  value_same gs hs e z m v = record {
    reached = at_least_same gs hs e z m v.reached;
    not_more = λ n. v.not_more (at_least_same hs gs (turn gs hs e) z _ n);
  }

  pub degree_same : (gs hs : List E) → ((z : E) → IsIn S (at gs) z ↔ IsIn S (at hs) z) → (d : ℕ)
      → HasDegree S (at gs) d → HasDegree S (at hs) d
  degree_same gs hs e d h = record {
    classes = h.classes;
    count = h.count;
    members = h.members;
    spanning = λ z z_in. let s = h.spanning z z_in in (s.0, s.1, (e _).0 s.2);
    independent = λ cs size all m. h.independent cs size all ((e _).1 m);
  }
