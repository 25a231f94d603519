-- 1 is in the space of the divisor 0.
use Rattle.std.proofs.Common.{pos, neg_ℤ, [], sym, ◌∙◌, ap₂, subst, lit≤}
use Rattle.ring_lemmas.specs.Ring.{CommRing}
use Rattle.ring_theory.specs.Integral.{IsIntegral}
use Rattle.ring_lemmas.proofs.Ring.{zero_add}
use Rattle.function_field.specs.declared.side.Side.{Side}
use Rattle.function_field.specs.Setting.{Setting}
use Rattle.function_field.specs.Places.{Place, IsPlace, IsIntegralAt, HasValuationAtLeast}
use Rattle.function_field.specs.Divisors.{InSpace}

module _ {E : Type 0} (F : CommRing E) (R : E → Type 0) where
  -- what is in R with its negative is integral
  pub integral_of_scalar : (a : E) → R (F.⊖◌ a) → IsIntegral F.ops R a
  integral_of_scalar a h = record {
    degree = 1;
    positive = lit≤ tt;
    coefficient = λ i. F.⊖◌ a;
    coefficient_in = λ i. h;
    root = ap₂ F.◌⊕◌ (F.mul_one a) (zero_add F _ ∙ F.mul_one (F.⊖◌ a)) ∙ F.add_neg a;
  }

module _ {E : Type 0} (S : Setting E) (scalars : (s : Side) → S.IsScalar s (S.functions.⊖◌ S.functions.𝟙)) where
  one_integral : (s : Side) → IsIntegralAt S s S.functions.𝟙
  one_integral s = integral_of_scalar S.functions (S.IsScalar s) S.functions.𝟙 (scalars s)

  one_at_least : (P : Place E) → IsPlace S P → HasValuationAtLeast S P S.functions.𝟙 (pos 0)
  one_at_least P place = record {
    factor = S.functions.𝟙;
    integral = one_integral P.side;
    outside = place.proper;
    product = subst (IsIntegralAt S P.side) (sym (S.functions.mul_one S.functions.𝟙)) (one_integral P.side);
  }

  pub one_in_space : InSpace S [] S.functions.𝟙
  one_in_space s P place side m h =
      subst (λ v. HasValuationAtLeast S P S.functions.𝟙 (neg_ℤ v)) (sym h) (one_at_least P place)
