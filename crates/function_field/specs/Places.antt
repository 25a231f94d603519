-- Places, their powers and valuations.
use Rattle.std.specs.Prelude.{◌≡◌, ℕ, zero, suc, ℤ, pos, negsuc, ◌+ℤ◌, List, ◌↔◌}
use Rattle.ring_theory.specs.Integral.{IsIntegral}
use Rattle.ring_theory.specs.Subsets.{Span, Product}
use Rattle.function_field.specs.declared.side.Side.{Side}
use Rattle.function_field.specs.declared.side.Side.TheVariants.{Finite}
use Rattle.function_field.specs.Setting.{Setting}
use Rattle.function_field.specs.Spans.{minus}

-- a side, and functions that span an ideal of that side
pub record Place (E : Type 0) : Type 0 where
  pub side : Side
  pub generators : List E

module _ {E : Type 0} (S : Setting E) where
  infixl 70 ◌⊗◌
  open S.functions use {ops, 𝟙, ◌⊗◌}

  -- O_s, the functions that are integral over R_s
  abbrev pub IsIntegralAt : Side → E → Type 0
  IsIntegralAt s = IsIntegral ops (S.IsScalar s)

  -- M, the span over R_s
  abbrev pub IsIn : Place E → E → Type 0
  IsIn P = Span ops (S.IsScalar P.side) P.generators

  pub record IsPlace (P : Place E) : Type 0 where
    pub integral : (z : E) → IsIn P z → IsIntegralAt P.side z
    pub ideal : (z w : E) → IsIntegralAt P.side z → IsIn P w → IsIn P (z ⊗ w)
    pub proper : ¬ IsIn P 𝟙
    pub inverse : (z : E) → IsIntegralAt P.side z → ¬ IsIn P z
        → (w : E) × IsIntegralAt P.side w × IsIn P (minus ops (z ⊗ w) 𝟙)

  pub record IsSamePlace (P Q : Place E) : Type 0 where
    pub side : P.side ≡ Q.side
    pub members : (z : E) → IsIn P z ↔ IsIn Q z

  -- a finite place lies over p where p is in M
  pub record LiesOver (P : Place E) (p : E) : Type 0 where
    pub side : P.side ≡ Finite
    pub member : IsIn P p

  -- P^m
  abbrev pub InPower : Place E → ℕ → E → Type 0
  InPower P zero = IsIntegralAt P.side
  InPower P (suc m) = Product ops (InPower P m) (IsIn P)

  -- v_P(z) ≥ m
  pub record IsInPowerLocally (P : Place E) (m : ℕ) (z : E) : Type 0 where
    pub factor : E
    pub integral : IsIntegralAt P.side factor
    pub outside : ¬ IsIn P factor
    pub product : InPower P m (factor ⊗ z)

  -- v_P(z) ≥ -m
  pub record TakesPowerLocally (P : Place E) (m : ℕ) (z : E) : Type 0 where
    pub factor : E
    pub integral : IsIntegralAt P.side factor
    pub outside : ¬ IsIn P factor
    pub products : (w : E) → InPower P m w → IsIntegralAt P.side (factor ⊗ z ⊗ w)

  abbrev pub HasValuationAtLeast : Place E → E → ℤ → Type 0
  HasValuationAtLeast P z (pos m) = IsInPowerLocally P m z
  HasValuationAtLeast P z (negsuc m) = TakesPowerLocally P (suc m) z

  pub record HasValuation (P : Place E) (z : E) (m : ℤ) : Type 0 where
    pub reached : HasValuationAtLeast P z m
    pub not_more : ¬ HasValuationAtLeast P z (m +ℤ pos 1)
