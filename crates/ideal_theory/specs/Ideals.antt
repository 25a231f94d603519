-- The ideals of divisors: products of powers of places of one side (Stichtenoth, section 3.2; Hess, section 3).
use Rattle.std.specs.Prelude.{◌≡◌, ℤ, neg_ℤ, [], ◌∷◌, All}
use Rattle.ring_theory.specs.Subsets.{Product}
use Rattle.prime_theory.specs.IntegerValues.{PrimePower}
use Rattle.function_field.specs.declared.side.Side.{Side}
use Rattle.function_field.specs.Setting.{Setting}
use Rattle.function_field.specs.Places.{Place, IsPlace, IsIntegralAt, IsIn, HasValuationAtLeast, HasValuation}
use Rattle.function_field.specs.Divisors.{Divisor, IsDivisor, HasMultiplicity}

module _ {E : Type 0} (S : Setting E) (s : Side) where
  open S.functions use {ops}

  -- a divisor with places of the side alone
  pub record IsDivisorOn (D : Divisor E) : Type 0 where
    pub divisor : IsDivisor S D
    pub sides : All (λ e. e.place.side ≡ s) D

  -- the product of the powers P^D(P); for D(P) < 0 the power of what takes P into the integral functions
  abbrev pub DivisorIdeal : Divisor E → E → Type 0
  DivisorIdeal [] = IsIntegralAt S s
  DivisorIdeal (e ∷ D) = Product ops (PrimePower ops (IsIntegralAt S s) (IsIn S e.place) e.times) (DivisorIdeal D)

  -- v_P(z) ≥ D(P) at each place of the side
  abbrev pub HasValuesOf : Divisor E → E → Type 0
  HasValuesOf D z = (P : Place E) → IsPlace S P → P.side ≡ s → (m : ℤ) → HasMultiplicity S D P m
      → HasValuationAtLeast S P z m

  -- D(P) is v_P(z) at each place P of the side
  pub record IsDivisorOf (D : Divisor E) (z : E) : Type 0 where
    pub on : IsDivisorOn D
    pub values : (P : Place E) → IsPlace S P → P.side ≡ s → (m : ℤ) → HasMultiplicity S D P m → HasValuation S P z m

-- the divisor -D
abbrev pub opposite_divisor : {E : Type 0} → Divisor E → Divisor E
opposite_divisor [] = []
opposite_divisor (e ∷ D) = record { place = e.place; times = neg_ℤ e.times } ∷ opposite_divisor D
