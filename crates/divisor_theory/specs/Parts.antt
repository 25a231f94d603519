-- The part of a divisor at the places of one side, differences of divisors, and principal ones (Stichtenoth, section
-- 1.4).
use Rattle.std.specs.Prelude.{ℤ, ◌-ℤ◌, [], ◌∷◌}
use Rattle.function_field.specs.declared.side.Side.{Side}
use Rattle.function_field.specs.declared.side.Side.TheVariants.{Finite, Infinite}
use Rattle.function_field.specs.Setting.{Setting}
use Rattle.function_field.specs.Places.{Place, IsPlace, HasValuation}
use Rattle.function_field.specs.Divisors.{Entry, Divisor, IsDivisor, HasMultiplicity}

-- an entry at a place of the side t, before those of the side s
abbrev pub kept : {E : Type 0} → Side → Side → Entry E → Divisor E → Divisor E
kept Finite Finite e D = e ∷ D
kept Finite Infinite e D = D
kept Infinite Finite e D = D
kept Infinite Infinite e D = e ∷ D

-- the entries at places of the side s
abbrev pub part : {E : Type 0} → Side → Divisor E → Divisor E
part s [] = []
part s (e ∷ D) = kept s e.place.side e (part s D)

-- E(P) is W(P) - D(P) at each place P
pub record IsDifference {F : Type 0} (S : Setting F) (W D E : Divisor F) : Type 0 where
  pub divisor : IsDivisor S E
  pub values : (P : Place F) → IsPlace S P → (m n : ℤ) → HasMultiplicity S W P m → HasMultiplicity S D P n
      → HasMultiplicity S E P (m -ℤ n)

-- D(P) is v_P(z) at each place P
pub record IsPrincipal {F : Type 0} (S : Setting F) (D : Divisor F) (z : F) : Type 0 where
  pub divisor : IsDivisor S D
  pub values : (P : Place F) → IsPlace S P → (m : ℤ) → HasMultiplicity S D P m → HasValuation S P z m
