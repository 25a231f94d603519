-- Powers with integers as exponents.
use Rattle.std.specs.Prelude.{suc, ℤ, pos, negsuc}
use Rattle.ring_lemmas.specs.Ring.{Operations}
use Rattle.prime_theory.specs.Ideals.{Inverse, Power}

-- the m-th power of I: O for m = 0, a product of m copies of I for m > 0, and of -m copies of its inverse for m < 0
abbrev pub IntegerPower : {A : Type 0} → Operations A → (A → Type 0) → (A → Type 0) → ℤ → A → Type 0
IntegerPower R O I (pos m) = Power R O I m
IntegerPower R O I (negsuc m) = Power R O (Inverse R O I) (suc m)
