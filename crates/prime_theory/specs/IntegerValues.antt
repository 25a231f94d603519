-- Values in the integers: the pair of numbers that stands for an integer exponent.
use Rattle.std.specs.Prelude.{ℕ, suc, ℤ}
use Rattle.std.proofs.Common.{pos, negsuc}
use Rattle.ring_lemmas.specs.Ring.{Operations}
use Rattle.prime_theory.specs.Primes.{Pair, AtLeast, Exactly}
use Rattle.prime_theory.specs.Systems.{IdealPower, PrimeExponent}

-- the positive and the negative part
abbrev pub up : ℤ → ℕ
up (pos n) = n
up (negsuc n) = 0

abbrev pub down : ℤ → ℕ
down (pos n) = 0
down (negsuc n) = suc n

-- the value of z at P is at least m
abbrev pub ValueAtLeast : {A : Type 0} (R : Operations A) (O P : A → Type 0) → Pair R O P → A → ℤ → Type 0
ValueAtLeast R O P t z m = AtLeast R O P t.tau t.gamma z (up m) (down m)

-- the value of z at P is m
abbrev pub ValueIs : {A : Type 0} (R : Operations A) (O P : A → Type 0) → Pair R O P → A → ℤ → Type 0
ValueIs R O P t z m = Exactly R O P t.tau t.gamma z (up m) (down m)

-- the m-th power of P, for an integer m
abbrev pub PrimePower : {A : Type 0} (R : Operations A) (O P : A → Type 0) → ℤ → A → Type 0
PrimePower R O P m = IdealPower R O P (up m) (down m)

-- a prime of a family with an integer exponent
abbrev pub entry : {I : Type 0} → I → ℤ → PrimeExponent I
entry i m = record { index = i; up = up m; down = down m }
