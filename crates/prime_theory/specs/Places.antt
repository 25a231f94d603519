-- Maximal ideals of a ring B, and the valuation that their powers give.
use Rattle.std.specs.Prelude.{ℕ}
use Rattle.ring_lemmas.specs.Ring.{Operations}
use Rattle.ring_theory.specs.Local.{Locally}
use Rattle.prime_theory.specs.Ideals.{IsIdeal, Power}
use Rattle.prime_theory.specs.Primes.{InverseModulo}

-- an ideal without 1 modulo which each element outside has an inverse; as `IsPrime`, with no decision
pub record IsMaximalIdeal {A : Type 0} (R : Operations A) (B M : A → Type 0) : Type 0 where
  pub ideal : IsIdeal R B M
  pub proper : ¬ (M R.𝟙)
  pub invert : (u : A) → B u → ¬ (M u) → InverseModulo R B M u

-- the members of B that are in P locally
abbrev pub PlaceOf : {A : Type 0} → Operations A → (A → Type 0) → (A → Type 0) → (A → Type 0) → A → Type 0
PlaceOf R B N P z = B z × Locally R N P z

-- u·z is in the m-th power of M for some u of B outside M
pub record PlaceAtLeast {A : Type 0} (R : Operations A) (B M : A → Type 0) (z : A) (m : ℕ) : Type 0 where
  pub unit : A
  pub unit_in : B unit
  pub unit_out : ¬ (M unit)
  pub inside : Power R B M m (R.◌⊗◌ unit z)

-- the value of z is at least -m: u·z takes the m-th power of M into B for some u of B outside M
pub record PlaceAtLeastMinus {A : Type 0} (R : Operations A) (B M : A → Type 0) (z : A) (m : ℕ) : Type 0 where
  pub unit : A
  pub unit_in : B unit
  pub unit_out : ¬ (M unit)
  pub takes : (w : A) → Power R B M m w → B (R.◌⊗◌ (R.◌⊗◌ unit z) w)
