-- Prime (maximal) ideals of a subring O, pairs of elements that stand for them, and valuations.
-- An integer exponent is a difference a - b of numbers of ℕ, written as the two of them.
use Rattle.std.specs.Prelude.{◌⊎◌, ℕ}
use Rattle.ring_lemmas.specs.Ring.{Operations, pow}
use Rattle.prime_theory.specs.Ideals.{IsIdeal, Inverse}

-- an inverse of u in O up to a member of P
pub record InverseModulo {A : Type 0} (R : Operations A) (O P : A → Type 0) (u : A) : Type 0 where
  pub inverse : A
  pub inverse_in : O inverse
  pub is : P (R.◌⊕◌ (R.◌⊗◌ inverse u) (R.⊖◌ R.𝟙))

-- an ideal with a field of classes, membership decided
pub record IsPrime {A : Type 0} (R : Operations A) (O P : A → Type 0) : Type 0 where
  pub ideal : IsIdeal R O P
  pub proper : ¬ (P R.𝟙)
  pub invert : (u : A) → O u → ¬ (P u) → InverseModulo R O P u
  pub decide : (u : A) → O u → P u ⊎ (¬ (P u))

-- an element of O outside P
pub record Outside {A : Type 0} (O P : A → Type 0) (u : A) : Type 0 where
  pub within : O u
  pub out : ¬ (P u)

-- tau in P and gamma in the inverse of P whose product is a unit at P
pub record Pair {A : Type 0} (R : Operations A) (O P : A → Type 0) : Type 0 where
  pub tau : A
  pub tau_in : P tau
  pub gamma : A
  pub gamma_in : Inverse R O P gamma
  pub outside : Outside O P (R.◌⊗◌ tau gamma)

-- two primes, each with a member outside the other
pub record Different {A : Type 0} (P P' : A → Type 0) : Type 0 where
  pub first : A
  pub first_in : P first
  pub first_out : ¬ (P' first)
  pub second : A
  pub second_in : P' second
  pub second_out : ¬ (P second)

-- gamma^a·tau^b, an element of value b - a
unfoldable pub theta : {A : Type 0} → Operations A → A → A → ℕ → ℕ → A
theta R tau gamma a b = R.◌⊗◌ (pow R gamma a) (pow R tau b)

-- u·z·theta is in X for some u of O outside P
pub record Valued {A : Type 0} (R : Operations A) (O P X : A → Type 0) (tau gamma z : A) (a b : ℕ) : Type 0 where
  pub unit : A
  pub unit_out : Outside O P unit
  pub inside : X (R.◌⊗◌ (R.◌⊗◌ unit z) (theta R tau gamma a b))

-- the value of z at P is at least a - b
abbrev pub AtLeast : {A : Type 0} → Operations A → (A → Type 0) → (A → Type 0) → A → A → A → ℕ → ℕ → Type 0
AtLeast R O P tau gamma z a b = Valued R O P O tau gamma z a b

-- the value of z at P is a - b
abbrev pub Exactly : {A : Type 0} → Operations A → (A → Type 0) → (A → Type 0) → A → A → A → ℕ → ℕ → Type 0
Exactly R O P tau gamma z a b = Valued R O P (Outside O P) tau gamma z a b
