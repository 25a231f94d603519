-- Additive subsets, ideals of a subring, powers of subsets, and multiples of one element.
use Rattle.std.specs.Prelude.{◌≡◌, ◌↔◌, ℕ, zero, suc}
use Rattle.ring_lemmas.specs.Ring.{Operations, pow}
use Rattle.ring_theory.specs.Subsets.{Product, Colon}

-- closed under 0 and +
pub record IsAdditive {A : Type 0} (R : Operations A) (M : A → Type 0) : Type 0 where
  pub zero_in : M R.𝟘
  pub sum_in : (a b : A) → M a → M b → M (R.◌⊕◌ a b)

-- a module over O that lies in O
pub record IsIdeal {A : Type 0} (R : Operations A) (O C : A → Type 0) : Type 0 where
  pub within : (a : A) → C a → O a
  pub zero_in : C R.𝟘
  pub sum_in : (a b : A) → C a → C b → C (R.◌⊕◌ a b)
  pub scale_in : (s a : A) → O s → C a → C (R.◌⊗◌ s a)

-- a set of denominators within S: it has 1 and the products of its members
pub record IsMultiplicative {A : Type 0} (R : Operations A) (S U : A → Type 0) : Type 0 where
  pub within : (w : A) → U w → S w
  pub one_in : U R.𝟙
  pub product_in : (a b : A) → U a → U b → U (R.◌⊗◌ a b)

-- the multiples of p by the members of M
pub record Multiple {A : Type 0} (R : Operations A) (p : A) (M : A → Type 0) (a : A) : Type 0 where
  pub quotient : A
  pub quotient_in : M quotient
  pub is : a ≡ R.◌⊗◌ p quotient

-- a is 1 up to a multiple of p
abbrev pub OneModulo : {A : Type 0} → Operations A → A → (A → Type 0) → A → Type 0
OneModulo R p M a = Multiple R p M (R.◌⊕◌ R.𝟙 (R.⊖◌ a))

-- two subsets with the same members
abbrev pub SameSet : {A : Type 0} → (A → Type 0) → (A → Type 0) → Type 0
SameSet {A} M N = (a : A) → M a ↔ N a

-- the n-fold product of P, which is O for n = 0
abbrev pub Power : {A : Type 0} → Operations A → (A → Type 0) → (A → Type 0) → ℕ → A → Type 0
Power R O P zero = O
Power R O P (suc n) = Product R P (Power R O P n)

-- the inverse candidate of P: the elements that take P into O
abbrev pub Inverse : {A : Type 0} → Operations A → (A → Type 0) → (A → Type 0) → A → Type 0
Inverse R O P = Colon R O P

-- P and its inverse have the product O: 1 is a sum of products
abbrev pub Invertible : {A : Type 0} → Operations A → (A → Type 0) → (A → Type 0) → Type 0
Invertible R O P = Product R P (Inverse R O P) R.𝟙

-- some power of z, not the zeroth, is in C
pub record PowerIn {A : Type 0} (R : Operations A) (C : A → Type 0) (z : A) : Type 0 where
  pub exponent : ℕ
  pub power_in : C (pow R z (suc exponent))
