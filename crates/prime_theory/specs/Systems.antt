-- Localisation of modules at a prime, products of powers of primes, and prime systems at an element p.
use Rattle.std.specs.Prelude.{◌≡◌, ◌⊎◌, ℕ, ◌+◌, List, [], ◌∷◌, All, AllPairs}
use Rattle.std.proofs.Common.{inl, inr}
use Rattle.ring_lemmas.specs.Ring.{Operations}
use Rattle.ring_theory.specs.Subsets.{Product, Span}
use Rattle.ring_lemmas.specs.Sums.{sum_over}
use Rattle.ring_theory.specs.Local.{Locally}
use Rattle.prime_theory.specs.Orders.{Radical}
use Rattle.prime_theory.specs.Ideals.{Inverse, Power, SameSet, Multiple, OneModulo, PowerIn}
use Rattle.prime_theory.specs.Primes.{IsPrime, Outside, Pair, Different}

-- z is in M locally at the prime P: u·z is in M for some u of O outside P
abbrev pub At : {A : Type 0} → Operations A → (A → Type 0) → (A → Type 0) → (A → Type 0) → A → Type 0
At R O P M z = Locally R (Outside O P) M z

-- P^(a - b): the a-th power of P times the b-th power of its inverse
abbrev pub IdealPower : {A : Type 0} → Operations A → (A → Type 0) → (A → Type 0) → ℕ → ℕ → A → Type 0
IdealPower R O P a b = Product R (Power R O P a) (Power R O (Inverse R O P) b)

-- members of M that span it over O
pub record Generators {A : Type 0} (R : Operations A) (O M : A → Type 0) : Type 0 where
  pub list : List A
  pub members : All M list
  pub spanned : (a : A) → M a → Span R O list a

-- a prime of a family with an exponent up - down
pub record PrimeExponent (I : Type 0) : Type 0 where
  pub index : I
  pub up : ℕ
  pub down : ℕ

-- the list with opposite exponents
abbrev pub opposite : {I : Type 0} → List (PrimeExponent I) → List (PrimeExponent I)
opposite [] = []
opposite (e ∷ l) = record { index = e.index; up = e.down; down = e.up } ∷ opposite l

-- the product of the powers that a list names
abbrev pub IdealProduct : {A I : Type 0} → Operations A → (A → Type 0) → (I → A → Type 0) → List (PrimeExponent I)
    → A → Type 0
IdealProduct R O P [] = O
IdealProduct R O P (e ∷ l) = Product R (IdealPower R O (P e.index) e.up e.down) (IdealProduct R O P l)

-- a family of invertible primes, any two of which are the same or different
pub record IsFamily {A : Type 0} (R : Operations A) (O : A → Type 0) (I : Type 0) (P : I → A → Type 0) : Type 0 where
  pub prime : (i : I) → IsPrime R O (P i)
  pub pair : (i : I) → Pair R O (P i)
  pub compare : (i j : I) → SameSet (P i) (P j) ⊎ Different (P i) (P j)

-- the number n where the two are the same
abbrev pub counted : {X Y : Type 0} → ℕ → X ⊎ Y → ℕ
counted n (inl s) = n
counted n (inr d) = 0

-- the sum of the exponents, up or down, at a prime that the test recognises
abbrev pub total_up : {I : Type 0} {X Y : I → Type 0} → ((i : I) → X i ⊎ Y i) → List (PrimeExponent I) → ℕ
total_up c [] = 0
total_up c (e ∷ l) = counted e.up (c e.index) + total_up c l

abbrev pub total_down : {I : Type 0} {X Y : I → Type 0} → ((i : I) → X i ⊎ Y i) → List (PrimeExponent I) → ℕ
total_down c [] = 0
total_down c (e ∷ l) = counted e.down (c e.index) + total_down c l

-- primes over p such that what lies in all of them is nilpotent modulo p
pub record IsSystem {A : Type 0} (R : Operations A) (O : A → Type 0) (p : A) (I : Type 0) (P : I → A → Type 0)
    (is : List I) : Type 0 where
  pub over : All (λ i. P i p) is
  pub nilpotent : (z : A) → O z → All (λ i. P i z) is → PowerIn R (Multiple R p O) z

-- a member of C outside P
pub record Escapes {A : Type 0} (C P : A → Type 0) : Type 0 where
  pub member : A
  pub member_in : C member
  pub out : ¬ (P member)

-- a member of C that is 1 modulo p
pub record UnitModulo {A : Type 0} (R : Operations A) (O : A → Type 0) (p : A) (C : A → Type 0) : Type 0 where
  pub member : A
  pub member_in : C member
  pub one_modulo : OneModulo R p O member

-- the primes of a list are pairwise different
abbrev pub AreDistinctPrimes : {A I : Type 0} → (I → A → Type 0) → List I → Type 0
AreDistinctPrimes P is = AllPairs (λ i j. Different (P i) (P j)) is

-- orthogonal idempotents modulo p with sum 1, each local: an element times it is nilpotent or a unit of it
pub record IsDecomposition {A : Type 0} (R : Operations A) (O : A → Type 0) (p : A) (I : Type 0) (e : I → A)
    (is : List I) : Type 0 where
  pub within : (i : I) → O (e i)
  pub idempotent : (i : I) → Multiple R p O (R.◌⊕◌ (R.◌⊗◌ (e i) (e i)) (R.⊖◌ (e i)))
  pub orthogonal : (i j : I) → (e i ≡ e j) ⊎ Multiple R p O (R.◌⊗◌ (e i) (e j))
  pub sum_one : OneModulo R p O (sum_over R is e)
  pub not_nilpotent : (i : I) → ¬ (Radical R O p (e i))
  pub locality : (i : I) (z : A) → O z → Radical R O p (R.◌⊗◌ z (e i))
      ⊎ ((c : A) × O c × Multiple R p O (R.◌⊕◌ (R.◌⊗◌ c (R.◌⊗◌ z (e i))) (R.⊖◌ (e i))))

-- generators over O of the product of a module and its inverse
abbrev pub TraceGenerators : {A : Type 0} → Operations A → (A → Type 0) → (A → Type 0) → Type 0
TraceGenerators R O M = Generators R O (Product R M (Inverse R O M))

-- the prime of an idempotent: the elements that are nilpotent modulo p at it
pub record PrimeAt {A : Type 0} (R : Operations A) (O : A → Type 0) (p e z : A) : Type 0 where
  pub within : O z
  pub nilpotent : Radical R O p (R.◌⊗◌ z e)
