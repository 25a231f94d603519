-- Subrings that are maximal at an element p, radicals modulo p, and iterated colons.
use Rattle.std.specs.Prelude.{ℕ, zero, suc, ◌≡◌, List, [], ◌∷◌}
use Rattle.ring_lemmas.specs.Ring.{Operations, CommRing, pow}
use Rattle.prime_theory.specs.Ideals.{Multiple, PowerIn}

-- O has each z of Int that a power of p takes into O; Int stands for the integral elements
abbrev pub MaximalAt : {A : Type 0} → Operations A → A → (A → Type 0) → (A → Type 0) → Type 0
MaximalAt {A} R p Int O = (z : A) (n : ℕ) → Int z → O (R.◌⊗◌ (pow R p n) z) → O z

-- the members of O that are nilpotent modulo p
pub record Radical {A : Type 0} (R : Operations A) (O : A → Type 0) (p z : A) : Type 0 where
  pub within : O z
  pub nilpotent : PowerIn R (Multiple R p O) z

-- the elements of Int that a power of p takes into O
pub record Enlarged {A : Type 0} (R : CommRing A) (Int : A → Type 0) (p : A) (O : A → Type 0) (z : A) : Type 0 where
  pub in_Int : Int z
  pub exponent : ℕ
  pub inside : O (R.ops.◌⊗◌ (pow R.ops p exponent) z)

-- the elements that each product of k members of M takes into C
abbrev pub Iterated : {A : Type 0} → Operations A → (A → Type 0) → (A → Type 0) → ℕ → A → Type 0
Iterated R M C zero x = C x
Iterated {A} R M C (suc k) x = (y : A) → M y → Iterated R M C k (R.◌⊗◌ x y)

-- a multiple of z by p^exponent·cofactor is in O, the cofactor prime to p
pub record Denominator {A : Type 0} (R : Operations A) (N O : A → Type 0) (p z : A) : Type 0 where
  pub exponent : ℕ
  pub cofactor : A
  pub cofactor_in : N cofactor
  pub multiple_in : O (R.◌⊗◌ (R.◌⊗◌ (pow R p exponent) cofactor) z)

-- one enlargement for each member of a list
abbrev pub EnlargedAt : {A : Type 0} → CommRing A → (A → Type 0) → List A → (A → Type 0) → A → Type 0
EnlargedAt R Int [] O = O
EnlargedAt R Int (p ∷ ps) O = EnlargedAt R Int ps (Enlarged R Int p O)

-- d is a product of powers of the members of a list
abbrev pub PowersOf : {A : Type 0} → CommRing A → List A → A → Type 0
PowersOf R [] d = d ≡ R.𝟙
PowersOf {A} R (p ∷ ps) d = (a : ℕ) × (c : A) × PowersOf R ps c × (d ≡ R.◌⊗◌ (pow R.ops p a) c)
