-- A symmetric form with values in the fractions of the polynomials, and the duals of lattices, families and bases.
use Rattle.std.specs.Prelude.{◌≡◌, ℕ, zero, suc, ◌<◌, ℤ, pos, negsuc, ◌+ℤ◌, ◌-ℤ◌, List, length}
use Rattle.ring_lemmas.specs.Ring.{Operations, TestedRing, pow}
use Rattle.ring_lemmas.specs.Polynomials.{Pol}
use Rattle.ring_theory.specs.PolynomialRing.{pol_ring}
use Rattle.linear_theory.specs.Module.{ModuleOps, IsHomomorphism}
use Rattle.linear_theory.specs.Lists.{entry, insert}
use Rattle.reduced_basis_theory.specs.Degree.{DegreeAtMost, degree}
use Rattle.reduced_basis_theory.specs.Reduced.{variable}

-- r is a fraction of polynomials
pub record PolynomialFraction {C Q : Type 0} (k : TestedRing C) (R : Operations Q) (ι : Pol k → Q) (r : Q) : Type
    0 where
  pub denominator : Pol k
  pub nonzero : ¬ (denominator ≡ (pol_ring k).𝟘)
  pub numerator : Pol k
  pub is : R.◌⊗◌ (ι denominator) r ≡ ι numerator

-- ι takes the polynomials into a ring in which they cancel, and which holds nothing but their fractions
pub record AreFractions {C Q : Type 0} (k : TestedRing C) (R : Operations Q) (ι : Pol k → Q) : Type 0 where
  pub homomorphism : IsHomomorphism (pol_ring k).ops R ι
  pub open homomorphism use {zero_is, one_is, sum_is, product_is}
  pub injective : (p q : Pol k) → ι p ≡ ι q → p ≡ q
  pub fraction : (r : Q) → PolynomialFraction k R ι r
  pub cancel : (e : Pol k) (r t : Q) → ¬ (e ≡ (pol_ring k).𝟘) → R.◌⊗◌ (ι e) r ≡ R.◌⊗◌ (ι e) t → r ≡ t

-- r is zero, or the degree of its numerator is at most that of its denominator and m
pub record FractionAtMost {C Q : Type 0} (k : TestedRing C) (R : Operations Q) (ι : Pol k → Q) (r : Q) (m : ℤ) : Type
    0 where
  pub fraction : PolynomialFraction k R ι r
  pub bound : DegreeAtMost k fraction.numerator (degree k fraction.denominator +ℤ m)

-- a symmetric bilinear form that tells elements apart
pub record IsSymmetricForm {C V Q : Type 0} (k : TestedRing C) (M : ModuleOps (Pol k) V) (R : Operations Q)
    (ι : Pol k → Q) (T : V → V → Q) : Type 0 where
  pub sum : (u v w : V) → T (M.◌⊞◌ u v) w ≡ R.◌⊕◌ (T u w) (T v w)
  pub scale : (p : Pol k) (u w : V) → T (M.◌•◌ p u) w ≡ R.◌⊗◌ (ι p) (T u w)
  pub symmetric : (u v : V) → T u v ≡ T v u
  pub separates : (y z : V) → ((u : V) → T y u ≡ T z u) → y ≡ z

-- the elements whose form with each member of I is a polynomial
abbrev pub DualLattice : {C V Q : Type 0} (k : TestedRing C) (ι : Pol k → Q) (T : V → V → Q) → (V → Type 0) → V → Type 0
DualLattice {V = V} k ι T I z = (u : V) → I u → (p : Pol k) × (T z u ≡ ι p)

-- the elements whose form with each member of N l has degree at most m + l
abbrev pub DualFamily : {C V Q : Type 0} (k : TestedRing C) (R : Operations Q) (ι : Pol k → Q) (T : V → V → Q)
    → (ℤ → V → Type 0) → ℤ → V → Type 0
DualFamily {V = V} k R ι T N m z = (l : ℤ) (u : V) → N l u → FractionAtMost k R ι (T z u) (m +ℤ l)

-- the form of c i with b j is 1 for i = j, and 0 else
pub record IsDualBasis {C V Q : Type 0} (k : TestedRing C) (M : ModuleOps (Pol k) V) (ι : Pol k → Q) (T : V → V → Q)
    (n : ℕ) (b c : List V) : Type 0 where
  pub count : length c ≡ n
  pub forms : (i j : ℕ) → i < n → j < n
      → T (entry M.𝟬 c i) (entry M.𝟬 b j) ≡ ι (insert j (pol_ring k).𝟙 (λ l. (pol_ring k).𝟘) i)

-- the sum of p i · q i for i below n
abbrev pub dot : {C : Type 0} (k : TestedRing C) → ℕ → (ℕ → Pol k) → (ℕ → Pol k) → Pol k
dot k zero p q = (pol_ring k).𝟘
dot k (suc n) p q = (pol_ring k).◌⊕◌ ((pol_ring k).◌⊗◌ (p 0) (q 0)) (dot k n (λ i. p (suc i)) (λ i. q (suc i)))

-- the degrees with the other sign
abbrev pub negated : (ℕ → ℤ) → ℕ → ℤ
negated d i = pos 0 -ℤ d i

-- M is the module K over the fractions, with the polynomials alone as scalars
pub record IsRestriction {C V Q : Type 0} (k : TestedRing C) (M : ModuleOps (Pol k) V) (ι : Pol k → Q)
    (K : ModuleOps Q V) : Type 0 where
  pub zero : M.𝟬 ≡ K.𝟬
  pub sum : (u v : V) → M.◌⊞◌ u v ≡ K.◌⊞◌ u v
  pub scale : (p : Pol k) (v : V) → M.◌•◌ p v ≡ K.◌•◌ (ι p) v

-- r is x^e in the fractions
abbrev pub IsPowerOfX : {C Q : Type 0} (k : TestedRing C) (R : Operations Q) (ι : Pol k → Q) → ℤ → Q → Type 0
IsPowerOfX k R ι (pos j) r = r ≡ ι (pow (pol_ring k).ops (variable k) j)
IsPowerOfX k R ι (negsuc j) r = R.◌⊗◌ (ι (pow (pol_ring k).ops (variable k) (suc j))) r ≡ R.𝟙
