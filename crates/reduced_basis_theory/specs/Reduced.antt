-- Reduced bases: a module V over the polynomials, a lattice I in it, and a family N, where N m stands for x^m·N
-- (F. Hess, Computing Riemann-Roch spaces in algebraic function fields and related topics, 2002, section 4).
use Rattle.std.specs.Prelude.{◌≡◌, ℕ, zero, suc, ◌<◌, ◌↔◌, ℤ, pos, negsuc, ◌+ℤ◌, ◌-ℤ◌, List, [], ◌∷◌, ◌++◌, length}
use Rattle.ring_lemmas.specs.Ring.{Operations, TestedRing, pow}
use Rattle.ring_lemmas.specs.Polynomials.{Pol, pol_of}
use Rattle.ring_theory.specs.PolynomialRing.{pol_ring}
use Rattle.linear_theory.specs.Module.{ModuleOps, IsLinear, combine}
use Rattle.linear_theory.specs.Basis.{IsBasis, IsSum}
use Rattle.reduced_basis_theory.specs.Degree.{DegreeAtMost, degree}

-- z is a combination of the list, with polynomials as coefficients
pub record InLattice {C V : Type 0} (k : TestedRing C) (M : ModuleOps (Pol k) V) (b : List V) (z : V) : Type 0 where
  pub coefficient : ℕ → Pol k
  pub is : z ≡ combine M coefficient b

-- a multiple of z that is a combination of the list: the coordinates of z, with one denominator
pub record Coordinates {C V : Type 0} (k : TestedRing C) (M : ModuleOps (Pol k) V) (b : List V) (z : V) : Type 0 where
  pub denominator : Pol k
  pub nonzero : ¬ (denominator ≡ (pol_ring k).𝟘)
  pub coefficient : ℕ → Pol k
  pub is : M.◌•◌ denominator z ≡ combine M coefficient b

-- the coordinates p over the denominator e have degrees at most m - d i
abbrev pub CoordinatesAtMost : {C : Type 0} (k : TestedRing C) → ℕ → (ℕ → ℤ) → Pol k → (ℕ → Pol k) → ℤ → Type 0
CoordinatesAtMost k n d e p m = (i : ℕ) → i < n → DegreeAtMost k (p i) (degree k e +ℤ (m -ℤ d i))

-- n elements b that are a basis of V up to denominators, and integers d, such that N m holds those elements whose
-- coordinates at b i have degree at most m - d i
pub record IsReducedAt {C V : Type 0} (k : TestedRing C) (M : ModuleOps (Pol k) V) (n : ℕ) (N : ℤ → V → Type 0)
    (b : List V) (d : ℕ → ℤ) : Type 0 where
  pub count : length b ≡ n
  pub free : (p : ℕ → Pol k) → combine M p b ≡ M.𝟬 → (i : ℕ) → i < n → p i ≡ (pol_ring k).𝟘
  pub coordinates : (z : V) → Coordinates k M b z
  pub degrees : (m : ℤ) (z : V) (e : Pol k) (p : ℕ → Pol k) → ¬ (e ≡ (pol_ring k).𝟘) → M.◌•◌ e z ≡ combine M p b
      → N m z ↔ CoordinatesAtMost k n d e p m

-- moreover b spans the lattice I
pub record IsReducedBasisOfPair {C V : Type 0} (k : TestedRing C) (M : ModuleOps (Pol k) V) (n : ℕ) (I : V → Type 0)
    (N : ℤ → V → Type 0) (b : List V) (d : ℕ → ℤ) : Type 0 where
  pub at : IsReducedAt k M n N b d
  pub lattice : (z : V) → I z ↔ InLattice k M b z

-- the variable
abbrev pub variable : {C : Type 0} (k : TestedRing C) → Pol k
variable k = pol_of k (k.𝟘 ∷ k.𝟙 ∷ [])

-- a constant as a polynomial
abbrev pub constant : {C : Type 0} (k : TestedRing C) → C → Pol k
constant k a = pol_of k (a ∷ [])

-- the module over the constants alone
abbrev pub constants_ops : {C V : Type 0} (k : TestedRing C) → ModuleOps (Pol k) V → ModuleOps C V
constants_ops k M = record { 𝟬 = M.𝟬; ◌⊞◌ = M.◌⊞◌; ◌•◌ = λ a v. M.◌•◌ (constant k a) v }

-- v, x·v, .. in the number l
abbrev pub multiples : {C V : Type 0} (k : TestedRing C) → ModuleOps (Pol k) V → ℕ → V → List V
multiples k M zero v = []
multiples k M (suc l) v = v ∷ multiples k M l (M.◌•◌ (variable k) v)

-- these for each b i, in the number l i
abbrev pub layers : {C V : Type 0} (k : TestedRing C) → ModuleOps (Pol k) V → List V → (ℕ → ℕ) → List V
layers k M [] l = []
layers k M (b ∷ bs) l = multiples k M (l 0) b ++ layers k M bs (λ i. l (suc i))

-- the intersection of I with x^m·N
abbrev pub Section : {V : Type 0} → (V → Type 0) → (ℤ → V → Type 0) → ℤ → V → Type 0
Section I N m z = I z × N m z

-- [W : U] = d over the constants: a basis of W over U has d members
pub record HasDimension {C V : Type 0} (k : TestedRing C) (M : ModuleOps (Pol k) V) (U W : V → Type 0) (d : ℤ) : Type
    0 where
  pub basis : List V
  pub is : IsBasis k.ops (constants_ops k M) U W basis
  pub size : pos (length basis) ≡ d
  pub only_size : (ws : List V) → IsBasis k.ops (constants_ops k M) U W ws → pos (length ws) ≡ d

-- x acts on V with an inverse
pub record HasDivision {C V : Type 0} (k : TestedRing C) (M : ModuleOps (Pol k) V) : Type 0 where
  pub divide : V → V
  pub undo : (z : V) → M.◌•◌ (variable k) (divide z) ≡ z
  pub redo : (z : V) → divide (M.◌•◌ (variable k) z) ≡ z

-- z divided j times
abbrev pub divided : {V : Type 0} → (V → V) → ℕ → V → V
divided divide zero z = z
divided divide (suc j) z = divided divide j (divide z)

-- the multiples x^m·N of a set, where z divided by x^j is divide j z
abbrev pub MultipliedByPower : {C V : Type 0} (k : TestedRing C) → ModuleOps (Pol k) V → (ℕ → V → V) → (V → Type 0) → ℤ → V
    → Type 0
MultipliedByPower k M divide N (pos j) z = N (divide j z)
MultipliedByPower k M divide N (negsuc j) z = N (M.◌•◌ (pow (pol_ring k).ops (variable k) (suc j)) z)

-- J and J₀ over the polynomials in 1/x span N and N₀ over the fractions of degree at most 0: the smaller J is what N
-- meets of J₀, and N₀ is J₀ + N
pub record IsLocalPair {C V : Type 0} (k : TestedRing C) (M : ModuleOps (Pol k) V) (J J₀ : V → Type 0)
    (N N₀ : ℤ → V → Type 0) : Type 0 where
  pub smaller : (z : V) → J z → J₀ z
  pub family_smaller : (m : ℤ) (z : V) → N m z → N₀ m z
  pub spans : (z : V) → J z → N (pos 0) z
  pub spans₀ : (z : V) → J₀ z → N₀ (pos 0) z
  pub common : (z : V) → J₀ z → N (pos 0) z → J z
  pub sums : (z : V) → N₀ (pos 0) z → IsSum (constants_ops k M) J₀ (N (pos 0)) z

-- the field L is a space over k, V one over L, and k acts on V as a part of L
pub record IsExtension {C B V : Type 0} (k : TestedRing C) (M : ModuleOps (Pol k) V) (L : Operations B)
    (S : ModuleOps C B) (X : ModuleOps B V) : Type 0 where
  pub null : S.𝟬 ≡ L.𝟘
  pub zero : M.𝟬 ≡ X.𝟬
  pub sum : (u v : V) → M.◌⊞◌ u v ≡ X.◌⊞◌ u v
  pub scale : (w : V) → IsLinear S (constants_ops k M) (λ t. X.◌•◌ t w)

-- n elements that are a basis of V up to denominators, and span I
pub record IsLatticeBasis {C V : Type 0} (k : TestedRing C) (M : ModuleOps (Pol k) V) (n : ℕ) (I : V → Type 0)
    (b : List V) : Type 0 where
  pub count : length b ≡ n
  pub free : (p : ℕ → Pol k) → combine M p b ≡ M.𝟬 → (i : ℕ) → i < n → p i ≡ (pol_ring k).𝟘
  pub coordinates : (z : V) → Coordinates k M b z
  pub lattice : (z : V) → I z ↔ InLattice k M b z
