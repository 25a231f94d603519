-- A ring V over the polynomials with a trace form, pairs of lattices that are modules over a pair, and canonical pairs
-- (H. Stichtenoth, Algebraic Function Fields and Codes, sections 1.5 and 3.4).
use Rattle.std.specs.Prelude.{◌≡◌, ◌↔◌, ℤ, pos, ◌+ℤ◌, ◌-ℤ◌}
use Rattle.ring_lemmas.specs.Ring.{Operations, TestedRing}
use Rattle.ring_theory.specs.Subsets.{Colon}
use Rattle.ring_lemmas.specs.Polynomials.{Pol}
use Rattle.linear_theory.specs.Module.{ModuleOps, IsLinear}
use Rattle.reduced_basis_theory.specs.Dual.{AreFractions, IsSymmetricForm, DualLattice, DualFamily}

-- the products of the ring V are linear over the polynomials
abbrev pub HasLinearProducts : {A V : Type 0} → ModuleOps A V → Operations V → Type 0
HasLinearProducts {V = V} M F = (z : V) → IsLinear M M (F.◌⊗◌ z)

-- a form on the ring V with values in the fractions of the polynomials and T(x·y, z) = T(x, y·z), as the trace of a
-- product
pub record IsTraceForm {C V Q : Type 0} (k : TestedRing C) (M : ModuleOps (Pol k) V) (F : Operations V)
    (R : Operations Q) (ι : Pol k → Q) (T : V → V → Q) : Type 0 where
  pub fractions : AreFractions k R ι
  pub form : IsSymmetricForm k M R ι T
  pub move : (x y z : V) → T (F.◌⊗◌ x y) z ≡ T x (F.◌⊗◌ y z)

-- I is closed under products with O, and x^l·N takes products with x^l'·P into x^(l + l')·N
pub record IsModulePair {V : Type 0} (F : Operations V) (O : V → Type 0) (P : ℤ → V → Type 0) (I : V → Type 0)
    (N : ℤ → V → Type 0) : Type 0 where
  pub scale : (v u : V) → O v → I u → I (F.◌⊗◌ v u)
  pub scale_family : (l l' : ℤ) (v u : V) → P l' v → N l u → N (l +ℤ l') (F.◌⊗◌ v u)

-- the elements that take N l into X (m + l) for each l
abbrev pub ColonFamily : {V : Type 0} (F : Operations V) (X N : ℤ → V → Type 0) → ℤ → V → Type 0
ColonFamily {V} F X N m z = (l : ℤ) (u : V) → N l u → X (m +ℤ l) (F.◌⊗◌ z u)

-- the pair of a canonical divisor: the dual of O, and the dual of P times x^(-2)
pub record IsCanonicalPair {C V Q : Type 0} (k : TestedRing C) (R : Operations Q) (ι : Pol k → Q) (T : V → V → Q)
    (O : V → Type 0) (P : ℤ → V → Type 0)
    (W : V → Type 0) (X : ℤ → V → Type 0) : Type 0 where
  pub lattice : (z : V) → W z ↔ DualLattice k ι T O z
  pub family : (m : ℤ) (z : V) → X m z ↔ DualFamily k R ι T P (m -ℤ pos 2) z

-- the pair of the difference of two divisors: what takes (I, N) into (W, X)
pub record IsDifferencePair {V : Type 0} (F : Operations V) (W : V → Type 0) (X : ℤ → V → Type 0) (I : V → Type 0)
    (N : ℤ → V → Type 0)
    (J : V → Type 0) (L : ℤ → V → Type 0) : Type 0 where
  pub lattice : (z : V) → J z ↔ Colon F W I z
  pub family : (m : ℤ) (z : V) → L m z ↔ ColonFamily F X N m z
