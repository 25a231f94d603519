-- Monic polynomials over the field as the lists of their coefficients, lowest first, without the leading 1.
use Rattle.std.specs.Prelude.{◌≡◌, ℕ, ◌<◌, ◌⊎◌, List, [], ◌∷◌, length}
use Rattle.ring_theory.specs.Members.{In, IsDistinct}
use Rattle.ff_fields.specs.Field.{FieldOps}
use Rattle.ff_fields.specs.Code.{raw_ring}
use Rattle.finite_algebra_theory.specs.Horner.{value}

-- the value at c
abbrev pub monic_value : FieldOps → List ℕ → ℕ → ℕ
monic_value k lower c = value (raw_ring k) lower 1 c

-- the coefficients of the quotient by t - c, with the leading 1, where what is left is not looked at
abbrev pub quotient_of : FieldOps → List ℕ → ℕ → List ℕ
quotient_of k [] c = []
quotient_of k (d ∷ lower) c = monic_value k lower c ∷ quotient_of k lower c

-- the roots below n, each once
pub record IsRootsBelow (k : FieldOps) (lower : List ℕ) (n : ℕ) (roots : List ℕ) : Type 0 where
  pub each : (c : ℕ) → In c roots → (c < n) × (monic_value k lower c ≡ 0)
  pub distinct : IsDistinct roots
  pub all : (c : ℕ) → c < n → monic_value k lower c ≡ 0 → In c roots

-- different roots: as many as the degree, or all
pub record IsRoots (k : FieldOps) (lower roots : List ℕ) : Type 0 where
  pub bound : ℕ
  pub below : IsRootsBelow k lower bound roots
  pub end : (length roots ≡ length lower) ⊎ (bound ≡ k.size)
  pub within : (c : ℕ) → In c roots → c < k.size
