-- Matrices of polynomials with predictable degrees (T. Kailath, Linear Systems, 1980, section 6.3).
use Rattle.std.specs.Prelude.{ℕ, ◌<◌, ◌↔◌, ℤ, ◌-ℤ◌, List}
use Rattle.ring_lemmas.specs.Ring.{TestedRing}
use Rattle.ring_lemmas.specs.Polynomials.{Pol}
use Rattle.linear_theory.specs.Module.{ModuleOps, combine}
use Rattle.linear_theory.specs.Lists.{tabulate}
use Rattle.reduced_basis_theory.specs.Degree.{DegreeAtMost}
use Rattle.reduced_basis_theory.specs.Dual.{dot}

-- the elements whose coordinates in h are the rows of a matrix
abbrev pub from_rows : {C V : Type 0} (k : TestedRing C) → ModuleOps (Pol k) V → ℕ → List V → (ℕ → ℕ → Pol k) → List V
from_rows k M n h P = tabulate n (λ i. combine M (P i) h)

-- the product of a row and a matrix
abbrev pub row_times : {C : Type 0} (k : TestedRing C) → ℕ → (ℕ → Pol k) → (ℕ → ℕ → Pol k) → ℕ → Pol k
row_times k n c P j = dot k n c (λ i. P i j)

-- c·P has degrees at most m - t j exactly where c has degrees at most m - d i
abbrev pub IsPredictable : {C : Type 0} (k : TestedRing C) → ℕ → (ℕ → ℕ → Pol k) → (ℕ → ℤ) → (ℕ → ℤ) → Type 0
IsPredictable k n P t d = (c : ℕ → Pol k) (m : ℤ)
    → ((j : ℕ) → j < n → DegreeAtMost k (row_times k n c P j) (m -ℤ t j))
    ↔ ((i : ℕ) → i < n → DegreeAtMost k (c i) (m -ℤ d i))
