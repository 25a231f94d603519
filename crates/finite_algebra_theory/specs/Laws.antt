-- The words of the theorems on the map that takes a to a^q.
use Rattle.std.specs.Prelude.{◌≡◌, ◌↔◌, ℕ, ◌-◌, List}
use Rattle.ring_lemmas.specs.Ring.{Operations, pow}
use Rattle.ring_theory.specs.Members.{In, IsDistinct}
use Rattle.finite_algebra_theory.specs.Algebra.{IsPrimitive}

-- different elements have different q-th powers
abbrev pub IsInjectivePower : {A : Type 0} → Operations A → ℕ → Type 0
IsInjectivePower {A} R q = (a b : A) → pow R a q ≡ pow R b q → a ≡ b

-- all primitive idempotents, each once: one for each local component
pub record ArePrimitives {A : Type 0} (R : Operations A) (es : List A) : Type 0 where
  pub each : (e : A) → IsPrimitive R e ↔ In e es
  pub once : IsDistinct es

-- 1 - (a - c)^(q - 1)
abbrev pub idempotent_at : {A : Type 0} → Operations A → ℕ → A → A → A
idempotent_at R q a c = R.◌⊕◌ R.𝟙 (R.⊖◌ (pow R (R.◌⊕◌ a (R.⊖◌ c)) (q - 1)))
