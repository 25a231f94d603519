-- The idempotents of an algebra other than 0 and 1.
use Rattle.std.specs.Prelude.{◌≡◌, ◌≢◌, ◌⊎◌, ◌↔◌, ℕ, List, [], ◌∷◌, ◌++◌}
use Rattle.ring_theory.specs.Members.{In, IsDistinct}
use Rattle.ff_fields.specs.Field.{FieldOps}
use Rattle.ff_falg.specs.Algebras.{AlgebraOps, IsIdempotentVector, zero_of}

-- an element that is its own square, and neither 0 nor 1
pub record IsProperIdempotentVector (k : FieldOps) (A : AlgebraOps) (e : List ℕ) : Type 0 where
  pub idempotent : IsIdempotentVector k A e
  pub not_zero : e ≢ zero_of A
  pub not_one : e ≢ A.unit

-- all idempotents, each once
pub record AreIdempotents (k : FieldOps) (A : AlgebraOps) (es : List (List ℕ)) : Type 0 where
  pub members : (e : List ℕ) → In e es ↔ IsIdempotentVector k A e
  pub once : IsDistinct es

-- the members of a list other than two vectors, each as often as there
pub record AreOthers (u v : List ℕ) (all kept : List (List ℕ)) : Type 0 where
  pub each : (e : List ℕ) → In e kept → In e all
  pub not_first : (e : List ℕ) → In e kept → e ≢ u
  pub not_second : (e : List ℕ) → In e kept → e ≢ v
  pub rest : (e : List ℕ) → In e all → e ≢ u → e ≢ v → In e kept
  pub once : IsDistinct all → IsDistinct kept

-- e is appended, unless it is one of the two
abbrev pub IsPushedUnless : List ℕ → List ℕ → List ℕ → List (List ℕ) → List (List ℕ) → Type 0
IsPushedUnless u v e old new =
    ((new ≡ old ++ e ∷ []) × (e ≢ u) × (e ≢ v)) ⊎ ((new ≡ old) × ((e ≡ u) ⊎ (e ≡ v)))
