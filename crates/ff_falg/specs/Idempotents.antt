-- The primitive idempotents of an algebra, as a list (Lang, Algebra).
use Rattle.std.specs.Prelude.{◌≡◌, ◌≢◌, ℕ, suc, ◌<◌, ◌⊎◌, ◌↔◌, List, [], ◌∷◌, length, get_or, map}
use Rattle.std.specs.Global.{Vec}
use Rattle.ring_lemmas.specs.Lists.{add_lists}
use Rattle.ring_theory.specs.Members.{In}
use Rattle.ff_fields.specs.Field.{FieldOps}
use Rattle.ff_fields.specs.Code.{raw_ring}
use Rattle.ff_falg.specs.Algebras.{AlgebraOps, IsIdempotentVector, IsPrimitiveVector, zero_of}

-- the elements that vectors of codes hold
abbrev pub elements_of : List (Vec ℕ) → List (List ℕ)
elements_of vectors = map (λ v. v.items) vectors

-- lists of codes in their order: compared from the first entry
abbrev pub IsBeforeVector : List ℕ → List ℕ → Type 0
IsBeforeVector [] [] = ⊥
IsBeforeVector [] (y ∷ ys) = Unit {0}
IsBeforeVector (x ∷ xs) [] = ⊥
IsBeforeVector (x ∷ xs) (y ∷ ys) = (x < y) ⊎ ((x ≡ y) × IsBeforeVector xs ys)

-- each member stands before the next in that order
pub record AreAscendingVectors (es : List (List ℕ)) : Type 0 where
  pub next : (i : ℕ) → suc i < length es → IsBeforeVector (get_or es i []) (get_or es (suc i) [])

-- some of the members of a list, in their order there
abbrev pub IsSublist : List (List ℕ) → List (List ℕ) → Type 0
IsSublist fs [] = fs ≡ []
IsSublist fs (e ∷ es) = IsSublist fs es ⊎ ((gs : List (List ℕ)) × (fs ≡ e ∷ gs) × IsSublist gs es)

-- the sum of the members of a list
abbrev pub vector_sum : FieldOps → AlgebraOps → List (List ℕ) → List ℕ
vector_sum k A [] = zero_of A
vector_sum k A (e ∷ es) = add_lists (raw_ring k) e (vector_sum k A es)

-- all primitive idempotents, in ascending order: products of two are 0, their sum is 1, and each idempotent is the sum
-- of some
pub record IsPrimitiveList (k : FieldOps) (A : AlgebraOps) (es : List (List ℕ)) : Type 0 where
  pub members : (e : List ℕ) → In e es ↔ IsPrimitiveVector k A e
  pub ascending : AreAscendingVectors es
  pub product : (e f : List ℕ) → In e es → In f es → e ≢ f → A.product k e f ≡ zero_of A
  pub sum : vector_sum k A es ≡ A.unit
  pub idempotents : (f : List ℕ) → IsIdempotentVector k A f
      → (fs : List (List ℕ)) × IsSublist fs es × (f ≡ vector_sum k A fs)
