-- In an algebra of dimension n at most n of the elements e, x·e, x·x·e, .. are independent.
use Rattle.std.proofs.Common.{◌≡◌, ℕ, zero, suc, ◌<◌, ◌≤◌, inl, inr, List, [], ◌∷◌, length, All, refl, ap, subst, arith}
use Rattle.std.proofs.lemmas.List.Elements.{All-nil, All-cons}
use native.Mathlib.Decide.{dec_le}
use Rattle.ring_lemmas.specs.Ring.{CommRing, pow}
use Rattle.ring_theory.specs.Subsets.{Span}
use Rattle.ring_theory.proofs.Subsets.{span_members, span_within}
use Rattle.ff_fields.specs.Field.{CodeField}
use Rattle.ff_linalg.specs.Matrix.{MatrixValue}
use Rattle.ff_linalg.specs.Space.{HasIndependentRows}
use Rattle.finite_algebra_theory.specs.Algebra.{FiniteAlgebra, Dependent, powers}
use Rattle.finite_algebra_theory.specs.ByMap.{Image}
use Rattle.finite_algebra_theory.proofs.Dependence.{more_dependent}
use Rattle.ff_falg.specs.Algebras.{AlgebraOps, IsAlgebra, IsVector}
use Rattle.ff_falg.specs.Relations.{IsPowers, IsBounded}
use Rattle.ff_falg.proofs.PowerSpans.{length_powers, powers_get, relation_solution}
use Rattle.ff_falg.proofs.Vectors.{Vector, vector_ring}
use Rattle.ff_falg.proofs.VectorAlgebra.{scalar, vector_algebra, basis, length_basis, basis_spans}

module _ (k : CodeField) (A : AlgebraOps) (law : IsAlgebra k A) (some : 0 < A.size) where
  abbrev R : CommRing (Vector k A.size)
  R = vector_ring k A law

  abbrev S : Vector k A.size → Type 0
  S = Image (scalar k A law)

  abbrev 𝓐 : FiniteAlgebra R.ops S
  𝓐 = vector_algebra k A law some

  -- the powers from the highest down
  down : Vector k A.size → Vector k A.size → ℕ → List (Vector k A.size)
  down x e zero = []
  down x e (suc n) = R.◌⊗◌ (pow R.ops x n) e ∷ down x e n

  module _ (x e : Vector k A.size) where
    length_down : (n : ℕ) → length (down x e n) ≡ n
    unfolding down
    length_down zero = refl
    length_down (suc n) = ap suc (length_down n)

    all_down : (N : Vector k A.size → Type 0) (n : ℕ) → ((i : ℕ) → i < n → N (R.◌⊗◌ (pow R.ops x i) e))
        → All N (down x e n)
    unfolding down
    all_down N zero f = All-nil N
    all_down N (suc n) f = All-cons N _ _ (f n (omega arith)) (all_down N n (λ i less. f i (omega arith)))

    -- one of the powers is a combination of the lower ones
    dependent_down : (n : ℕ) → Dependent R.ops S (down x e n)
        → (j : ℕ) × (j < n) × Span R.ops S (down x e j) (R.◌⊗◌ (pow R.ops x j) e)
    unfolding down
    dependent_down zero d = absurd d
    dependent_down (suc n) (inl s) = (n, omega arith, s)
    dependent_down (suc n) (inr d) = let r = dependent_down n d in (r.0, (let l = r.1 in omega arith), r.2)

    power_member : (n i : ℕ) → i < n → Span R.ops S (powers R.ops x e n) (R.◌⊗◌ (pow R.ops x i) e)
    power_member n i less =
        subst (Span R.ops S (powers R.ops x e n)) (powers_get R x e n i e less)
        (span_members R S 𝓐.subring (powers R.ops x e n) i e (let l = length_powers R x e n in omega arith))

    relation : (n : ℕ) → length (basis k A law) < n
        → (j : ℕ) × (j < n) × Span R.ops S (powers R.ops x e j) (R.◌⊗◌ (pow R.ops x j) e)
    relation n more =
        let d = more_dependent R S 𝓐.subring (λ c. 𝓐.decide c R.𝟘) 𝓐.inverse (basis k A law) (down x e n)
        (all_down (Span R.ops S (basis k A law)) n (λ i less. basis_spans k A law _))
        (let l = length_down n in omega arith) in
        let r = dependent_down n d in (
          r.0,
          r.1,
          span_within R S 𝓐.subring (down x e r.0) (powers R.ops x e r.0)
              (all_down (Span R.ops S (powers R.ops x e r.0)) r.0 (λ i less. power_member r.0 i less)) _ r.2,
        )

  pub powers_bounded_by_size : (x e : List ℕ) → IsVector k.ops A.size x → IsVector k.ops A.size e
      → IsBounded k.ops A x e A.size
  powers_bounded_by_size x e x_in e_in = record
      { bounded = λ m h independent. go m h independent (dec_le (length m.rows) A.size) }
    where
      go : (m : MatrixValue) → IsPowers k.ops A x e m → HasIndependentRows k.ops m → Dec (length m.rows ≤ A.size)
          → length m.rows ≤ A.size
      go m h independent (yes l) = l
      go m h independent (no ne) =
          let r = relation (x, x_in) (e, e_in) (length m.rows) (let l = length_basis k A law in omega arith) in
          let s = relation_solution k A law x e x_in e_in m h some r.0 r.1 r.2 in
          absurd (independent r.0 r.1 s.0 s.1)
