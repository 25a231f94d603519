-- What the list of the primitive idempotents says in the ring of vectors, for the crates above.
use Rattle.std.proofs.Common.{◌≡◌, ℕ, suc, ◌<◌, ◌⊎◌, inl, inr, List, [], ◌∷◌, length, get_or, All, refl, sym, ap, ◌∙◌, subst, arith}
use Rattle.std.proofs.lemmas.List.Elements.{All-head}
use Rattle.ring_lemmas.specs.Ring.{CommRing}
use Rattle.ring_theory.specs.Members.{In, IsDistinct}
use Rattle.ff_fields.specs.Field.{CodeField}
use Rattle.finite_algebra_theory.specs.Algebra.{FiniteAlgebra, IsFixed, IsPrimitive as IsPrimitiveVector}
use Rattle.finite_algebra_theory.specs.ByMap.{Image}
use Rattle.finite_algebra_theory.specs.Idempotents.{ScalarAt, Splitting, Split}
use Rattle.finite_algebra_theory.proofs.Existence.{split_of_minimal, fixed_span, fixed_among, elements}
use Rattle.finite_algebra_theory.proofs.Idempotents.{member_sum}
use Rattle.finite_algebra_theory.proofs.Lists.{all_of_in, in_map}
use Rattle.finite_algebra_theory.proofs.Minimal.{minimal_exists}
use Rattle.finite_algebra_theory.proofs.Primitive.{IsComplete}
use Rattle.ff_falg.specs.Algebras.{AlgebraOps, IsAlgebra, IsVector}
use Rattle.ff_falg.specs.Idempotents.{AreAscendingVectors, IsBeforeVector, IsPrimitiveList, vector_sum}
use Rattle.ff_falg.proofs.PrimitiveLists.{orthogonal_of, value_primitive}
use Rattle.ff_falg.proofs.Splittings.{lists, sum_value}
use Rattle.ff_falg.proofs.Vectors.{Vector, vector_ring, vector_discrete, same_vector}
use Rattle.ff_falg.proofs.VectorAlgebra.{vectors, rows_of_vectors, scalar, vector_algebra}

before_itself : (xs : List ℕ) → IsBeforeVector xs xs → ⊥
before_itself [] b = b
before_itself (x ∷ xs) (inl l) = absurd (omega arith)
before_itself (x ∷ xs) (inr b) = before_itself xs b.1

before_before : (xs ys zs : List ℕ) → IsBeforeVector xs ys → IsBeforeVector ys zs → IsBeforeVector xs zs
before_before [] [] zs b c = absurd b
before_before [] (y ∷ ys) [] b c = absurd c
before_before [] (y ∷ ys) (z ∷ zs) b c = tt
before_before (x ∷ xs) [] zs b c = absurd b
before_before (x ∷ xs) (y ∷ ys) [] b c = absurd c
before_before (x ∷ xs) (y ∷ ys) (z ∷ zs) (inl l) (inl m) = inl (omega arith)
before_before (x ∷ xs) (y ∷ ys) (z ∷ zs) (inl l) (inr c) = inl (let e = c.0 in omega arith)
before_before (x ∷ xs) (y ∷ ys) (z ∷ zs) (inr b) (inl m) = inl (let e = b.0 in omega arith)
before_before (x ∷ xs) (y ∷ ys) (z ∷ zs) (inr b) (inr c) = inr (b.0 ∙ c.0, before_before xs ys zs b.1 c.1)

-- ascending lists are distinct
pub ascending_distinct : (es : List (List ℕ)) → AreAscendingVectors es → IsDistinct es
ascending_distinct [] a = tt
ascending_distinct (e ∷ es) a = (
  (λ i. before_itself e (above e es (λ j less. a.next j less) e i)),
  ascending_distinct es (record { next = λ i less. a.next (suc i) (omega arith) }),
)
  where
    above : (e : List ℕ) (es : List (List ℕ))
        → ((i : ℕ) → suc i < length (e ∷ es) → IsBeforeVector (get_or (e ∷ es) i []) (get_or (e ∷ es) (suc i) []))
        → (x : List ℕ) → In x es → IsBeforeVector e x
    above e [] h x i = absurd i
    above e (y ∷ es) h x (inl s) = subst (IsBeforeVector e) (sym s) (h 0 (omega arith))
    above e (y ∷ es) h x (inr i) = before_before e y x (h 0 (omega arith))
        (above y es (λ j less. h (suc j) (omega arith)) x i)

module _ (k : CodeField) (A : AlgebraOps) (law : IsAlgebra k A) (some : 0 < A.size) where
  abbrev V : Type 0
  V = Vector k A.size

  abbrev R : CommRing V
  R = vector_ring k A law

  abbrev S : V → Type 0
  S = Image (scalar k A law)

  abbrev 𝓐 : FiniteAlgebra R.ops S
  𝓐 = vector_algebra k A law some

  -- at a primitive idempotent each fixed element is a scalar
  pub primitive_scalar : (e : V) → IsPrimitiveVector R.ops e → (b : V) → IsFixed R.ops (length 𝓐.codes) b
      → ScalarAt R.ops S b e
  primitive_scalar e p b fixed =
      let m = minimal_exists R S 𝓐 (fixed_among R S 𝓐 (elements R S 𝓐 𝓐.basis)) (fixed_span R S 𝓐) b e fixed
      p.idempotent in
      let s = split_of_minimal R S 𝓐 b e fixed p.idempotent p.nonzero m.0 m.2 m.3 in
      go s.0 s.1
    where
      go : (fs : List V) → Split R.ops S b e fs → ScalarAt R.ops S b e
      go [] s = absurd (p.nonzero (sym s.sum))
      go (f ∷ fs) s =
          elim (p.least f s.orthogonal.0 (ap (R.◌⊗◌ f) (sym s.sum) ∙ member_sum R (f ∷ fs) s.orthogonal f (inl refl))) [
            | inl z ↦ absurd (s.orthogonal.1 z)
            | inr i ↦ subst (ScalarAt R.ops S b) i (All-head (ScalarAt R.ops S b) f fs s.scalar)
          ]

  module _ (ts : List (List ℕ)) (h : IsPrimitiveList k.ops A ts) where
    pub all : All (IsVector k.ops A.size) ts
    all = all_of_in (IsVector k.ops A.size) ts (λ t i. ((h.members t).0 i).idempotent.vector)

    -- the idempotents as vectors
    abbrev pub primitives : List V
    primitives = vectors k A.size ts all

    pub lists_primitives : lists k A law primitives ≡ ts
    lists_primitives = rows_of_vectors k A.size ts all

    member_in : (e : V) → In e primitives → In e.0 ts
    member_in e i = subst (In e.0) lists_primitives (in_map (λ y. y.0) primitives e i)

    pub member_primitive : (e : V) → In e primitives → IsPrimitiveVector R.ops e
    member_primitive e i =
        let p = (h.members e.0).0 (member_in e i) in
        subst (IsPrimitiveVector R.ops) (same_vector k A.size _ _ refl) (value_primitive k A law e.0 p)

    -- they split 1, and each fixed element is a scalar at each
    pub primitives_splitting : Splitting R.ops S [] primitives
    primitives_splitting = record {
      orthogonal =
          orthogonal_of R primitives (distinct primitives
          (subst IsDistinct (sym lists_primitives) (ascending_distinct ts h.ascending)))
          (λ e i. let p = member_primitive e i in (p.idempotent, p.nonzero))
          (λ e f i j. apart e f i j (vector_discrete k A.size e f));
      sum = same_vector k A.size _ _ (sum_value k A law primitives ∙ ap (vector_sum k.ops A) lists_primitives ∙ h.sum);
      scalar = λ a i. absurd i;
    }
      where
        distinct : (xs : List V) → IsDistinct (lists k A law xs) → IsDistinct xs
        distinct [] d = tt
        distinct (x ∷ xs) d = ((λ i. d.0 (in_map (λ y. y.0) xs x i)), distinct xs d.1)

        apart : (e f : V) → In e primitives → In f primitives → Dec (e ≡ f) → (e ≡ f) ⊎ (R.◌⊗◌ e f ≡ R.𝟘)
        apart e f i j (yes s) = inl s
        apart e f i j (no n) =
            inr (same_vector k A.size _ _
            (h.product e.0 f.0 (member_in e i) (member_in f j) (λ s. n (same_vector k A.size e f s))))

    pub primitives_complete : IsComplete R S 𝓐 primitives
    primitives_complete b fixed e i = primitive_scalar e (member_primitive e i) b fixed
