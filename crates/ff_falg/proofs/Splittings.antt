-- Orthogonal idempotents as lists of codes and as vectors.
use Rattle.std.proofs.Common.{◌≡◌, ℕ, ◌+◌, ◌<◌, ◌≤◌, inl, inr, List, [], ◌∷◌, ◌++◌, length, map, All, refl, sym, ap, ap₂, ◌∙◌, subst, arith}
use native.Mathlib.Decide.{ℕ_discrete}
use Rattle.std.proofs.lemmas.List.{map-append}
use Rattle.std.proofs.lemmas.List.Elements.{All-nil, All-cons, All-head, All-tail, All-map, All-weaker}
use Rattle.ring_lemmas.specs.Ring.{CommRing}
use Rattle.ring_lemmas.specs.Sums.{sum_over}
use Rattle.ring_lemmas.specs.Lists.{add_lists}
use Rattle.ring_theory.specs.Members.{In}
use Rattle.ff_fields.specs.Field.{CodeField}
use Rattle.ff_fields.specs.Code.{Code, raw_ring}
use Rattle.ff_linalg.specs.Matrix.{MatrixValue, matrix_row}
use Rattle.finite_algebra_theory.specs.ByMap.{Image}
use Rattle.finite_algebra_theory.specs.Idempotents.{Orthogonal, ScalarAt, Splitting, Split, Refines}
use Rattle.finite_algebra_theory.proofs.Lists.{all_in, all_of_in}
use Rattle.finite_algebra_theory.proofs.Idempotents.{refines_push, splitting_step}
use Rattle.ff_falg.specs.Algebras.{AlgebraOps, IsAlgebra, IsVector, zero_of}
use Rattle.ff_falg.specs.Idempotents.{vector_sum}
use Rattle.ff_falg.specs.Splits.{IsOrthogonal, IsScalarAt, IsSplit, IsSplitOnto, IsSplitting}
use Rattle.ff_falg.proofs.Vectors.{Vector, vector_ring, same_vector}
use Rattle.ff_falg.proofs.VectorAlgebra.{scalar, scalar_times}

module _ (k : CodeField) (A : AlgebraOps) (law : IsAlgebra k A) where
  abbrev V : Type 0
  V = Vector k A.size

  abbrev R : CommRing V
  R = vector_ring k A law

  abbrev S : V → Type 0
  S = Image (scalar k A law)

  abbrev pub lists : List V → List (List ℕ)
  lists xs = map (λ x. x.0) xs

  -- from vectors to lists
  pub orthogonal_value : (es : List V) → Orthogonal R.ops es → IsOrthogonal k.ops A (lists es)
  orthogonal_value [] o = tt
  orthogonal_value (e ∷ es) o = (
    record { vector = e.1; square = ap (λ y. y.0) o.0 },
    (λ z. o.1 (same_vector k A.size _ _ z)),
    All-map (λ f. A.product k.ops e.0 f ≡ zero_of A) (λ x. x.0) es
        (All-weaker (λ f. R.◌⊗◌ e f ≡ R.𝟘) (λ f. A.product k.ops e.0 f.0 ≡ zero_of A) (λ f z. ap (λ y. y.0) z) es o.2),
    orthogonal_value es o.3,
  )

  pub sum_value : (es : List V) → (sum_over R.ops es (λ e. e)).0 ≡ vector_sum k.ops A (lists es)
  sum_value [] = refl
  sum_value (e ∷ es) = ap (add_lists (raw_ring k.ops) e.0) (sum_value es)

  pub scalar_value : (a e : V) → ScalarAt R.ops S a e → IsScalarAt k.ops A a.0 e.0
  scalar_value a e s = record {
    code = s.1.0.0;
    code_in = s.1.0.1;
    is = ap (λ y. y.0) (s.2 ∙ ap (λ c. R.◌⊗◌ c e) s.1.1) ∙ scalar_times k A law s.1.0 e;
  }

  pub scalars_value : (a : V) (es : List V) → All (ScalarAt R.ops S a) es → All (IsScalarAt k.ops A a.0) (lists es)
  scalars_value a es h =
      All-map (IsScalarAt k.ops A a.0) (λ x. x.0) es
      (All-weaker (ScalarAt R.ops S a) (λ f. IsScalarAt k.ops A a.0 f.0) (scalar_value a) es h)

  pub split_value : (a e : V) (fs : List V) → Split R.ops S a e fs → IsSplit k.ops A a.0 e.0 (lists fs)
  split_value a e fs s = record {
    orthogonal = orthogonal_value fs s.orthogonal;
    sum = sym (sum_value fs) ∙ ap (λ y. y.0) s.sum;
    scalar = scalars_value a fs s.scalar;
  }

  -- from lists to vectors
  abbrev pub vectors_of : (es : List (List ℕ)) → IsOrthogonal k.ops A es → List V
  vectors_of [] o = []
  vectors_of (e ∷ es) o = (e, o.0.vector) ∷ vectors_of es o.3

  pub lists_vectors : (es : List (List ℕ)) (o : IsOrthogonal k.ops A es) → lists (vectors_of es o) ≡ es
  lists_vectors [] o = refl
  lists_vectors (e ∷ es) o = ap (λ w. e ∷ w) (lists_vectors es o.3)

  all_vectors : (P : List ℕ → Type 0) (Q : V → Type 0) → ((x : V) → P x.0 → Q x)
      → (es : List (List ℕ)) (o : IsOrthogonal k.ops A es)
      → All P es → All Q (vectors_of es o)
  all_vectors P Q w [] o h = All-nil Q
  all_vectors P Q w (e ∷ es) o h =
      All-cons Q (e, o.0.vector) (vectors_of es o.3) (w (e, o.0.vector) (All-head P e es h))
      (all_vectors P Q w es o.3 (All-tail P e es h))

  pub value_orthogonal : (es : List (List ℕ)) (o : IsOrthogonal k.ops A es) → Orthogonal R.ops (vectors_of es o)
  value_orthogonal [] o = tt
  value_orthogonal (e ∷ es) o = (
    same_vector k A.size _ _ o.0.square,
    (λ z. o.1 (ap (λ y. y.0) z)),
    all_vectors (λ f. A.product k.ops e f ≡ zero_of A) (λ f. R.◌⊗◌ (e, o.0.vector) f ≡ R.𝟘)
        (λ x z. same_vector k A.size _ _ z) es o.3 o.2,
    value_orthogonal es o.3,
  )

  pub value_sum : (es : List (List ℕ)) (o : IsOrthogonal k.ops A es) (s : V) → vector_sum k.ops A es ≡ s.0
      → sum_over R.ops (vectors_of es o) (λ e. e) ≡ s
  value_sum es o s e =
      same_vector k A.size _ _ (sum_value (vectors_of es o) ∙ ap (vector_sum k.ops A) (lists_vectors es o) ∙ e)

  pub value_scalar_at : (a e : V) → IsScalarAt k.ops A a.0 e.0 → ScalarAt R.ops S a e
  value_scalar_at a e s =
      let c : Code k = (s.code, s.code_in) in
      (scalar k A law c, (c, refl), same_vector k A.size _ _ (s.is ∙ sym (scalar_times k A law c e)))

  value_scalars : (a : V) (es : List (List ℕ)) (o : IsOrthogonal k.ops A es) → All (IsScalarAt k.ops A a.0) es
      → All (ScalarAt R.ops S a) (vectors_of es o)
  value_scalars a es o h = all_vectors (IsScalarAt k.ops A a.0) (ScalarAt R.ops S a) (value_scalar_at a) es o h

  value_split : (a e : V) (fs : List (List ℕ)) (s : IsSplit k.ops A a.0 e.0 fs)
      → Split R.ops S a e (vectors_of fs s.orthogonal)
  value_split a e fs s = record {
    orthogonal = value_orthogonal fs s.orthogonal;
    sum = value_sum fs s.orthogonal e s.sum;
    scalar = value_scalars a fs s.orthogonal s.scalar;
  }

  pub same_lists_vectors : (xs ys : List V) → lists xs ≡ lists ys → xs ≡ ys
  same_lists_vectors [] [] e = refl
  same_lists_vectors [] (y ∷ ys) e = absurd (let l = ap length e in omega arith)
  same_lists_vectors (x ∷ xs) [] e = absurd (let l = ap length e in omega arith)
  same_lists_vectors (x ∷ xs) (y ∷ ys) e =
      ap₂ ◌∷◌ (same_vector k A.size x y (ap first e)) (same_lists_vectors xs ys (ap rest e))
    where
      first : List (List ℕ) → List ℕ
      first [] = []
      first (z ∷ zs) = z

      rest : List (List ℕ) → List (List ℕ)
      rest [] = []
      rest (z ∷ zs) = zs

  -- the splitting of the elements that are scalars at each member
  pub value_splitting : (basis : MatrixValue) (i : ℕ) (es : List (List ℕ)) (s : IsSplitting k.ops A basis i es)
      (used : List V)
      → ((a : V) → In a used → (l : ℕ) × (l < i) × (a.0 ≡ matrix_row basis l))
      → Splitting R.ops S used (vectors_of es s.orthogonal)
  value_splitting basis i es s used w = record {
    orthogonal = value_orthogonal es s.orthogonal;
    sum = value_sum es s.orthogonal R.𝟙 s.sum;
    scalar = λ a j e h.
        let r = w a j in
        all_in (ScalarAt R.ops S a) (vectors_of es s.orthogonal)
        (value_scalars a es s.orthogonal (subst (λ y. All (IsScalarAt k.ops A y) es) (sym r.2) (s.scalar r.0 r.1))) e h;
  }

  -- the idempotents that are refined so far, and what they are refined to
  pub record IsRefined (a : V) (es fs : List (List ℕ)) : Type 0 where
    pub olds : List V
    pub olds_are : lists olds ≡ es
    pub news : List V
    pub news_are : lists news ≡ fs
    pub refines : Refines R.ops S a olds news

  pub refined_none : (a : V) → IsRefined a [] []
  refined_none a = record { olds = []; olds_are = refl; news = []; news_are = refl; refines = refl }

  pub refined_step : (a : V) (es fs : List (List ℕ)) (e : List ℕ) (new : List (List ℕ)) → IsVector k.ops A.size e
      → IsSplitOnto k.ops A a.0 e fs new → IsRefined a es fs → IsRefined a (es ++ e ∷ []) new
  refined_step a es fs e new e_in s h =
      let gs = vectors_of s.parts s.split.orthogonal in
      record {
        olds = h.olds ++ (e, e_in) ∷ [];
        olds_are = map-append (λ x. x.0) h.olds ((e, e_in) ∷ []) ∙ ap (λ xs. xs ++ e ∷ []) h.olds_are;
        news = h.news ++ gs;
        news_are =
            map-append (λ x. x.0) h.news gs
            ∙ ap₂ (λ xs ys. xs ++ ys) h.news_are (lists_vectors s.parts s.split.orthogonal) ∙ sym s.is;
        refines = refines_push R S a h.olds h.news (e, e_in) gs h.refines (value_split a (e, e_in) s.parts s.split);
      }

  -- once all are refined, one more row is a scalar at each
  pub refined_end : (basis : MatrixValue) (i : ℕ) (es fs : List (List ℕ))
      → ((l : ℕ) → l ≤ i → IsVector k.ops A.size (matrix_row basis l))
      → (a : V) → a.0 ≡ matrix_row basis i → IsSplitting k.ops A basis i es → IsRefined a es fs
      → IsSplitting k.ops A basis (i + 1) fs
  refined_end basis i es fs rows_in a a_is s h = record {
    orthogonal = subst (IsOrthogonal k.ops A) h.news_are
        (orthogonal_value h.news (start [] (λ b j. absurd j)).orthogonal);
    sum = sym (ap (vector_sum k.ops A) h.news_are) ∙ sym (sum_value h.news)
        ∙ ap (λ y. y.0) (start [] (λ b j. absurd j)).sum;
    scalar = λ l less. go l less (ℕ_discrete l i);
  }
    where
      start : (used : List V) → ((b : V) → In b used → (l : ℕ) × (l < i) × (b.0 ≡ matrix_row basis l))
          → Splitting R.ops S (a ∷ used) h.news
      start used w =
          splitting_step R S a used h.olds h.news
          (subst (Splitting R.ops S used) (same_lists_vectors _ _ (lists_vectors es s.orthogonal ∙ sym h.olds_are))
          (value_splitting basis i es s used w))
          h.refines

      scalars : (used : List V) (w : (b : V) → In b used → (l : ℕ) × (l < i) × (b.0 ≡ matrix_row basis l)) (b : V)
          → In b (a ∷ used)
          → All (IsScalarAt k.ops A b.0) fs
      scalars used w b j =
          subst (All (IsScalarAt k.ops A b.0)) h.news_are
          (scalars_value b h.news (all_of_in (ScalarAt R.ops S b) h.news (λ e t. (start used w).scalar b j e t)))

      go : (l : ℕ) → l < i + 1 → Dec (l ≡ i) → All (IsScalarAt k.ops A (matrix_row basis l)) fs
      go l less (yes e) =
          subst (λ y. All (IsScalarAt k.ops A y) fs) (a_is ∙ ap (matrix_row basis) (sym e))
          (scalars [] (λ b j. absurd j) a (inl refl))
      go l less (no ne) =
          let b : V = (matrix_row basis l, rows_in l (omega arith)) in
          scalars (b ∷ [])
          (λ y j. elim j [ inl e ↦ (l, omega arith, ap (λ z. z.0) e) | inr t ↦ absurd t ])
          b (inr (inl refl))
