-- A full splitting, in another order, is the list of the primitive idempotents.
use Rattle.std.proofs.Common.{◌≡◌, ℕ, ◌<◌, ◌≤◌, ◌⊎◌, ◌↔◌, inl, inr, List, [], ◌∷◌, length, map, replicate, All, refl, sym, ap, ap₂, ◌∙◌, subst, arith}
use Rattle.std.proofs.lemmas.List.{length-map, nil_from_length}
use Rattle.ring_lemmas.specs.Ring.{CommRing, pow}
use Rattle.ring_lemmas.specs.Sums.{sum_over}
use Rattle.ring_lemmas.proofs.Ring.{zero_mul, one_mul, add_mul, mul_zero, zero_add}
use Rattle.ring_theory.specs.Members.{In, IsDistinct}
use Rattle.ring_lemmas.proofs.Solver.{ring, reads, from_two}
use Rattle.ff_fields.specs.Field.{CodeField}
use Rattle.ff_linalg.specs.Matrix.{MatrixValue}
use Rattle.finite_algebra_theory.specs.Algebra.{FiniteAlgebra, IsPrimitive}
use Rattle.finite_algebra_theory.specs.ByMap.{Image}
use Rattle.finite_algebra_theory.specs.Idempotents.{Orthogonal, Splitting}
use Rattle.finite_algebra_theory.proofs.Idempotents.{member_sum, orthogonal_member, orthogonal_distinct}
use Rattle.finite_algebra_theory.proofs.Lists.{all_of_in, in_map, of_map, distinct_map}
use Rattle.finite_algebra_theory.proofs.Maximal.{orthogonal_pair}
use Rattle.finite_algebra_theory.proofs.Primitive.{IsComplete, complete_by_number, complete_by_use, primitive_idempotents}
use Rattle.ff_falg.specs.Algebras.{AlgebraOps, IsAlgebra, IsVector, IsIdempotentVector, IsPrimitiveVector, IsFixedVector, zero_of}
use Rattle.ff_falg.specs.Idempotents.{AreAscendingVectors, IsSublist, IsPrimitiveList, vector_sum}
use Rattle.ff_falg.specs.Spaces.{IsEchelonBasisMatrix}
use Rattle.ff_falg.specs.Splits.{IsFullSplitting}
use Rattle.ff_falg.proofs.Bases.{basis_vectors, length_basis_vectors, no_rows}
use Rattle.ff_falg.proofs.FieldLaws.{fixed_span}
use Rattle.ff_falg.proofs.PowerLaws.{empty_or}
use Rattle.ff_falg.proofs.RefineSteps.{of_vectors}
use Rattle.ff_falg.proofs.RowSteps.{rows_in}
use Rattle.ff_falg.proofs.Sorting.{IsReordered}
use Rattle.ff_falg.proofs.Splittings.{lists, vectors_of, lists_vectors, sum_value, value_splitting}
use Rattle.ff_falg.proofs.Vectors.{Vector, vector_ring, same_vector, power_value}
use Rattle.ff_falg.proofs.VectorAlgebra.{vectors, rows_of_vectors, scalar, vector_algebra, length_scalars, one_not_zero}

module _ {E : Type 0} (R : CommRing E) where
  infixl 65 ◌⊕◌
  infixl 70 ◌⊗◌
  open R use {𝟘, 𝟙, ◌⊕◌, ◌⊗◌}

  -- an element that each member absorbs is absorbed by the sum
  absorbed : (s : E) (xs : List E) → ((e : E) → In e xs → e ⊗ s ≡ e)
      → sum_over R.ops xs (λ e. e) ⊗ s ≡ sum_over R.ops xs (λ e. e)
  absorbed s [] h = zero_mul R s
  absorbed s (e ∷ xs) h = add_mul R e (sum_over R.ops xs (λ e. e)) s
      ∙ ap₂ ◌⊕◌ (h e (inl refl)) (absorbed s xs (λ y i. h y (inr i)))

  pub orthogonal_of : (xs : List E) → IsDistinct xs → ((e : E) → In e xs → (e ⊗ e ≡ e) × (¬ (e ≡ 𝟘)))
      → ((e f : E) → In e xs → In f xs → (e ≡ f) ⊎ (e ⊗ f ≡ 𝟘)) → Orthogonal R.ops xs
  orthogonal_of [] d h p = tt
  orthogonal_of (x ∷ xs) d h p = (
    (h x (inl refl)).0,
    (h x (inl refl)).1,
    all_of_in (λ f. x ⊗ f ≡ 𝟘) xs (λ f i. elim (p x f (inl refl) (inr i)) [
      | inl e ↦ absurd (d.0 (subst (λ y. In y xs) (sym e) i))
      | inr z ↦ z
    ]),
    orthogonal_of xs d.1 (λ e i. h e (inr i)) (λ e f i j. p e f (inr i) (inr j)),
  )

  -- the members that f does not kill
  pick : {P : Type 0} → Dec P → E → List E → List E
  pick (yes z) x ys = ys
  pick (no n) x ys = x ∷ ys

  module _ (decide : (a b : E) → Dec (a ≡ b)) (f : E) (idem : f ⊗ f ≡ f) where
    kept : List E → List E
    kept [] = []
    kept (e ∷ xs) = pick (decide (f ⊗ e) 𝟘) e (kept xs)

    kept_sum : (xs : List E) → ((e : E) → In e xs → IsPrimitive R.ops e)
        → sum_over R.ops (kept xs) (λ e. e) ≡ f ⊗ sum_over R.ops xs (λ e. e)
    unfolding pick kept
    kept_sum [] w = sym (mul_zero R f)
    kept_sum (x ∷ xs) w = go (kept_sum xs (λ y i. w y (inr i))) (decide (f ⊗ x) 𝟘)
      where
        p : IsPrimitive R.ops x
        p = w x (inl refl)

        both : x ⊗ x ≡ x → f ⊗ x ⊗ (f ⊗ x) ≡ f ⊗ x
        both k = from_two R (x ⊗ x) f idem k (ring R (f ∷ x ∷ []) λ q h. simp (reads, q, h 0, h 1) (q.equal _ _ refl))

        go : sum_over R.ops (kept xs) (λ e. e) ≡ f ⊗ sum_over R.ops xs (λ e. e) → (t : Dec (f ⊗ x ≡ 𝟘))
            → sum_over R.ops (pick t x (kept xs)) (λ e. e) ≡ f ⊗ sum_over R.ops (x ∷ xs) (λ e. e)
        go ih (yes z) = sym (R.mul_add _ _ _ ∙ ap₂ ◌⊕◌ z (sym ih) ∙ zero_add R _)
        go ih (no n) =
            elim (p.least (f ⊗ x) (both p.idempotent) (R.mul_assoc f x x ∙ ap (λ y. f ⊗ y) p.idempotent)) [
              | inl z ↦ absurd (n z)
              | inr k ↦ sym (R.mul_add _ _ _ ∙ ap₂ ◌⊕◌ k (sym ih))
            ]

    -- seen as lists they are a part
    kept_part : (value : E → List ℕ) (xs : List E) → IsSublist (map value (kept xs)) (map value xs)
    unfolding pick kept
    kept_part value [] = refl
    kept_part value (x ∷ xs) = go (kept_part value xs) (decide (f ⊗ x) 𝟘)
      where
        go : IsSublist (map value (kept xs)) (map value xs) → (t : Dec (f ⊗ x ≡ 𝟘))
            → IsSublist (map value (pick t x (kept xs))) (map value (x ∷ xs))
        go ih (yes z) = inl ih
        go ih (no n) = inr (map value (kept xs), refl, ih)

module _ (k : CodeField) (A : AlgebraOps) (law : IsAlgebra k A) where
  abbrev V : Type 0
  V = Vector k A.size

  abbrev R : CommRing V
  R = vector_ring k A law

  abbrev S : V → Type 0
  S = Image (scalar k A law)

  pub primitive_value : (e : V) → IsPrimitive R.ops e → IsPrimitiveVector k.ops A e.0
  primitive_value e p = record {
    idempotent = record { vector = e.1; square = ap (λ y. y.0) p.idempotent };
    nonzero = λ z. p.nonzero (same_vector k A.size _ _ z);
    least = λ f i u. elim (p.least (f, i.vector) (same_vector k A.size _ _ i.square) (same_vector k A.size _ _ u)) [
      | inl z ↦ inl (ap (λ y. y.0) z)
      | inr s ↦ inr (ap (λ y. y.0) s)
    ];
  }

  pub value_primitive : (e : List ℕ) (p : IsPrimitiveVector k.ops A e) → IsPrimitive R.ops (e, p.idempotent.vector)
  value_primitive e p = record {
    nonzero = λ z. p.nonzero (ap (λ y. y.0) z);
    idempotent = same_vector k A.size _ _ p.idempotent.square;
    least = λ f i u. elim (p.least f.0 (record { vector = f.1; square = ap (λ y. y.0) i }) (ap (λ y. y.0) u)) [
      | inl z ↦ inl (same_vector k A.size _ _ z)
      | inr s ↦ inr (same_vector k A.size _ _ s)
    ];
  }

  pub in_lists : (x : V) (xs : List V) → In x.0 (lists k A law xs) → In x xs
  in_lists x xs i = let r = of_map (λ y. y.0) xs x.0 i in subst (λ y. In y xs) (sym (same_vector k A.size x r.0 r.2))
      r.1

  module _ (basis : MatrixValue) (h : IsEchelonBasisMatrix k.ops A.size (IsFixedVector k.ops A) basis)
      (some : 0 < A.size)
      (es : List (List ℕ)) (s : IsFullSplitting k.ops A basis es) where
    abbrev 𝓐 : FiniteAlgebra R.ops S
    𝓐 = vector_algebra k A law some

    abbrev vs : List V
    vs = vectors_of k A law es s.splitting.orthogonal

    abbrev bs : List V
    bs = basis_vectors k A law (IsFixedVector k.ops A) basis h

    used_none : Splitting R.ops S [] vs
    used_none = value_splitting k A law basis s.used es s.splitting [] (λ a i. absurd i)

    complete : IsComplete R S 𝓐 vs
    complete = go s.full
      where
        go : (length es ≡ length basis.rows) ⊎ (length basis.rows ≤ s.used) → IsComplete R S 𝓐 vs
        go (inl e) =
            complete_by_number R S 𝓐 [] vs used_none bs (fixed_span k A law some basis h)
            (sym (length-map vs (λ y. y.0)) ∙ ap length (lists_vectors k A law es s.splitting.orthogonal) ∙ e
            ∙ sym (length_basis_vectors k A law (IsFixedVector k.ops A) basis h))
        go (inr le) =
            complete_by_use R S 𝓐 bs vs
            (value_splitting k A law basis s.used es s.splitting bs (λ a i.
            let r = of_vectors k A.size basis.rows (rows_in k basis (length basis.rows) A.size h.shape h.over) a i in
            (r.0, let l : r.0 < length basis.rows = r.1 in omega arith, r.2)))
            bs (fixed_span k A law some basis h) (λ b i. i)

    pub distinct_lists : IsDistinct es
    distinct_lists =
        subst IsDistinct (lists_vectors k A law es s.splitting.orthogonal)
        (distinct_map (λ y. y.0) (same_vector k A.size) vs (orthogonal_distinct R vs used_none.orthogonal))

    module _ (ts : List (List ℕ)) (r : IsReordered es ts) where
      in_vs : (t : List ℕ) → In t ts → (v : V) × In v vs × (t ≡ v.0)
      in_vs t i = of_map (λ y. y.0) vs t
          (subst (In t) (sym (lists_vectors k A law es s.splitting.orthogonal)) (r.back t i))

      all : All (IsVector k.ops A.size) ts
      all = all_of_in (IsVector k.ops A.size) ts
          (λ t i. let v = in_vs t i in subst (IsVector k.ops A.size) (sym v.2) v.0.1)

      abbrev us : List V
      us = vectors k A.size ts all

      lists_us : lists k A law us ≡ ts
      lists_us = rows_of_vectors k A.size ts all

      us_vs : (x : V) → In x us → In x vs
      us_vs x i =
          in_lists x vs
          (subst (In x.0) (sym (lists_vectors k A law es s.splitting.orthogonal))
          (r.back x.0 (subst (In x.0) lists_us (in_map (λ y. y.0) us x i))))

      vs_us : (x : V) → In x vs → In x us
      vs_us x i =
          in_lists x us
          (subst (In x.0) (sym lists_us)
          (r.forth x.0 (subst (In x.0) (lists_vectors k A law es s.splitting.orthogonal) (in_map (λ y. y.0) vs x i))))

      us_distinct : IsDistinct us
      us_distinct = go us (subst IsDistinct (sym lists_us) r.distinct)
        where
          go : (xs : List V) → IsDistinct (lists k A law xs) → IsDistinct xs
          go [] d = tt
          go (x ∷ xs) d = ((λ i. d.0 (in_map (λ y. y.0) xs x i)), go xs d.1)

      orthogonal : Orthogonal R.ops us
      orthogonal =
          orthogonal_of R us us_distinct (λ e i. orthogonal_member R vs used_none.orthogonal e (us_vs e i))
          (λ e f i j. orthogonal_pair R vs used_none.orthogonal e f (us_vs e i) (us_vs f j))

      sum : sum_over R.ops us (λ e. e) ≡ R.𝟙
      sum =
          sym (one_mul R _)
          ∙ ap (λ y. R.◌⊗◌ y (sum_over R.ops us (λ e. e))) (sym used_none.sum)
          ∙ absorbed R (sum_over R.ops us (λ e. e)) vs (λ e i. member_sum R us orthogonal e (vs_us e i))
          ∙ used_none.sum

      splitting : Splitting R.ops S [] us
      splitting = record { orthogonal = orthogonal; sum = sum; scalar = λ a i. absurd i }

      complete_us : IsComplete R S 𝓐 us
      complete_us = λ b fixed e i. complete b fixed e (us_vs e i)

      primitive : (f : V) → IsPrimitive R.ops f ↔ In f us
      primitive = primitive_idempotents R S 𝓐 [] us splitting complete_us

      idempotents : (f : List ℕ) → IsIdempotentVector k.ops A f
          → (fs : List (List ℕ)) × IsSublist fs ts × (f ≡ vector_sum k.ops A fs)
      idempotents f i =
          let v : V = (f, i.vector) in
          let square : R.◌⊗◌ v v ≡ v = same_vector k A.size _ _ i.square in
          let ks = kept R 𝓐.decide v square us in (
            lists k A law ks,
            subst (IsSublist (lists k A law ks)) lists_us (kept_part R 𝓐.decide v square (λ y. y.0) us),
            sym (sym (sum_value k A law ks)
                ∙ ap (λ y. y.0) (kept_sum R 𝓐.decide v square us (λ e j. (primitive e).1 j) ∙ ap (R.◌⊗◌ v) sum
                ∙ R.mul_one v)),
          )

      -- the reordered list is that of the primitive idempotents
      pub primitive_list : AreAscendingVectors ts → IsPrimitiveList k.ops A ts
      primitive_list ascending = record {
        members = λ e. (
          (λ i.
              let v = in_vs e i in
              subst (IsPrimitiveVector k.ops A) (sym v.2) (primitive_value v.0 ((primitive v.0).1 (vs_us v.0 v.1)))),
          (λ p. subst (In e) lists_us (in_map (λ y. y.0) us (e, p.idempotent.vector)
              ((primitive (e, p.idempotent.vector)).0 (value_primitive e p)))),
        );
        ascending = ascending;
        product = λ e f i j ne.
            let v = in_vs e i in
            let w = in_vs f j in
            ap₂ (A.product k.ops) v.2 w.2
            ∙ elim (orthogonal_pair R vs used_none.orthogonal v.0 w.0 v.1 w.1) [
              | inl e ↦ absurd (ne (v.2 ∙ ap (λ y. y.0) e ∙ sym w.2))
              | inr z ↦ ap (λ y. y.0) z
            ];
        sum = sym (ap (vector_sum k.ops A) lists_us) ∙ sym (sum_value k A law us) ∙ ap (λ y. y.0) sum;
        idempotents = idempotents;
      }

  -- in dimension 0 there is none
  pub none_list : (basis : MatrixValue) → IsEchelonBasisMatrix k.ops A.size (IsFixedVector k.ops A) basis
      → length basis.rows ≡ 0 → IsPrimitiveList k.ops A []
  none_list basis h none = record {
    members = λ e. ((λ i. absurd i), (λ p. p.nonzero (empty e p.idempotent.vector)));
    ascending = record { next = λ i less. absurd (omega arith) };
    product = λ e f i. absurd i;
    sum = sym (empty A.unit law.unit_in);
    idempotents = λ f i. ([], refl, empty f i.vector);
  }
    where
      size : A.size ≡ 0
      size =
          empty_or A.size (A.size ≡ 0) (λ e. e)
          (λ some. absurd (one_not_zero k A law some (no_rows k A law (IsFixedVector k.ops A) basis h none R.𝟙
          (record {
            is =
                sym (power_value k A law R.𝟙 k.size)
                ∙ ap (λ y. y.0) (ap (pow R.ops R.𝟙) (sym (length_scalars k A law some))
                ∙ (vector_algebra k A law some).power R.𝟙 (vector_algebra k A law some).subring.one_in);
          }))))

      empty : (e : List ℕ) → IsVector k.ops A.size e → e ≡ zero_of A
      empty e e_in = nil_from_length e (e_in.size ∙ size) ∙ sym (ap (λ n. replicate n 0) size)
