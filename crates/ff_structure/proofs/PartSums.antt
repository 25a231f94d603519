-- The sums of no, one or more of the primitive idempotents are all idempotents, each once.
use Rattle.std.proofs.Common.{◌≡◌, ◌≢◌, ℕ, suc, ◌+◌, ◌<◌, ◌≤◌, inl, inr, List, [], ◌∷◌, ◌++◌, length, get_or, drop, map, replicate, All, refl, sym, ap, ap₂, ◌∙◌, subst, arith, add-one}
use Rattle.std.proofs.Math.Seq.{drop-cons}
use Rattle.std.proofs.lemmas.List.Elements.{All-nil, All-cons, All-append, All-map, All-weaker}
use Rattle.ring_lemmas.specs.Ring.{CommRing}
use Rattle.ring_lemmas.specs.Lists.{add_lists}
use Rattle.ring_lemmas.proofs.Ring.{mul_zero, add_cancel_left}
use Rattle.ring_lemmas.proofs.Solver.{ring, reads, from_three}
use Rattle.ring_theory.specs.Members.{In, IsDistinct}
use Rattle.ff_fields.specs.Field.{FieldOps, CodeField}
use Rattle.ff_fields.specs.Code.{raw_ring}
use Rattle.finite_algebra_theory.proofs.Lists.{all_in, all_of_in, in_append_left, in_append_right, in_append, in_map, of_map}
use Rattle.ff_falg.specs.Algebras.{AlgebraOps, IsAlgebra, IsVector, IsIdempotentVector, IsPrimitiveVector, zero_of}
use Rattle.std.specs.Global.{Vec}
use Rattle.std.specs.Prelude.{Result, Ok, Err, IfOk}
use Rattle.std.proofs.lemmas.List.{drop_all}
use Rattle.ff_falg.specs.Idempotents.{elements_of, IsPrimitiveList, IsSublist, vector_sum}
use Rattle.ff_falg.specs.Splits.{IsOrthogonal}
use Rattle.ff_falg.proofs.Lists.{lists_assoc}
use Rattle.ff_falg.proofs.PrimitiveUse.{ascending_distinct}
use Rattle.ff_falg.proofs.RowSteps.{zero_first}
use Rattle.ff_falg.proofs.Vectors.{Vector, vector_ring, same_vector, zeros_in, sum_in, add_zeros}
use Rattle.ff_structure.specs.Idempotents.{AreIdempotents, AreOthers, IsProperIdempotentVector}
use Rattle.ff_structure.proofs.Lists.{distinct_append, distinct_values}
use Rattle.ff_structure.proofs.SumLists.{vector_at}

module _ {E : Type 0} (R : CommRing E) where
  infixl 65 ◌⊕◌
  infixl 70 ◌⊗◌
  open R use {𝟘, 𝟙, ◌⊕◌, ◌⊗◌}

  ring_sum : (e s : E) → e ⊗ e ≡ e → s ⊗ s ≡ s → e ⊗ s ≡ 𝟘 → (e ⊕ s) ⊗ (e ⊕ s) ≡ e ⊕ s
  ring_sum e s a b c =
      from_three R 𝟙 𝟙 (𝟙 ⊕ 𝟙) a b c (ring R (e ∷ s ∷ []) λ q h. simp (reads, q, h 0, h 1) (q.equal _ _ refl))

  ring_killed : (f e s : E) → f ⊗ e ≡ 𝟘 → f ⊗ s ≡ 𝟘 → f ⊗ (e ⊕ s) ≡ 𝟘
  ring_killed f e s a b = R.mul_add f e s ∙ ap₂ ◌⊕◌ a b ∙ R.add_zero 𝟘

  ring_apart : (e s : E) → e ⊗ e ≡ e → e ⊗ s ≡ 𝟘 → e ⊗ (e ⊕ s) ≡ 𝟘 → e ≡ 𝟘
  ring_apart e s a b c = sym (R.mul_add e e s ∙ ap₂ ◌⊕◌ a b ∙ R.add_zero e) ∙ c

-- the members of the first list, plus no, one or more of the second
abbrev pub sums_onto : FieldOps → List (List ℕ) → List (List ℕ) → List (List ℕ)
sums_onto k sums [] = sums
sums_onto k sums (e ∷ es) = sums_onto k (sums ++ map (add_lists (raw_ring k) e) sums) es

module _ (k : CodeField) (A : AlgebraOps) where
  -- what is added so far, with what is left to add
  pub record IsSummedTo (es rest sums : List (List ℕ)) : Type 0 where
    pub vectors : All (IsVector k.ops A.size) sums
    pub is : sums_onto k.ops sums rest ≡ sums_onto k.ops (zero_of A ∷ []) es

module _ (k : CodeField) (A : AlgebraOps) (law : IsAlgebra k A) where
  abbrev R : CommRing (Vector k A.size)
  R = vector_ring k A law

  abbrev plus : List ℕ → List ℕ → List ℕ
  plus = add_lists (raw_ring k.ops)

  -- different idempotents that are killed by each member of the second list
  pub record IsClean (sums es : List (List ℕ)) : Type 0 where
    pub idempotent : (s : List ℕ) → In s sums → IsIdempotentVector k.ops A s
    pub killed : (s e : List ℕ) → In s sums → In e es → A.product k.ops e s ≡ zero_of A
    pub once : IsDistinct sums

  orthogonal_list : (ts : List (List ℕ)) → IsDistinct ts → ((e : List ℕ) → In e ts → IsPrimitiveVector k.ops A e)
      → ((e f : List ℕ) → In e ts → In f ts → e ≢ f → A.product k.ops e f ≡ zero_of A) → IsOrthogonal k.ops A ts
  orthogonal_list [] d p h = tt
  orthogonal_list (t ∷ ts) d p h = (
    (p t (inl refl)).idempotent,
    (p t (inl refl)).nonzero,
    all_of_in (λ f. A.product k.ops t f ≡ zero_of A) ts
        (λ f i. h t f (inl refl) (inr i) (λ s. d.0 (subst (λ y. In y ts) (sym s) i))),
    orthogonal_list ts d.1 (λ e i. p e (inr i)) (λ e f i j. h e f (inr i) (inr j)),
  )

  member_in : (es : List (List ℕ)) → IsOrthogonal k.ops A es → (e : List ℕ) → In e es → IsVector k.ops A.size e
  member_in [] o e i = absurd i
  member_in (f ∷ es) o e (inl s) = subst (IsVector k.ops A.size) (sym s) o.0.vector
  member_in (f ∷ es) o e (inr i) = member_in es o.3 e i

  sum_idempotent : (e s : List ℕ) → IsIdempotentVector k.ops A e → IsIdempotentVector k.ops A s
      → A.product k.ops e s ≡ zero_of A → IsIdempotentVector k.ops A (plus e s)
  sum_idempotent e s p q z = record {
    vector = sum_in k A.size e s p.vector q.vector;
    square = ap (λ x. x.0)
        (ring_sum R (e, p.vector) (s, q.vector) (same_vector k A.size _ _ p.square) (same_vector k A.size _ _ q.square)
        (same_vector k A.size _ _ z));
  }

  sum_killed : (f e s : List ℕ) → IsVector k.ops A.size f → IsVector k.ops A.size e → IsVector k.ops A.size s
      → A.product k.ops f e ≡ zero_of A → A.product k.ops f s ≡ zero_of A → A.product k.ops f (plus e s) ≡ zero_of A
  sum_killed f e s f_in e_in s_in y z =
      ap (λ x. x.0)
      (ring_killed R (f, f_in) (e, e_in) (s, s_in) (same_vector k A.size _ _ y) (same_vector k A.size _ _ z))

  sum_apart : (e s : List ℕ) → IsIdempotentVector k.ops A e → IsVector k.ops A.size s → e ≢ zero_of A
      → A.product k.ops e s ≡ zero_of A → A.product k.ops e (plus e s) ≡ zero_of A → ⊥
  sum_apart e s p s_in n y z =
      n (ap (λ x. x.0)
      (ring_apart R (e, p.vector) (s, s_in) (same_vector k A.size _ _ p.square) (same_vector k A.size _ _ y)
      (same_vector k A.size _ _ z)))

  sum_cancel : (e s t : List ℕ) → IsVector k.ops A.size e → IsVector k.ops A.size s → IsVector k.ops A.size t
      → plus e s ≡ plus e t → s ≡ t
  sum_cancel e s t e_in s_in t_in z =
      ap (λ x. x.0) (add_cancel_left R (e, e_in) (s, s_in) (t, t_in) (same_vector k A.size _ _ z))

  -- one more is added to all
  clean_step : (e : List ℕ) (es sums : List (List ℕ)) → IsOrthogonal k.ops A (e ∷ es) → IsClean sums (e ∷ es)
      → IsClean (sums ++ map (plus e) sums) es
  clean_step e es sums o h = record {
    idempotent = λ s i. elim (in_append s sums (map (plus e) sums) i) [
      | inl j ↦ h.idempotent s j
      | inr j ↦
          let r = of_map (plus e) sums s j in
          subst (IsIdempotentVector k.ops A) (sym r.2)
          (sum_idempotent e r.0 o.0 (h.idempotent r.0 r.1) (h.killed r.0 e r.1 (inl refl)))
    ];
    killed = λ s f i l. elim (in_append s sums (map (plus e) sums) i) [
      | inl j ↦ h.killed s f j (inr l)
      | inr j ↦
          let r = of_map (plus e) sums s j in
          let f_in = member_in es o.3 f l in
          subst (λ y. A.product k.ops f y ≡ zero_of A) (sym r.2)
          (sum_killed f e r.0 f_in o.0.vector (h.idempotent r.0 r.1).vector
          (law.commutative f e f_in o.0.vector ∙ all_in (λ f. A.product k.ops e f ≡ zero_of A) es o.2 f l)
          (h.killed r.0 f r.1 (inr l)))
    ];
    once =
        distinct_append sums (map (plus e) sums) h.once
        (distinct_values (plus e) sums
        (λ s t i j. sum_cancel e s t o.0.vector (h.idempotent s i).vector (h.idempotent t j).vector) h.once)
        (λ s i j.
        let r = of_map (plus e) sums s j in
        sum_apart e r.0 o.0 (h.idempotent r.0 r.1).vector o.1 (h.killed r.0 e r.1 (inl refl))
        (subst (λ y. A.product k.ops e y ≡ zero_of A) r.2 (h.killed s e i (inl refl))));
  }

  clean_end : (es sums : List (List ℕ)) → IsOrthogonal k.ops A es → IsClean sums es
      → IsClean (sums_onto k.ops sums es) []
  clean_end [] sums o h = h
  clean_end (e ∷ es) sums o h = clean_end es (sums ++ map (plus e) sums) o.3 (clean_step e es sums o h)

  part_in : (es fs : List (List ℕ)) → IsOrthogonal k.ops A es → IsSublist fs es
      → IsVector k.ops A.size (vector_sum k.ops A fs)
  part_in [] fs o s = subst (λ y. IsVector k.ops A.size (vector_sum k.ops A y)) (sym s) (zeros_in k A.size)
  part_in (e ∷ es) fs o (inl s) = part_in es fs o.3 s
  part_in (e ∷ es) fs o (inr s) =
      subst (λ y. IsVector k.ops A.size (vector_sum k.ops A y)) (sym s.1)
      (sum_in k A.size e (vector_sum k.ops A s.0) o.0.vector (part_in es s.0 o.3 s.2))

  -- a member plus the sum of a part of the second list
  part_sum : (es sums : List (List ℕ)) → IsOrthogonal k.ops A es → IsClean sums es → (s : List ℕ) (fs : List (List ℕ))
      → In s sums → IsSublist fs es → In (plus s (vector_sum k.ops A fs)) (sums_onto k.ops sums es)
  part_sum [] sums o h s fs i t =
      subst (λ y. In y sums)
      (sym (ap (λ y. plus s (vector_sum k.ops A y)) t ∙ add_zeros k A law (s, (h.idempotent s i).vector))) i
  part_sum (e ∷ es) sums o h s fs i (inl t) =
      part_sum es (sums ++ map (plus e) sums) o.3 (clean_step e es sums o h) s fs
      (in_append_left s sums (map (plus e) sums) i) t
  part_sum (e ∷ es) sums o h s fs i (inr t) =
      let s_in = (h.idempotent s i).vector in
      let rest_in = part_in es t.0 o.3 t.2 in
      subst (λ y. In y (sums_onto k.ops (sums ++ map (plus e) sums) es))
      (ap (λ y. plus y (vector_sum k.ops A t.0)) (ap (λ x. x.0) (R.add_comm (e, o.0.vector) (s, s_in)))
      ∙ lists_assoc k s e (vector_sum k.ops A t.0) s_in.over o.0.vector.over rest_in.over
      ∙ ap (λ y. plus s (vector_sum k.ops A y)) (sym t.1))
      (part_sum es (sums ++ map (plus e) sums) o.3 (clean_step e es sums o h) (plus e s) t.0
      (in_append_right (plus e s) sums (map (plus e) sums) (in_map (plus e) sums s i)) t.2)

  clean_start : (es : List (List ℕ)) → IsOrthogonal k.ops A es → IsClean (zero_of A ∷ []) es
  clean_start es o = record {
    idempotent = λ s i. elim i [
      | inl e ↦ subst (IsIdempotentVector k.ops A) (sym e) (record {
        vector = zeros_in k A.size;
        square = ap (λ x. x.0) (mul_zero R R.𝟘);
      })
      | inr j ↦ absurd j
    ];
    killed = λ s e i l. elim i [
      | inl t ↦ ap (A.product k.ops e) t ∙ ap (λ x. x.0) (mul_zero R (e, member_in es o e l))
      | inr j ↦ absurd j
    ];
    once = ((λ i. i), tt);
  }

  -- the sums of the primitive idempotents
  pub all_sums : (es : List (List ℕ)) → IsPrimitiveList k.ops A es
      → AreIdempotents k.ops A (sums_onto k.ops (zero_of A ∷ []) es)
  all_sums es h =
      let o = orthogonal_list es (ascending_distinct es h.ascending) (λ e i. (h.members e).0 i) h.product in
      let clean = clean_end es (zero_of A ∷ []) o (clean_start es o) in
      record {
        members = λ e. (
          (λ i. clean.idempotent e i),
          (λ p.
              let r = h.idempotents e p in
              subst (λ y. In y (sums_onto k.ops (zero_of A ∷ []) es))
              (zero_first k A.size (vector_sum k.ops A r.0) (part_in es r.0 o r.1) ∙ sym r.2)
              (part_sum es (zero_of A ∷ []) o (clean_start es o) (zero_of A) r.0 (inl refl) r.1)),
        );
        once = clean.once;
      }

  pub summed_start : (es : List (List ℕ)) → IsSummedTo k A es es (zero_of A ∷ [])
  summed_start es = record {
    vectors = All-cons (IsVector k.ops A.size) (zero_of A) [] (zeros_in k A.size) (All-nil (IsVector k.ops A.size));
    is = refl;
  }

  pub summed_step : (es sums new : List (List ℕ)) (i : ℕ) (e : List ℕ) → i < length es → e ≡ get_or es i []
      → IsVector k.ops A.size e → new ≡ sums ++ map (plus e) sums → IsSummedTo k A es (drop i es) sums
      → IsSummedTo k A es (drop (i + 1) es) new
  summed_step es sums new i e less e_is e_in new_is h =
      subst (IsSummedTo k A es (drop (i + 1) es)) (sym new_is) (record {
        vectors = All-append (IsVector k.ops A.size) sums (map (plus e) sums) h.vectors
            (All-map (IsVector k.ops A.size) (plus e) sums
            (All-weaker (IsVector k.ops A.size) (λ s. IsVector k.ops A.size (plus e s))
            (λ s s_in. sum_in k A.size e s e_in s_in) sums h.vectors));
        is =
            ap₂ (λ j x. sums_onto k.ops (sums ++ map (plus x) sums) (drop j es)) (add-one i) e_is
            ∙ sym (ap (sums_onto k.ops sums) (drop-cons es i [] less)) ∙ h.is;
      })

  -- once all are added, the sums are all idempotents
  pub summed_end : (es : List (List ℕ)) (i : ℕ) (sums : List (List ℕ)) → length es ≤ i → IsPrimitiveList k.ops A es
      → IsSummedTo k A es (drop i es) sums → AreIdempotents k.ops A sums
  summed_end es i sums le p h =
      subst (AreIdempotents k.ops A)
      (sym (ap (sums_onto k.ops sums) (sym (drop_all i es le)) ∙ h.is)) (all_sums es p)

-- a primitive idempotent that is read is a vector
pub primitive_in : (k : CodeField) (A : AlgebraOps) (vs : List (Vec ℕ)) → IsPrimitiveList k.ops A (elements_of vs)
    → (i : ℕ) (v : Vec ℕ) → i < length vs → v ≡ get_or vs i v → IsVector k.ops A.size v.items
primitive_in k A vs p i v less v_is =
    vector_at k A.size vs i v less v_is
    (all_of_in (IsVector k.ops A.size) (elements_of vs) (λ e j. ((p.members e).0 j).idempotent.vector))

-- of all idempotents those other than 0 and 1
pub each_proper : (k : CodeField) (A : AlgebraOps) (u v : List ℕ) (sums kept : List (List ℕ)) → u ≡ zero_of A
    → v ≡ A.unit → AreIdempotents k.ops A sums → AreOthers u v sums kept → (e : List ℕ) → In e kept
    → IsProperIdempotentVector k.ops A e
each_proper k A u v sums kept u_is v_is ids h e i = record {
  idempotent = (ids.members e).0 (h.each e i);
  not_zero = λ z. h.not_first e i (z ∙ sym u_is);
  not_one = λ z. h.not_second e i (z ∙ sym v_is);
}

pub all_proper : (k : CodeField) (A : AlgebraOps) (u v : List ℕ) (sums kept : List (List ℕ)) → u ≡ zero_of A
    → v ≡ A.unit → AreIdempotents k.ops A sums → AreOthers u v sums kept → (e : List ℕ)
    → IsProperIdempotentVector k.ops A e → In e kept
all_proper k A u v sums kept u_is v_is ids h e p =
    h.rest e ((ids.members e).1 p.idempotent) (λ z. p.not_zero (z ∙ u_is)) (λ z. p.not_one (z ∙ v_is))

-- what follows from the promise on an answer
pub ok_through : {X E : Type 0} (r : Result X E) {P Q : X → Type 0} → ((x : X) → P x → Q x) → IfOk r P → IfOk r Q
ok_through (Ok x) f h = f x h
ok_through (Err e) f h = h
