-- Bases of one subspace over another, over a field: the exchange of a vector, completion of an independent list out of
-- a basis, and what follows for lengths.
use Rattle.std.proofs.Common.{◌≡◌, ℕ, zero, suc, ◌<◌, ◌+◌, ◌⊎◌, inl, inr, List, [], ◌∷◌, ◌++◌, length, All, refl, sym, ◌∙◌, ap, ap₂, subst, arith, zero-add}
use Rattle.std.proofs.lemmas.List.{length-append}
use Rattle.std.proofs.lemmas.List.Elements.{All-cons, All-head, All-tail}
use Rattle.ring_lemmas.specs.Ring.{CommRing}
use Rattle.ring_lemmas.proofs.Ring.{zero_mul, zero_add}
use Rattle.ring_lemmas.proofs.Solver.{reads}
use Rattle.linear_theory.specs.Fields.{Field, domain_of}
use Rattle.linear_theory.specs.Module.{Module, combine}
use Rattle.linear_theory.specs.Basis.{IsSubspace, IsCombination, IsIndependent, IsBasis, IsNull}
use Rattle.linear_theory.specs.Lists.{entry, remove, insert, omit}
use Rattle.linear_theory.proofs.Lists.{length_remove, All_remove, remove_append, insert_split}
use Rattle.linear_theory.proofs.Module.{linear, parts, vector, scalar, zero_plus, scale_zero}
use Rattle.linear_theory.proofs.Combination.{combine_none, combine_linear, combine_scale, combine_append, combine_insert, combine_omit}
use Rattle.linear_theory.proofs.Domain.{cancel_right, first_nonzero, inverse_of, inverse_is}

module _ {A V : Type 0} (K : Field A) (M : Module K.ring V) where
  infixl 65 ◌⊞◌
  infixr 75 ◌•◌
  open M use {𝟬, ◌⊞◌, ◌•◌}

  infixl 65 ◌⊕◌
  infixl 70 ◌⊗◌
  infixr 80 ⊖◌
  open K.ring use {𝟘, 𝟙, ◌⊕◌, ◌⊗◌, ⊖◌}

  abbrev R : CommRing A
  R = K.ring

  pub null_subspace : IsSubspace M.ops (IsNull M.ops)
  null_subspace = record {
    zero_in = refl;
    sum_in = λ u v h k. ap₂ ◌⊞◌ h k ∙ M.add_zero 𝟬;
    scale_in = λ a v h. ap (λ x. a • x) h ∙ scale_zero M a;
  }

  -- combinations of members of a subspace are members
  pub combine_in : (W : V → Type 0) → IsSubspace M.ops W → (c : ℕ → A) (vs : List V) → All W vs → W (combine M.ops c vs)
  combine_in W 𝓦 c [] h = 𝓦.zero_in
  combine_in W 𝓦 c (v ∷ vs) h =
      𝓦.sum_in _ _ (𝓦.scale_in (c 0) v (All-head W v vs h)) (combine_in W 𝓦 (λ i. c (suc i)) vs (All-tail W v vs h))

  module _ (U W : V → Type 0) (𝓤 : IsSubspace M.ops U) (𝓦 : IsSubspace M.ops W) where
    -- a vector in place of a member of the basis, where its coefficient there is not 0
    pub exchange_one : (ws : List V) → IsBasis R.ops M.ops U W ws → (v : V) → W v
        → (h : IsCombination M.ops U ws v) (i : ℕ) → i < length ws → ¬ (h.coefficient i ≡ 𝟘)
        → IsBasis R.ops M.ops U W (v ∷ remove i ws)
    exchange_one ws b v v_in h i l nonzero = record {
      members_in = All-cons W v others v_in (All_remove W i ws b.members_in);
      spanning = λ w w_in. spans w (b.spanning w w_in);
      independent = free;
    }
      where
        others : List V
        others = remove i ws

        c : ℕ → A
        c = h.coefficient

        a : A
        a = h.coefficient i

        p : V
        p = entry 𝟬 ws i

        x : V
        x = combine M.ops (omit i c) others

        v_is : v ≡ (a • p ⊞ x) ⊞ h.rest
        v_is = h.is ∙ ap (λ y. y ⊞ h.rest) (combine_omit M i c ws l)

        divided : (d : A) → d ≡ (d ⊗ inverse_of K a) ⊗ a
        divided d =
            sym (R.mul_one d) ∙ ap (λ y. d ⊗ y) (sym (inverse_is K a nonzero) ∙ R.mul_comm _ _)
            ∙ sym (R.mul_assoc _ _ _)

        step : (s a : A) (p x x' t t' : V)
            → ((s ⊗ a) • p ⊞ x') ⊞ t' ≡ (s • ((a • p ⊞ x) ⊞ t) ⊞ (⊖ s • x ⊞ x')) ⊞ (t' ⊞ ⊖ s • t)
        step s a p x x' t t' =
            linear M (scalar M s ∷ scalar M a ∷ vector M p ∷ vector M x ∷ vector M x' ∷ vector M t ∷ vector M t' ∷ []) λ
            q y.
            simp (parts, reads, q, y 0, y 1, y 2, y 3, y 4, y 5, y 6) (q.equal _ _ refl)

        spans : (w : V) → IsCombination M.ops U ws w → IsCombination M.ops U (v ∷ others) w
        spans w k =
            let s = k.coefficient i ⊗ inverse_of K a in
            record {
              coefficient = insert 0 s (λ j. ⊖ s ⊗ omit i c j ⊕ omit i k.coefficient j);
              rest = k.rest ⊞ ⊖ s • h.rest;
              rest_in = 𝓤.sum_in _ _ k.rest_in (𝓤.scale_in (⊖ s) _ h.rest_in);
              is =
                  k.is ∙ ap (λ y. y ⊞ k.rest) (combine_omit M i k.coefficient ws l)
                  ∙ ap (λ d. (d • p ⊞ combine M.ops (omit i k.coefficient) others) ⊞ k.rest) (divided (k.coefficient i))
                  ∙ step s a p x (combine M.ops (omit i k.coefficient) others) h.rest k.rest
                  ∙ ap₂ (λ y z. (s • y ⊞ z) ⊞ (k.rest ⊞ ⊖ s • h.rest)) (sym v_is)
                  (sym (combine_linear M (⊖ s) (omit i c) (omit i k.coefficient) others));
            }

        step' : (e a : A) (p x t y : V) → (e • ((a • p ⊞ x) ⊞ t) ⊞ y) ⊞ ⊖ e • t ≡ (e ⊗ a) • p ⊞ (e • x ⊞ y)
        step' e a p x t y =
            linear M (scalar M e ∷ scalar M a ∷ vector M p ∷ vector M x ∷ vector M t ∷ vector M y ∷ []) λ q z.
            simp (parts, reads, q, z 0, z 1, z 2, z 3, z 4, z 5) (q.equal _ _ refl)

        free : IsIndependent R.ops M.ops U (v ∷ others)
        free e m =
            let y = combine M.ops (λ j. e (suc j)) others in
            let d = insert i (e 0 ⊗ a) (λ j. e 0 ⊗ omit i c j ⊕ e (suc j)) in
            let f : (e 0 • v ⊞ y) ⊞ ⊖ (e 0) • h.rest ≡ combine M.ops d ws
            = ap (λ z. (e 0 • z ⊞ y) ⊞ ⊖ (e 0) • h.rest) v_is ∙ step' (e 0) a p x h.rest y
            ∙ ap (λ z. (e 0 ⊗ a) • p ⊞ z) (sym (combine_linear M (e 0) (omit i c) (λ j. e (suc j)) others))
            ∙ sym (combine_insert M i (e 0 ⊗ a) (λ j. e 0 ⊗ omit i c j ⊕ e (suc j)) ws l) in
            let zeros = b.independent d (subst U f (𝓤.sum_in _ _ m (𝓤.scale_in (⊖ (e 0)) _ h.rest_in))) in
            let size = length_remove i ws l in
            let both = insert_split (λ z. z ≡ 𝟘) i (e 0 ⊗ a) (λ j. e 0 ⊗ omit i c j ⊕ e (suc j)) (length others)
            (subst (λ n. i < n) size l) (λ k k_below. zeros k (subst (λ n. k < n) (sym size) k_below)) in
            let first : e 0 ≡ 𝟘 = cancel_right (domain_of K) (e 0) a nonzero both.0 in
            elim [
              | zero ↦ λ k. first
              | suc j ↦ λ k.
                  sym (zero_add R _)
                  ∙ ap (λ z. z ⊕ e (suc j)) (sym (ap (λ z. z ⊗ omit i c j) first ∙ zero_mul R _))
                  ∙ both.1 j (omega arith)
            ]

    independent_tail : (v : V) (vs : List V) → IsIndependent R.ops M.ops U (v ∷ vs) → IsIndependent R.ops M.ops U vs
    independent_tail v vs free c m i l =
        free (insert 0 𝟘 c) (subst U (sym (ap (λ x. x ⊞ combine M.ops c vs) (M.zero_scale v) ∙ zero_plus M _)) m)
        (suc i) (omega arith)

    -- an independent list and members of a basis that make a basis together
    pub record Completion (P : V → Type 0) (vs ws : List V) : Type 0 where
      pub others : List V
      pub others_in : All P others
      pub size : length vs + length others ≡ length ws
      pub basis : IsBasis R.ops M.ops U W (vs ++ others)

    -- no member of the list is a combination of the others
    pub not_combination : (v : V) (vs : List V) → IsIndependent R.ops M.ops U (v ∷ vs) → ¬ IsCombination M.ops U vs v
    not_combination v vs free h =
        K.is_field.one_not_zero
        (free (insert 0 𝟙 (λ i. ⊖ 𝟙 ⊗ h.coefficient i)) (subst U (sym e) h.rest_in) 0 (omega arith))
      where
        step : (x t : V) → 𝟙 • (x ⊞ t) ⊞ ⊖ 𝟙 • x ≡ t
        step x t =
            linear M (vector M x ∷ vector M t ∷ []) λ q y. simp (parts, reads, q, y 0, y 1) (q.equal _ _ refl)

        e : 𝟙 • v ⊞ combine M.ops (λ i. ⊖ 𝟙 ⊗ h.coefficient i) vs ≡ h.rest
        e =
            ap₂ (λ x y. 𝟙 • x ⊞ y) h.is (combine_scale M (⊖ 𝟙) h.coefficient vs)
            ∙ step (combine M.ops h.coefficient vs) h.rest

    pub complete : (P : V → Type 0) (vs ws : List V) → IsBasis R.ops M.ops U W ws → All P ws → All W vs
        → IsIndependent R.ops M.ops U vs → Completion P vs ws
    complete P [] ws b p h free = record { others = ws; others_in = p; size = zero-add (length ws); basis = b }
    complete P (v ∷ vs) ws b p h free =
        let r = complete P vs ws b p (All-tail W v vs h) (independent_tail v vs free) in
        let k = r.basis.spanning v (All-head W v vs h) in
        go r k (first_nonzero (domain_of K) (λ j. k.coefficient (length vs + j)) (length r.others))
      where
        go : (r : Completion P vs ws) (k : IsCombination M.ops U (vs ++ r.others) v)
            → ((i : ℕ) × (i < length r.others) × (¬ (k.coefficient (length vs + i) ≡ 𝟘))
            × ((j : ℕ) → j < i → k.coefficient (length vs + j) ≡ 𝟘))
            ⊎ ((i : ℕ) → i < length r.others → k.coefficient (length vs + i) ≡ 𝟘)
            → Completion P (v ∷ vs) ws
        go r k (inl f) =
            let below : f.0 < length r.others = f.1 in
            record {
              others = remove f.0 r.others;
              others_in = All_remove P f.0 r.others r.others_in;
              size = omega (arith, r.size, length_remove f.0 r.others f.1);
              basis =
                  subst (IsBasis R.ops M.ops U W) (ap (λ x. v ∷ x) (remove_append vs r.others f.0))
                  (exchange_one (vs ++ r.others) r.basis v (All-head W v vs h) k (length vs + f.0)
                  (subst (λ n. length vs + f.0 < n) (sym (length-append vs r.others)) (omega arith)) f.2);
            }
        go r k (inr none) =
            absurd (not_combination v vs free (record {
              coefficient = k.coefficient;
              rest = k.rest;
              rest_in = k.rest_in;
              is =
                  k.is ∙ ap (λ x. x ⊞ k.rest)
                  (combine_append M k.coefficient vs r.others
                  ∙ ap (λ x. combine M.ops k.coefficient vs ⊞ x)
                  (combine_none M (λ i. k.coefficient (length vs + i)) r.others none)
                  ∙ M.add_zero _);
            }))
