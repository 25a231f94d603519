-- The coefficients of a combination of independent members are unique, and a member that is no combination of
-- them is independent with them. In a space with a finite basis it is decided which is so.
use Rattle.std.proofs.Common.{◌≡◌, ℕ, ◌<◌, ◌≤◌, ◌+◌, ◌⊎◌, inl, inr, List, [], ◌∷◌, ◌++◌, length, All, refl, sym, ◌∙◌, ap, subst, arith}
use Rattle.std.proofs.lemmas.List.{length-append}
use Rattle.ring_lemmas.specs.Ring.{CommRing}
use Rattle.ring_lemmas.proofs.Ring.{one_mul, eq_of_sub}
use Rattle.ring_lemmas.proofs.Solver.{ring, reads}
use Rattle.linear_theory.specs.Fields.{Field, domain_of}
use Rattle.linear_theory.specs.Module.{Module, combine}
use Rattle.linear_theory.specs.Basis.{IsSubspace, IsCombination, IsIndependent, IsBasis}
use Rattle.linear_theory.specs.Lists.{join}
use Rattle.linear_theory.proofs.Lists.{join_right}
use Rattle.linear_theory.proofs.Module.{linear, parts, vector, scalar}
use Rattle.linear_theory.proofs.Combination.{combine_none, combine_zero, combine_linear, combine_scale, combine_append, combine_join}
use Rattle.linear_theory.proofs.Domain.{first_nonzero, inverse_of, inverse_is, decide_equal}
use Rattle.linear_theory.proofs.Bases.{complete, Completion}
use Rattle.std.proofs.lemmas.Bool.{cases_lt}

module _ {A V : Type 0} {R : CommRing A} (M : Module R V) (U : V → Type 0) (𝓤 : IsSubspace M.ops U) where
  infixl 65 ◌⊞◌
  infixr 75 ◌•◌
  open M use {𝟬, ◌⊞◌, ◌•◌}

  infixl 65 ◌⊕◌
  infixl 70 ◌⊗◌
  infixr 80 ⊖◌
  open R use {𝟘, 𝟙, ◌⊕◌, ◌⊗◌, ⊖◌}

  -- the coefficients of a combination of independent vectors
  pub coefficients_unique : (ws : List V) → IsIndependent R.ops M.ops U ws → (v : V)
      → (h k : IsCombination M.ops U ws v)
      → (i : ℕ) → i < length ws → h.coefficient i ≡ k.coefficient i
  coefficients_unique ws free v h k i l =
      sym (eq_of_sub R (k.coefficient i) (h.coefficient i)
      (R.add_comm _ _ ∙ ap (λ x. x ⊕ k.coefficient i) (sym (one_mul R _) ∙ minus_one (h.coefficient i)) ∙ free d m i l))
    where
      d : ℕ → A
      d i = ⊖ 𝟙 ⊗ h.coefficient i ⊕ k.coefficient i

      minus_one : (a : A) → 𝟙 ⊗ ⊖ a ≡ ⊖ 𝟙 ⊗ a
      minus_one a = ring R (a ∷ []) λ q x. simp (reads, q, x 0) (q.equal _ _ refl)

      step : (x t y s : V) → x ⊞ t ≡ y ⊞ s → ⊖ 𝟙 • x ⊞ y ≡ t ⊞ ⊖ 𝟙 • s
      step x t y s e =
          let f : ⊖ 𝟙 • x ⊞ y ≡ (⊖ 𝟙 • x ⊞ (y ⊞ s)) ⊞ ⊖ 𝟙 • s
          = linear M (vector M x ∷ vector M y ∷ vector M s ∷ []) λ q z. simp (parts, reads, q, z 0, z 1, z 2)
          (q.equal _ _ refl) in
          let g : (⊖ 𝟙 • x ⊞ (x ⊞ t)) ⊞ ⊖ 𝟙 • s ≡ t ⊞ ⊖ 𝟙 • s
          = linear M (vector M x ∷ vector M t ∷ vector M s ∷ []) λ q z. simp (parts, reads, q, z 0, z 1, z 2)
          (q.equal _ _ refl) in
          f ∙ ap (λ z. (⊖ 𝟙 • x ⊞ z) ⊞ ⊖ 𝟙 • s) (sym e) ∙ g

      m : U (combine M.ops d ws)
      m =
          subst U
          (sym (combine_linear M (⊖ 𝟙) h.coefficient k.coefficient ws ∙ step _ h.rest _ k.rest (sym h.is ∙ k.is)))
          (𝓤.sum_in _ _ h.rest_in (𝓤.scale_in (⊖ 𝟙) _ k.rest_in))

module _ {A V : Type 0} (K : Field A) (M : Module K.ring V) (U : V → Type 0) (𝓤 : IsSubspace M.ops U) where
  infixl 65 ◌⊞◌
  infixr 75 ◌•◌
  open M use {𝟬, ◌⊞◌, ◌•◌}

  infixl 65 ◌⊕◌
  infixl 70 ◌⊗◌
  infixr 80 ⊖◌
  open K.ring use {𝟘, 𝟙, ◌⊕◌, ◌⊗◌, ⊖◌}

  abbrev R : CommRing A
  R = K.ring

  -- a vector that is no combination of independent ones is independent with them
  pub independent_more : (vs : List V) (v : V) → IsIndependent R.ops M.ops U vs → ¬ IsCombination M.ops U vs v
      → IsIndependent R.ops M.ops U (vs ++ v ∷ [])
  independent_more vs v free no_h c m i l = all (decide_equal K.tested (c (n + 0)) 𝟘) (cases_lt i n)
    where
      n : ℕ
      n = length vs

      m' : U (combine M.ops c vs ⊞ (c (n + 0) • v ⊞ 𝟬))
      m' = subst U (combine_append M c vs (v ∷ [])) m

      step : (x v : V) (a b : A) → a ⊗ b ≡ 𝟙 → v ≡ ⊖ b • x ⊞ b • (x ⊞ (a • v ⊞ 𝟬))
      step x v a b e =
          let f : ⊖ b • x ⊞ b • (x ⊞ (a • v ⊞ 𝟬)) ≡ (a ⊗ b) • v
          = linear M (vector M x ∷ vector M v ∷ scalar M a ∷ scalar M b ∷ []) λ q y. simp
          (parts, reads, q, y 0, y 1, y 2, y 3) (q.equal _ _ refl) in
          sym (M.one_scale v) ∙ ap (λ y. y • v) (sym e) ∙ sym f

      last : Dec (c (n + 0) ≡ 𝟘) → c (n + 0) ≡ 𝟘
      last (yes e) = e
      last (no ne) =
          let b = inverse_of K (c (n + 0)) in
          absurd (no_h (record {
            coefficient = λ i. ⊖ b ⊗ c i;
            rest = b • (combine M.ops c vs ⊞ (c (n + 0) • v ⊞ 𝟬));
            rest_in = 𝓤.scale_in b _ m';
            is =
                step (combine M.ops c vs) v (c (n + 0)) b (inverse_is K (c (n + 0)) ne)
                ∙ ap (λ x. x ⊞ b • (combine M.ops c vs ⊞ (c (n + 0) • v ⊞ 𝟬))) (sym (combine_scale M (⊖ b) c vs));
          }))

      all : Dec (c (n + 0) ≡ 𝟘) → (i < n) ⊎ (n ≤ i) → c i ≡ 𝟘
      all d (inl k) =
          free c
          (subst U
          (ap (λ x. combine M.ops c vs ⊞ (x • v ⊞ 𝟬)) (last d)
          ∙ ap (λ x. combine M.ops c vs ⊞ x) (M.add_zero _ ∙ M.zero_scale v)
          ∙ M.add_zero _) m') i k
      all d (inr k) =
          let b : i < n + 1 = subst (λ k. i < k) (length-append vs (v ∷ [])) l in
          ap c (let e : i ≡ n + 0 = omega arith in e) ∙ last d

  module _ (W : V → Type 0) (𝓦 : IsSubspace M.ops W) (ws : List V) (b : IsBasis R.ops M.ops U W ws) where
    -- combinations of an independent list are decidable
    pub decide_combination : (vs : List V) → All W vs → IsIndependent R.ops M.ops U vs → (v : V) → W v
        → Dec (IsCombination M.ops U vs v)
    decide_combination vs h free v v_in = go (complete K M U W 𝓤 𝓦 W vs ws b b.members_in h free)
      where
        go : Completion K M U W 𝓤 𝓦 W vs ws → Dec (IsCombination M.ops U vs v)
        go r = decide (first_nonzero (domain_of K) (λ j. k.coefficient (length vs + j)) (length r.others))
          where
            k : IsCombination M.ops U (vs ++ r.others) v
            k = r.basis.spanning v v_in

            decide : ((i : ℕ) × (i < length r.others) × (¬ (k.coefficient (length vs + i) ≡ 𝟘))
                × ((j : ℕ) → j < i → k.coefficient (length vs + j) ≡ 𝟘))
                ⊎ ((i : ℕ) → i < length r.others → k.coefficient (length vs + i) ≡ 𝟘) → Dec (IsCombination M.ops U vs v)
            decide (inr none) =
                yes (record {
                  coefficient = k.coefficient;
                  rest = k.rest;
                  rest_in = k.rest_in;
                  is =
                      k.is ∙ ap (λ x. x ⊞ k.rest)
                      (combine_append M k.coefficient vs r.others
                      ∙ ap (λ x. combine M.ops k.coefficient vs ⊞ x)
                      (combine_none M (λ i. k.coefficient (length vs + i)) r.others none)
                      ∙ M.add_zero _);
                })
            decide (inl p) =
                no (λ a.
                let d = join (length vs) a.coefficient (λ i. 𝟘) in
                let longer : IsCombination M.ops U (vs ++ r.others) v
                = record {
                  coefficient = d;
                  rest = a.rest;
                  rest_in = a.rest_in;
                  is =
                      a.is ∙ ap (λ x. x ⊞ a.rest)
                      (sym (combine_join M a.coefficient (λ i. 𝟘) vs r.others
                      ∙ ap (λ x. combine M.ops a.coefficient vs ⊞ x) (combine_zero M r.others) ∙ M.add_zero _));
                } in
                let l : p.0 < length r.others = p.1 in
                p.2 (coefficients_unique M U 𝓤 (vs ++ r.others) r.basis.independent v k longer (length vs + p.0)
                (subst (λ n. length vs + p.0 < n) (sym (length-append vs r.others)) (omega arith))
                ∙ join_right (length vs) a.coefficient (λ i. 𝟘) p.0))
