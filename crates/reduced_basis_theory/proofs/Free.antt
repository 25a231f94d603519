-- n elements that span n free elements are free.
use Rattle.std.proofs.Common.{◌≡◌, ℕ, ◌<◌, List, [], ◌∷◌, length, All, refl, sym, ◌∙◌, ap, ap₂, subst, arith}
use Rattle.std.proofs.lemmas.List.Elements.{All-weaker}
use Rattle.ring_lemmas.specs.Ring.{TestedRing, IsField, CommRing}
use Rattle.ring_lemmas.proofs.Solver.{reads}
use Rattle.ring_lemmas.specs.Polynomials.{Pol}
use Rattle.ring_theory.specs.PolynomialRing.{pol_ring}
use Rattle.linear_theory.specs.Module.{Module, combine}
use Rattle.linear_theory.specs.Basis.{IsCombination, IsNull}
use Rattle.linear_theory.specs.Lists.{entry, omit, remove}
use Rattle.linear_theory.proofs.Lists.{length_remove}
use Rattle.linear_theory.proofs.Module.{linear, parts, scalar, vector}
use Rattle.linear_theory.proofs.Combination.{combine_omit, combine_linear, combine_scale}
use Rattle.linear_theory.proofs.Exchange.{exchange_multiples}
use Rattle.linear_theory.proofs.Domain.{decide_equal}
use Rattle.reduced_basis_theory.specs.Reduced.{InLattice}
use Rattle.reduced_basis_theory.proofs.Constants.{polynomial_domain}

-- where r·b + y = 0, a multiple of a combination with b is one without it
without : {A V : Type 0} {R : CommRing A} (M : Module R V) (r c : A) (b x y : V) → M.◌⊞◌ (M.◌•◌ r b) y ≡ M.𝟬
    → M.◌•◌ r (M.◌⊞◌ (M.◌•◌ c b) x) ≡ M.◌⊞◌ (M.◌•◌ (R.⊖◌ c) y) (M.◌•◌ r x)
without {R = R} M r c b x y e =
    sym (M.add_zero _) ∙ ap (λ z. M.◌⊞◌ (M.◌•◌ r (M.◌⊞◌ (M.◌•◌ c b) x)) z) (sym (zero e)) ∙ regroup
  where
    zero : M.◌⊞◌ (M.◌•◌ r b) y ≡ M.𝟬 → M.◌•◌ (R.⊖◌ c) (M.◌⊞◌ (M.◌•◌ r b) y) ≡ M.𝟬
    zero e =
        ap (M.◌•◌ (R.⊖◌ c)) e
        ∙ linear M (scalar M c ∷ []) λ q h. simp (parts, reads, q, h 0) (q.equal _ _ refl)

    regroup : M.◌⊞◌ (M.◌•◌ r (M.◌⊞◌ (M.◌•◌ c b) x)) (M.◌•◌ (R.⊖◌ c) (M.◌⊞◌ (M.◌•◌ r b) y))
        ≡ M.◌⊞◌ (M.◌•◌ (R.⊖◌ c) y) (M.◌•◌ r x)
    regroup =
        linear M (vector M b ∷ vector M x ∷ vector M y ∷ scalar M r ∷ scalar M c ∷ []) λ q h.
        simp (parts, reads, q, h 0, h 1, h 2, h 3, h 4) (q.equal _ _ refl)

module _ {C V : Type 0} (k : TestedRing C) (field : IsField k.ops) (M : Module (pol_ring k).ring V) (n : ℕ)
    (p : List V) (p_count : length p ≡ n)
    (p_free : (c : ℕ → Pol k) → combine M.ops c p ≡ M.𝟬 → (i : ℕ) → i < n → c i ≡ (pol_ring k).𝟘)
    (b : List V) (count : length b ≡ n) (spans : All (InLattice k M.ops b) p) where
  infixl 65 ◌⊞◌
  infixr 75 ◌•◌
  open M use {𝟬, ◌⊞◌, ◌•◌}

  infixl 65 ◌⊕◌
  infixl 70 ◌⊗◌
  infixr 80 ⊖◌
  open (pol_ring k) use {𝟘, ◌⊕◌, ◌⊗◌, ⊖◌}

  pub free_of_spanning : (r : ℕ → Pol k) → combine M.ops r b ≡ 𝟬 → (i : ℕ) → i < n → r i ≡ 𝟘
  free_of_spanning r null i l = elim (decide_equal (pol_ring k) (r i) 𝟘) [ yes z ↦ z | no some ↦ absurd (clash some) ]
    where
      below : i < length b
      below = subst (λ n. i < n) (sym count) l

      others : List V
      others = remove i b

      inside : (v : V) → InLattice k M.ops b v → IsCombination M.ops (IsNull M.ops) others (r i • v)
      inside v c = record {
        coefficient = λ j. ⊖ (c.coefficient i) ⊗ omit i r j ⊕ r i ⊗ omit i c.coefficient j;
        rest = 𝟬;
        rest_in = refl;
        is =
            ap (λ w. r i • w) (c.is ∙ combine_omit M i c.coefficient b below)
            ∙ without M (r i) (c.coefficient i) (entry 𝟬 b i) (combine M.ops (omit i c.coefficient) others)
            (combine M.ops (omit i r) others)
            (sym (combine_omit M i r b below) ∙ null)
            ∙ ap (λ w. ⊖ (c.coefficient i) • combine M.ops (omit i r) others ⊞ w)
            (sym (combine_scale M (r i) (omit i c.coefficient) others))
            ∙ sym (combine_linear M (⊖ (c.coefficient i)) (omit i r) (λ j. r i ⊗ omit i c.coefficient j) others)
            ∙ sym (M.add_zero _);
      }

      clash : ¬ (r i ≡ 𝟘) → ⊥
      clash some =
          let h = exchange_multiples (polynomial_domain k field) M (IsNull M.ops)
          (record {
            zero_in = refl;
            sum_in = λ u v a c. ap₂ ◌⊞◌ a c ∙ M.add_zero 𝟬;
            scale_in = λ a v c. ap (λ w. a • w) c
                ∙ linear M (scalar M a ∷ []) λ q h. simp (parts, reads, q, h 0) (q.equal _ _ refl);
          })
          (r i) some p others
          (λ c z j l'. p_free c z j (subst (λ n. j < n) p_count l'))
          (All-weaker (InLattice k M.ops b) (λ v. IsCombination M.ops (IsNull M.ops) others (r i • v)) inside p
          spans) in
          let a = length_remove i b below in
          let c = p_count in
          let f = count in
          omega arith
