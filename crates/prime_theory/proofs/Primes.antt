-- Prime ideals with a field of classes: elements outside, pairs and invertibility, different primes.
use Rattle.std.proofs.Common.{◌≡◌, ◌⊎◌, inl, inr, ℕ, zero, suc, List, [], ◌∷◌, refl, sym, ◌∙◌, ap, subst}
use Rattle.ring_lemmas.specs.Ring.{CommRing, pow}
use Rattle.ring_lemmas.specs.Sums.{sum_over}
use Rattle.ring_theory.specs.Subsets.{IsSubring, IsModule, Factors, Product}
use Rattle.ring_theory.specs.Local.{Comaximal}
use Rattle.ring_lemmas.proofs.Ring.{zero_mul, one_mul, add_mul}
use Rattle.ring_theory.proofs.Subsets.{product_member, product_module, colon_module}
use Rattle.ring_lemmas.proofs.Solver.{ring, reads}
use Rattle.prime_theory.specs.Ideals.{IsIdeal, IsAdditive, Inverse, Invertible, SameSet}
use Rattle.prime_theory.specs.Primes.{IsPrime, Outside, Pair, Different}
use Rattle.prime_theory.proofs.Products.{own_module}

pub different_symmetric : {A : Type 0} (P Q : A → Type 0) → Different P Q → Different Q P
different_symmetric P Q d = record {
  first = d.second;
  first_in = d.second_in;
  first_out = d.second_out;
  second = d.first;
  second_in = d.first_in;
  second_out = d.first_out;
}

module _ {A : Type 0} (R : CommRing A) (O : A → Type 0) (𝓞 : IsSubring R.ops O) where
  infixl 65 ◌⊕◌
  infixl 70 ◌⊗◌
  infixr 80 ⊖◌
  open R use {𝟘, 𝟙, ◌⊕◌, ◌⊗◌, ⊖◌}

  pub ideal_module : (C : A → Type 0) → IsIdeal R.ops O C → IsModule R.ops O C
  ideal_module C 𝓒 = record { zero_in = 𝓒.zero_in; sum_in = 𝓒.sum_in; scale_in = 𝓒.scale_in }

  pub ideal_additive : (C : A → Type 0) → IsIdeal R.ops O C → IsAdditive R.ops C
  ideal_additive C 𝓒 = record { zero_in = 𝓒.zero_in; sum_in = 𝓒.sum_in }

  pub ideal_neg : (C : A → Type 0) → IsIdeal R.ops O C → (a : A) → C a → C (⊖ a)
  ideal_neg C 𝓒 a m =
      subst C (ring R (a ∷ []) λ q x. simp (reads, q, x 0) (q.equal _ _ refl))
      (𝓒.scale_in (⊖ 𝟙) a (𝓞.neg_in _ 𝓞.one_in) m)

  module _ (P : A → Type 0) (𝓟 : IsPrime R.ops O P) where
    -- an element that is 1 up to P is not in P
    pub one_up_to : (a b : A) → P a → P (b ⊕ ⊖ 𝟙) → P b → ⊥
    one_up_to a b a_in h k =
        𝓟.proper
        (subst P (ring R (b ∷ []) λ q x. simp (reads, q, x 0) (q.equal _ _ refl))
        (𝓟.ideal.sum_in _ _ k (ideal_neg P 𝓟.ideal _ h)))

    pub one_outside : Outside O P 𝟙
    one_outside = record { within = 𝓞.one_in; out = 𝓟.proper }

    -- products of elements outside are outside
    pub outside_product : (u v : A) → Outside O P u → Outside O P v → Outside O P (u ⊗ v)
    outside_product u v h k = record {
      within = 𝓞.product_in _ _ h.within k.within;
      out = λ m.
          let i = 𝓟.invert u h.within h.out in
          let z : P v
          = subst P
          (ring R (u ∷ v ∷ i.inverse ∷ []) λ q x. simp (reads, q, x 0, x 1, x 2) (q.equal _ _ refl))
          (𝓟.ideal.sum_in _ _
          (𝓟.ideal.scale_in i.inverse (u ⊗ v) i.inverse_in m)
          (𝓟.ideal.scale_in (⊖ v) (i.inverse ⊗ u ⊕ ⊖ 𝟙) (𝓞.neg_in _ k.within) i.is)) in
          k.out z;
    }

    pub outside_power : (u : A) → Outside O P u → (n : ℕ) → Outside O P (pow R.ops u n)
    outside_power u h zero = one_outside
    outside_power u h (suc n) = outside_product u _ h (outside_power u h n)

    -- an element outside and a member of P differ by an element outside
    pub outside_add : (u v : A) → Outside O P u → P v → Outside O P (u ⊕ v)
    outside_add u v h m = record {
      within = 𝓞.sum_in _ _ h.within (𝓟.ideal.within v m);
      out = λ k.
          h.out
          (subst P (ring R (u ∷ v ∷ []) λ q x. simp (reads, q, x 0, x 1) (q.equal _ _ refl))
          (𝓟.ideal.sum_in _ _ k (ideal_neg P 𝓟.ideal v m)));
    }

    -- what is comaximal with a member of P is outside
    pub comaximal_outside : (w p : A) → O w → P p → Comaximal R.ops O w p → Outside O P w
    comaximal_outside w p w_in p_in c = record {
      within = w_in;
      out = λ m.
          𝓟.proper
          (subst P c.is (𝓟.ideal.sum_in _ _ (𝓟.ideal.scale_in _ _ c.left_in m) (𝓟.ideal.scale_in _ _ c.right_in p_in)));
    }

    -- pairs

    pub inverse_module : IsModule R.ops O (Inverse R.ops O P)
    inverse_module = colon_module R O 𝓞 O P (own_module R O 𝓞)

    pub one_in_inverse : Inverse R.ops O P 𝟙
    one_in_inverse y m = subst O (sym (one_mul R y)) (𝓟.ideal.within y m)

    -- among the terms of a sum of products there is one outside, or the sum times g is in P
    record Found (g : A) : Type 0 where
      left : A
      left_in : P left
      right : A
      right_in : Inverse R.ops O P right
      outside : Outside O P (left ⊗ right ⊗ g)

    search_terms : (g : A) → ((t : A) → P t → O (t ⊗ g)) → (ps : List (Factors P (Inverse R.ops O P)))
        → ((c t : A) → Inverse R.ops O P c → P t → O (t ⊗ c ⊗ g))
        → Found g ⊎ P (sum_over R.ops ps (λ f. f.left ⊗ f.right) ⊗ g)
    search_terms g f [] k = inr (subst P (sym (zero_mul R g)) 𝓟.ideal.zero_in)
    search_terms g f (t ∷ ts) k = go (𝓟.decide (t.left ⊗ t.right ⊗ g) term_in) (search_terms g f ts k)
      where
        term_in : O (t.left ⊗ t.right ⊗ g)
        term_in = k t.right t.left t.right_in t.left_in

        go : P (t.left ⊗ t.right ⊗ g) ⊎ (¬ (P (t.left ⊗ t.right ⊗ g)))
            → Found g ⊎ P (sum_over R.ops ts (λ f. f.left ⊗ f.right) ⊗ g)
            → Found g ⊎ P (sum_over R.ops (t ∷ ts) (λ f. f.left ⊗ f.right) ⊗ g)
        go (inr n) r = inl (record {
          left = t.left;
          left_in = t.left_in;
          right = t.right;
          right_in = t.right_in;
          outside = record { within = term_in; out = n };
        })
        go (inl m) (inl r) = inl r
        go (inl m) (inr r) = inr (subst P (sym (add_mul R _ _ _)) (𝓟.ideal.sum_in _ _ m r))

    -- an invertible prime has a pair
    pub pair_of_invertible : Invertible R.ops O P → Pair R.ops O P
    pair_of_invertible h = go (search_terms 𝟙 (λ t m. subst O (sym (R.mul_one t)) (𝓟.ideal.within t m)) h.0
        (λ c t i m. subst O (sym (R.mul_one _) ∙ ap (λ x. x ⊗ 𝟙) (R.mul_comm c t)) (i t m)))
      where
        go : Found 𝟙 ⊎ P (sum_over R.ops h.0 (λ f. f.left ⊗ f.right) ⊗ 𝟙) → Pair R.ops O P
        go (inl r) = record {
          tau = r.left;
          tau_in = r.left_in;
          gamma = r.right;
          gamma_in = r.right_in;
          outside = subst (Outside O P) (R.mul_one _) r.outside;
        }
        go (inr r) = absurd (𝓟.proper (subst P (R.mul_one _ ∙ sym h.1) r))

    -- a prime with a pair is invertible
    pub invertible_of_pair : Pair R.ops O P → Invertible R.ops O P
    invertible_of_pair t =
        let i = 𝓟.invert (t.tau ⊗ t.gamma) t.outside.within t.outside.out in
        let 𝓘 = product_module R O 𝓞 P (Inverse R.ops O P) (ideal_module P 𝓟.ideal) in
        let first = product_member R O 𝓞 P (Inverse R.ops O P) t.tau t.gamma t.tau_in t.gamma_in in
        let second
        = product_member R O 𝓞 P (Inverse R.ops O P) (i.inverse ⊗ (t.tau ⊗ t.gamma) ⊕ ⊖ 𝟙) 𝟙 i.is one_in_inverse in
        let e : i.inverse ⊗ (t.tau ⊗ t.gamma) ⊕ ⊖ 𝟙 ⊗ ((i.inverse ⊗ (t.tau ⊗ t.gamma) ⊕ ⊖ 𝟙) ⊗ 𝟙) ≡ 𝟙
        = ring R (i.inverse ∷ t.tau ∷ t.gamma ∷ []) λ q x. simp (reads, q, x 0, x 1, x 2) (q.equal _ _ refl) in
        subst (Product R.ops P (Inverse R.ops O P)) e
        (𝓘.sum_in _ _ (𝓘.scale_in i.inverse _ i.inverse_in first) (𝓘.scale_in (⊖ 𝟙) _ (𝓞.neg_in _ 𝓞.one_in) second))

    -- gamma of a pair is not in O
    pub gamma_out : (t : Pair R.ops O P) → ¬ (O t.gamma)
    gamma_out t m = t.outside.out (subst P (R.mul_comm _ _) (𝓟.ideal.scale_in t.gamma t.tau m t.tau_in))

    -- an element of O that gamma takes into O is in P
    pub in_prime : (t : Pair R.ops O P) → (z : A) → O z → O (z ⊗ t.gamma) → P z
    in_prime t z z_in h = go (𝓟.decide z z_in)
      where
        go : P z ⊎ (¬ (P z)) → P z
        go (inl m) = m
        go (inr n) =
            let i = 𝓟.invert z z_in n in
            let g : O t.gamma
            = subst O
            (ring R (t.gamma ∷ i.inverse ∷ z ∷ []) λ q x. simp (reads, q, x 0, x 1, x 2) (q.equal _ _ refl))
            (𝓞.sum_in _ _
            (𝓞.product_in _ _ i.inverse_in h)
            (𝓞.neg_in _ (t.gamma_in _ i.is))) in
            absurd (gamma_out t g)

    -- a prime within P is P
    pub prime_within : (P' : A → Type 0) → IsPrime R.ops O P' → ((a : A) → P' a → P a) → SameSet P' P
    prime_within P' 𝓟' f z = (f z, λ m. go m (𝓟'.decide z (𝓟.ideal.within z m)))
      where
        go : P z → P' z ⊎ (¬ (P' z)) → P' z
        go m (inl k) = k
        go m (inr n) =
            let i = 𝓟'.invert z (𝓟.ideal.within z m) n in
            absurd (one_up_to z (i.inverse ⊗ z) m (f _ i.is) (𝓟.ideal.scale_in i.inverse z i.inverse_in m))
