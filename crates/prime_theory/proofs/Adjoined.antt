-- The ring O[z] of an element z that is integral over O, as the values at z of the polynomials of degree below that of
-- its equation.
use Rattle.std.proofs.Common.{◌≡◌, ℕ, zero, suc, ◌+◌, [], ◌∷◌, refl, sym, ◌∙◌, ap, subst, arith, zero-add, suc-add}
use Rattle.ring_lemmas.specs.Ring.{CommRing, pow}
use Rattle.ring_lemmas.specs.Sums.{sum_below}
use Rattle.ring_theory.specs.Subsets.{IsSubring}
use Rattle.ring_theory.specs.Integral.{IsIntegral}
use Rattle.ring_theory.proofs.Integral.{Low, low_sum, low_scale, low_neg, low_constant, low_shift, low_power, low_up, low_more, low_product}
use Rattle.ring_lemmas.proofs.Solver.{ring, reads, from_one}

module _ {A : Type 0} (R : CommRing A) (O : A → Type 0) (𝓞 : IsSubring R.ops O) where
  infixl 65 ◌⊕◌
  infixl 70 ◌⊗◌
  infixr 80 ⊖◌
  open R use {𝟘, 𝟙, ◌⊕◌, ◌⊗◌, ⊖◌}

  module _ (z : A) where
    abbrev L : ℕ → A → Type 0
    L n = Low R.ops O z n

    -- the sum of c_i·z^i for i below n
    pub low_of_sum : (n : ℕ) (c : ℕ → A) → ((i : ℕ) → O (c i)) → L n (sum_below R.ops n (λ i. c i ⊗ pow R.ops z i))
    low_of_sum zero c h = refl
    low_of_sum (suc n) c h =
        let e : n + 1 ≡ suc n = omega arith in
        low_sum R O 𝓞 z (suc n) _ _ (low_up R O 𝓞 z n _ (low_of_sum n c h))
        (subst (L (suc n)) (R.mul_comm _ _) (subst (λ k. L k (pow R.ops z n ⊗ c n)) e
        (low_power R O 𝓞 z n 1 (c n) (low_constant R O 𝓞 z (c n) (h n)))))

    -- the top coefficient
    pub record Top (n : ℕ) (a : A) : Type 0 where
      pub rest : A
      pub rest_in : L n rest
      pub top : A
      pub top_in : O top
      pub is : a ≡ rest ⊕ top ⊗ pow R.ops z n

    pub top_of : (n : ℕ) (a : A) → L (suc n) a → Top n a
    top_of zero a h = record {
      rest = 𝟘;
      rest_in = refl;
      top = h.constant;
      top_in = h.constant_in;
      is =
          let f : (c r : A) → r ≡ 𝟘 → c ⊕ z ⊗ r ≡ 𝟘 ⊕ c ⊗ 𝟙
          = λ c r e. from_one R z e
          (ring R (c ∷ r ∷ z ∷ []) λ q i. simp (reads, q, i 0, i 1, i 2) (q.equal _ _ refl)) in
          h.is ∙ f h.constant h.rest h.rest_in;
    }
    top_of (suc n) a h =
        let r = top_of n h.rest h.rest_in in
        let f : (c x t w : A) → c ⊕ z ⊗ (x ⊕ t ⊗ w) ≡ (c ⊕ z ⊗ x) ⊕ t ⊗ (z ⊗ w)
        = λ c x t w. ring R (c ∷ x ∷ t ∷ w ∷ z ∷ []) λ q i. simp (reads, q, i 0, i 1, i 2, i 3, i 4)
        (q.equal _ _ refl) in
        record {
          rest = h.constant ⊕ z ⊗ r.rest;
          rest_in =
              record {
                constant = h.constant;
                constant_in = h.constant_in;
                rest = r.rest;
                rest_in = r.rest_in;
                is = refl;
              };
          top = r.top;
          top_in = r.top_in;
          is = h.is ∙ ap (λ x. h.constant ⊕ z ⊗ x) r.is ∙ f h.constant r.rest r.top (pow R.ops z n);
        }

    module _ (m : ℕ) (root : L m (pow R.ops z m)) where
      pub low_down : (a : A) → L (suc m) a → L m a
      low_down a h =
          let t = top_of m a h in
          subst (L m) (sym t.is) (low_sum R O 𝓞 z m _ _ t.rest_in (low_scale R O 𝓞 z m _ _ t.top_in root))

      pub low_down_by : (k : ℕ) (a : A) → L (k + m) a → L m a
      low_down_by zero a h = subst (λ n. L n a) (zero-add m) h
      low_down_by (suc k) a h =
          let h' : L (suc (k + m)) a = subst (λ n. L n a) (suc-add k m) h in
          low_down a (record {
            constant = h'.constant;
            constant_in = h'.constant_in;
            rest = h'.rest;
            rest_in = low_down_by k h'.rest h'.rest_in;
            is = h'.is;
          })

      pub low_times : (a b : A) → L m a → L m b → L m (a ⊗ b)
      low_times a b h k = low_down_by m (a ⊗ b) (low_product R O 𝓞 z m m a b h k)

      pub low_by_root : (a : A) → L m a → L m (z ⊗ a)
      low_by_root a h = low_down (z ⊗ a) (low_shift R O 𝓞 z m a h)

    pub low_has : (n : ℕ) (c : A) → O c → L (suc n) c
    low_has n c h =
        let e : n + 1 ≡ suc n = omega arith in
        subst (λ i. L i c) e (low_more R O 𝓞 z n 1 c (low_constant R O 𝓞 z c h))

    -- z^m is a value of lower degree, m the degree of an equation of z
    pub power_low : (h : IsIntegral R.ops O z) → L h.degree (pow R.ops z h.degree)
    power_low h =
        let f : (x y : A) → x ⊕ y ≡ 𝟘 → ⊖ y ≡ x
        = λ x y e. from_one R (⊖ 𝟙) e (ring R (x ∷ y ∷ []) λ q i. simp (reads, q, i 0, i 1) (q.equal _ _ refl)) in
        subst (L h.degree) (f _ _ h.root)
        (low_neg R O 𝓞 z h.degree _ (low_of_sum h.degree h.coefficient h.coefficient_in))
