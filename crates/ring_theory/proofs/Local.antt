-- Members of a module locally at an element.
use Rattle.std.proofs.Common.{ℕ, zero, suc, [], ◌∷◌, refl, subst}
use Rattle.ring_lemmas.specs.Ring.{CommRing, pow}
use Rattle.ring_theory.specs.Subsets.{IsSubring, IsModule, Product}
use Rattle.ring_theory.specs.Local.{Comaximal, PrimeTo, Locally}
use Rattle.ring_theory.proofs.Subsets.{product_member}
use Rattle.ring_lemmas.proofs.Ring.{one_mul, mul_left_comm, mul_mul}
use Rattle.ring_lemmas.proofs.Solver.{ring, reads, from_one, from_two}

module _ {A : Type 0} (R : CommRing A) (S : A → Type 0) (𝓢 : IsSubring R.ops S) where
  infixl 65 ◌⊕◌
  infixl 70 ◌⊗◌
  infixr 80 ⊖◌
  open R use {𝟘, 𝟙, ◌⊕◌, ◌⊗◌, ⊖◌}

  -- if w is prime to p and to r, it is prime to p·r
  pub comaximal_product : (w p r : A) → S w → S p → S r → Comaximal R.ops S w r → Comaximal R.ops S w p
      → Comaximal R.ops S w (p ⊗ r)
  comaximal_product w p r w_in p_in r_in a b = record {
    left = a.left ⊗ b.left ⊗ w ⊕ a.left ⊗ b.right ⊗ p ⊕ a.right ⊗ b.left ⊗ r;
    left_in = search (𝓢.sum_in, 𝓢.product_in, a.left_in, a.right_in, b.left_in, b.right_in);
    right = a.right ⊗ b.right;
    right_in = search (𝓢.product_in, a.right_in, b.right_in);
    is =
        from_two R (b.left ⊗ w ⊕ b.right ⊗ p) 𝟙 a.is b.is
        (ring R (w ∷ p ∷ r ∷ a.left ∷ a.right ∷ b.left ∷ b.right ∷ []) λ q h.
        simp (reads, q, h 0, h 1, h 2, h 3, h 4, h 5, h 6) (q.equal _ _ refl));
  }

  pub power_in : (p : A) → S p → (n : ℕ) → S (pow R.ops p n)
  power_in p h zero = 𝓢.one_in
  power_in p h (suc n) = 𝓢.product_in _ _ h (power_in p h n)

  pub comaximal_power : (w p : A) → S w → S p → Comaximal R.ops S w p → (n : ℕ) → Comaximal R.ops S w (pow R.ops p n)
  comaximal_power w p w_in p_in c zero = record {
    left = 𝟘;
    left_in = 𝓢.zero_in;
    right = 𝟙;
    right_in = 𝓢.one_in;
    is = ring R (w ∷ []) λ q h. simp (reads, q, h 0) (q.equal _ _ refl);
  }
  comaximal_power w p w_in p_in c (suc n) =
      comaximal_product w p (pow R.ops p n) w_in p_in (power_in p p_in n) (comaximal_power w p w_in p_in c n) c

  -- an element whose multiples by two comaximal elements are in a module is in it
  pub by_comaximal : (L : A → Type 0) → IsModule R.ops S L → (w r z : A) → Comaximal R.ops S w r
      → L (w ⊗ z) → L (r ⊗ z) → L z
  by_comaximal L 𝓛 w r z c h k =
      subst L
      (from_one R z c.is (ring R (w ∷ r ∷ z ∷ c.left ∷ c.right ∷ []) λ q x.
      simp (reads, q, x 0, x 1, x 2, x 3, x 4) (q.equal _ _ refl)))
      (𝓛.sum_in _ _ (𝓛.scale_in c.left _ c.left_in h) (𝓛.scale_in c.right _ c.right_in k))

  module _ (N : A → Type 0) (p : A) (𝓝 : PrimeTo R.ops S N p) where
    pub two_denominators : (L : A → Type 0) → IsModule R.ops S L → (w z : A) (n : ℕ) → N w
        → L (w ⊗ z) → L (pow R.ops p n ⊗ z) → L z
    two_denominators L 𝓛 w z n m =
        by_comaximal L 𝓛 w (pow R.ops p n) z
        (comaximal_power w p (𝓝.within w m) 𝓝.p_in (𝓝.comaximal w m) n)

    pub locally_of : (L : A → Type 0) (z : A) → L z → Locally R.ops N L z
    locally_of L z h = record {
      factor = 𝟙;
      factor_in = 𝓝.one_in;
      multiple_in = rw (one_mul R) h;
    }

    pub locally_module : (L : A → Type 0) → IsModule R.ops S L → IsModule R.ops S (Locally R.ops N L)
    locally_module L 𝓛 = record {
      zero_in = locally_of L 𝟘 𝓛.zero_in;
      sum_in = λ a b h k. record {
        factor = h.factor ⊗ k.factor;
        factor_in = 𝓝.product_in _ _ h.factor_in k.factor_in;
        multiple_in =
            subst L
            (ring R (a ∷ b ∷ h.factor ∷ k.factor ∷ []) λ q x. simp (reads, q, x 0, x 1, x 2, x 3) (q.equal _ _ refl))
            (𝓛.sum_in _ _
            (𝓛.scale_in k.factor _ (𝓝.within _ k.factor_in) h.multiple_in)
            (𝓛.scale_in h.factor _ (𝓝.within _ h.factor_in) k.multiple_in));
      };
      scale_in = λ s a m h. record {
        factor = h.factor;
        factor_in = h.factor_in;
        multiple_in = subst L (mul_left_comm R _ _ _) (𝓛.scale_in s _ m h.multiple_in);
      };
    }

    -- products of what is locally in L and in M are locally in the product of L and M
    pub locally_product : (L M : A → Type 0) (a b : A) → Locally R.ops N L a → Locally R.ops N M b
        → Locally R.ops N (Product R.ops L M) (a ⊗ b)
    locally_product L M a b h k = record {
      factor = h.factor ⊗ k.factor;
      factor_in = 𝓝.product_in _ _ h.factor_in k.factor_in;
      multiple_in =
          subst (Product R.ops L M) (mul_mul R _ _ _ _)
          (product_member R S 𝓢 L M _ _ h.multiple_in k.multiple_in);
    }
