-- Modules between multiples of W by powers of p: they are their localisation at p, as far as W with the inverse of p
-- goes.
use Rattle.std.proofs.Common.{◌≡◌, ℕ, ◌+◌, [], ◌∷◌, refl, sym, ◌∙◌, ap, subst}
use Rattle.ring_lemmas.specs.Ring.{CommRing, pow}
use Rattle.ring_theory.specs.Subsets.{IsSubring, IsModule, Product, Colon}
use Rattle.ring_theory.specs.Local.{PrimeTo}
use Rattle.ring_lemmas.proofs.Ring.{mul_left_comm, mul_mul, pow_add}
use Rattle.ring_theory.proofs.Local.{power_in}
use Rattle.ring_theory.proofs.Subsets.{product_member}
use Rattle.ring_lemmas.proofs.Solver.{ring, reads}
use Rattle.prime_theory.proofs.Products.{product_universal}

-- p^exponent takes W into L and L into W
pub record SupportedAt {A : Type 0} (R : CommRing A) (W : A → Type 0) (p : A) (L : A → Type 0) : Type 0 where
  pub exponent : ℕ
  pub has : (z : A) → W z → L (R.ops.◌⊗◌ (pow R.ops p exponent) z)
  pub within : (z : A) → L z → W (R.ops.◌⊗◌ (pow R.ops p exponent) z)

module _ {A : Type 0} (R : CommRing A) (S : A → Type 0) (𝓢 : IsSubring R.ops S) (N : A → Type 0) (p : A)
    (𝓝 : PrimeTo R.ops S N p) where
  infixl 65 ◌⊕◌
  infixl 70 ◌⊗◌
  infixr 80 ⊖◌
  open R use {𝟘, 𝟙, ◌⊕◌, ◌⊗◌, ⊖◌}

  pw_in : (n : ℕ) → S (pow R.ops p n)
  pw_in = power_in R S 𝓢 p 𝓝.p_in

  two : (a b : ℕ) (z : A) → pow R.ops p (a + b) ⊗ z ≡ pow R.ops p a ⊗ (pow R.ops p b ⊗ z)
  two a b z = ap (λ x. x ⊗ z) (pow_add R p a b) ∙ R.mul_assoc _ _ _

  module _ (W : A → Type 0) (𝓦 : IsSubring R.ops W) (base : (s : A) → S s → W s) where
    W_additive : Rattle.prime_theory.specs.Ideals.IsAdditive R.ops W
    W_additive = record { zero_in = 𝓦.zero_in; sum_in = 𝓦.sum_in }

    -- between two modules supported at p
    pub supported_between : (L M K : A → Type 0) → IsModule R.ops S M → SupportedAt R W p L → SupportedAt R W p K
        → ((z : A) → L z → M z) → ((z : A) → M z → K z)
        → SupportedAt R W p M
    supported_between L M K 𝓜 l k f g = record {
      exponent = k.exponent + l.exponent;
      has = λ z h. subst M (sym (two _ _ z)) (𝓜.scale_in _ _ (pw_in k.exponent) (f _ (l.has z h)));
      within = λ z h.
          subst W (mul_left_comm R _ _ _ ∙ sym (two _ _ z))
          (𝓦.product_in _ _ (base _ (pw_in l.exponent)) (k.within z (g z h)));
    }

    pub supported_product : (L M : A → Type 0) → IsModule R.ops S L → SupportedAt R W p L → SupportedAt R W p M
        → SupportedAt R W p (Product R.ops L M)
    supported_product L M 𝓛 l m = record {
      exponent = l.exponent + m.exponent;
      has = λ z h.
          let one : M (pow R.ops p m.exponent) = subst M (R.mul_one _) (m.has 𝟙 𝓦.one_in) in
          subst (Product R.ops L M) (turn z) (product_member R S 𝓢 L M _ _ (l.has z h) one);
      within =
          product_universal R L M W W_additive (pow R.ops p (l.exponent + m.exponent))
          (λ a b i j.
          subst W (mul_mul R _ _ _ _ ∙ ap (λ x. x ⊗ (a ⊗ b)) (sym (pow_add R p l.exponent m.exponent)))
          (𝓦.product_in _ _ (l.within a i) (m.within b j)));
    }
      where
        turn : (z : A) → pow R.ops p l.exponent ⊗ z ⊗ pow R.ops p m.exponent ≡ pow R.ops p (l.exponent + m.exponent) ⊗ z
        turn z =
            R.mul_assoc _ _ _ ∙ ap (λ x. pow R.ops p l.exponent ⊗ x) (R.mul_comm _ _)
            ∙ sym (two l.exponent m.exponent z)

    pub supported_colon : (L M : A → Type 0) → SupportedAt R W p L → SupportedAt R W p M
        → SupportedAt R W p (Colon R.ops L M)
    supported_colon L M l m = record {
      exponent = l.exponent + m.exponent;
      has = λ z h y k.
          let e : (a b : A) → a ⊗ (z ⊗ (b ⊗ y)) ≡ a ⊗ b ⊗ z ⊗ y
          = λ a b. ring R (a ∷ b ∷ z ∷ y ∷ []) λ q i. simp (reads, q, i 0, i 1, i 2, i 3) (q.equal _ _ refl) in
          subst L (e _ _ ∙ ap (λ x. x ⊗ z ⊗ y) (sym (pow_add R p l.exponent m.exponent)))
          (l.has _ (𝓦.product_in _ _ h (m.within y k)));
      within = λ z h.
          let one : M (pow R.ops p m.exponent) = subst M (R.mul_one _) (m.has 𝟙 𝓦.one_in) in
          subst W (ap (λ x. pow R.ops p l.exponent ⊗ x) (R.mul_comm _ _) ∙ sym (two l.exponent m.exponent z))
          (l.within _ (h _ one));
    }
