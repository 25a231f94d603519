-- Localisation at one element p of a subring: one common denominator, and lifting of units modulo p.
use Rattle.std.proofs.Common.{ℕ, zero, suc, List, [], ◌∷◌, refl, sym, ◌∙◌, ap, subst, All}
use Rattle.std.proofs.lemmas.List.Elements.{All-nil, All-cons, All-head, All-tail, All-weaker}
use Rattle.ring_lemmas.specs.Ring.{CommRing, pow}
use Rattle.ring_theory.specs.Subsets.{IsSubring, IsModule}
use Rattle.ring_theory.specs.Local.{PrimeTo, Locally}
use Rattle.ring_lemmas.proofs.Ring.{one_mul}
use Rattle.ring_lemmas.proofs.Solver.{ring, reads, from_one}
use Rattle.prime_theory.specs.Ideals.{IsIdeal, OneModulo, IsMultiplicative}

module _ {A : Type 0} (R : CommRing A) (S : A → Type 0) (𝓢 : IsSubring R.ops S) where
  infixl 65 ◌⊕◌
  infixl 70 ◌⊗◌
  infixr 80 ⊖◌
  open R use {𝟘, 𝟙, ◌⊕◌, ◌⊗◌, ⊖◌}

  -- a subring is one with denominators from U
  pub locally_ring : (U : A → Type 0) → IsMultiplicative R.ops S U → (L : A → Type 0) → IsModule R.ops S L
      → IsSubring R.ops L → IsSubring R.ops (Locally R.ops U L)
  locally_ring U 𝓤 L 𝓛 𝓞 = record {
    zero_in = plain 𝟘 𝓞.zero_in;
    one_in = plain 𝟙 𝓞.one_in;
    sum_in = λ a b h k. record {
      factor = h.factor ⊗ k.factor;
      factor_in = 𝓤.product_in _ _ h.factor_in k.factor_in;
      multiple_in =
          subst L
          (ring R (a ∷ b ∷ h.factor ∷ k.factor ∷ []) λ q x. simp (reads, q, x 0, x 1, x 2, x 3) (q.equal _ _ refl))
          (𝓞.sum_in _ _
          (𝓛.scale_in k.factor _ (𝓤.within _ k.factor_in) h.multiple_in)
          (𝓛.scale_in h.factor _ (𝓤.within _ h.factor_in) k.multiple_in));
    };
    neg_in = λ a h. record {
      factor = h.factor;
      factor_in = h.factor_in;
      multiple_in =
          subst L (ring R (a ∷ h.factor ∷ []) λ q x. simp (reads, q, x 0, x 1) (q.equal _ _ refl))
          (𝓞.neg_in _ h.multiple_in);
    };
    product_in = λ a b h k. record {
      factor = h.factor ⊗ k.factor;
      factor_in = 𝓤.product_in _ _ h.factor_in k.factor_in;
      multiple_in =
          subst L
          (ring R (a ∷ b ∷ h.factor ∷ k.factor ∷ []) λ q x. simp (reads, q, x 0, x 1, x 2, x 3) (q.equal _ _ refl))
          (𝓞.product_in _ _ h.multiple_in k.multiple_in);
    };
  }
    where
      plain : (z : A) → L z → Locally R.ops U L z
      plain z m = record { factor = 𝟙; factor_in = 𝓤.one_in; multiple_in = subst L (sym (one_mul R z)) m }

  module _ (N : A → Type 0) (p : A) (𝓝 : PrimeTo R.ops S N p) where
    -- one factor for a whole list
    pub record Common (L : A → Type 0) (zs : List A) : Type 0 where
      pub factor : A
      pub factor_in : N factor
      pub multiples_in : All (λ z. L (factor ⊗ z)) zs

    pub common : (L : A → Type 0) → IsModule R.ops S L → (zs : List A) → All (Locally R.ops N L) zs → Common L zs
    common L 𝓛 [] h = record { factor = 𝟙; factor_in = 𝓝.one_in; multiples_in = All-nil (λ z. L (𝟙 ⊗ z)) }
    common L 𝓛 (z ∷ zs) h =
        let first = All-head (Locally R.ops N L) z zs h in
        let others = common L 𝓛 zs (All-tail (Locally R.ops N L) z zs h) in
        let w = first.factor ⊗ others.factor in
        record {
          factor = w;
          factor_in = 𝓝.product_in _ _ first.factor_in others.factor_in;
          multiples_in =
              All-cons (λ y. L (w ⊗ y)) z zs
              (subst L
              (ring R (z ∷ first.factor ∷ others.factor ∷ []) λ q x. simp (reads, q, x 0, x 1, x 2) (q.equal _ _ refl))
              (𝓛.scale_in others.factor _ (𝓝.within _ others.factor_in) first.multiple_in))
              (All-weaker (λ y. L (others.factor ⊗ y)) (λ y. L (w ⊗ y))
              (λ y m. subst L (sym (R.mul_assoc _ _ _)) (𝓛.scale_in first.factor _ (𝓝.within _ first.factor_in) m))
              zs others.multiples_in);
        }

-- lifting: w is in an ideal C of O that has p^n·w and a member that is 1 modulo p
module _ {A : Type 0} (R : CommRing A) (O : A → Type 0) (𝓞 : IsSubring R.ops O) (p : A) (p_in : O p) where
  infixl 65 ◌⊕◌
  infixl 70 ◌⊗◌
  infixr 80 ⊖◌
  open R use {𝟘, 𝟙, ◌⊕◌, ◌⊗◌, ⊖◌}

  pub lift : (C : A → Type 0) → IsIdeal R.ops O C → (c : A) → C c → OneModulo R.ops p O c
      → (n : ℕ) (w : A) → O w → C (pow R.ops p n ⊗ w) → C w
  lift C 𝓒 c c_in h zero w w_in m = subst C (one_mul R w) m
  lift C 𝓒 c c_in h (suc n) w w_in m =
      let step : C (p ⊗ w)
      = lift C 𝓒 c c_in h n (p ⊗ w) (𝓞.product_in _ _ p_in w_in)
      (subst C (ap (λ x. x ⊗ w) (R.mul_comm _ _) ∙ R.mul_assoc _ _ _) m) in
      subst C
      (from_one R (⊖ w) h.is
      (ring R (w ∷ c ∷ p ∷ h.quotient ∷ []) λ q x. simp (reads, q, x 0, x 1, x 2, x 3) (q.equal _ _ refl)))
      (𝓒.sum_in _ _ (𝓒.scale_in w c w_in c_in) (𝓒.scale_in h.quotient _ h.quotient_in step))
