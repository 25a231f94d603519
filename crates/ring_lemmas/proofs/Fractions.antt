-- Fractions are a ring up to `Same`.
use Rattle.std.proofs.Common.{◌≡◌, [], ◌∷◌, refl, sym, ap₂}
use Rattle.ring_lemmas.specs.Ring.{CommRing}
use Rattle.ring_lemmas.specs.Quotient.{RingUpTo}
use Rattle.ring_lemmas.specs.Fractions.{Denominators, Same, fraction_ops}
use Rattle.ring_lemmas.proofs.Ring.{eq_of_sub}
use Rattle.ring_lemmas.proofs.Solver.{ring, reads, from_one, from_two}

module _ {A : Type 0} (R : CommRing A) where
  infixl 65 ◌⊕◌
  infixl 70 ◌⊗◌
  infixr 80 ⊖◌
  open R use {𝟘, 𝟙, ◌⊕◌, ◌⊗◌, ⊖◌}

  -- the equations, for plain variables: numerators a b c, denominators d e f
  sums : (a d a' d' b e b' e' : A) → a ⊗ d' ≡ a' ⊗ d → b ⊗ e' ≡ b' ⊗ e
      → (a ⊗ e ⊕ b ⊗ d) ⊗ (d' ⊗ e') ≡ (a' ⊗ e' ⊕ b' ⊗ d') ⊗ (d ⊗ e)
  sums a d a' d' b e b' e' h k =
      from_two R (e ⊗ e') (d ⊗ d') h k (ring R (a ∷ d ∷ a' ∷ d' ∷ b ∷ e ∷ b' ∷ e' ∷ []) λ q x.
      simp (reads, q, x 0, x 1, x 2, x 3, x 4, x 5, x 6, x 7) (q.equal _ _ refl))

  products : (a d a' d' b e b' e' : A) → a ⊗ d' ≡ a' ⊗ d → b ⊗ e' ≡ b' ⊗ e
      → (a ⊗ b) ⊗ (d' ⊗ e') ≡ (a' ⊗ b') ⊗ (d ⊗ e)
  products a d a' d' b e b' e' h k =
      from_two R (b ⊗ e') (a' ⊗ d) h k (ring R (a ∷ d ∷ a' ∷ d' ∷ b ∷ e ∷ b' ∷ e' ∷ []) λ q x.
      simp (reads, q, x 0, x 1, x 2, x 3, x 4, x 5, x 6, x 7) (q.equal _ _ refl))

  negatives : (a d a' d' : A) → a ⊗ d' ≡ a' ⊗ d → ⊖ a ⊗ d' ≡ ⊖ a' ⊗ d
  negatives a d a' d' h =
      from_one R (⊖ 𝟙) h (ring R (a ∷ d ∷ a' ∷ d' ∷ []) λ q x. simp (reads, q, x 0, x 1, x 2, x 3) (q.equal _ _ refl))

  transitive : (a d b e c f : A) → a ⊗ e ≡ b ⊗ d → b ⊗ f ≡ c ⊗ e → e ⊗ (a ⊗ f ⊕ ⊖ (c ⊗ d)) ≡ 𝟘
  transitive a d b e c f h k =
      from_two R f d h k (ring R (a ∷ d ∷ b ∷ e ∷ c ∷ f ∷ []) λ q x.
      simp (reads, q, x 0, x 1, x 2, x 3, x 4, x 5) (q.equal _ _ refl))

  add_assoc : (a d b e c f : A)
      → ((a ⊗ e ⊕ b ⊗ d) ⊗ f ⊕ c ⊗ (d ⊗ e)) ⊗ (d ⊗ (e ⊗ f)) ≡ (a ⊗ (e ⊗ f) ⊕ (b ⊗ f ⊕ c ⊗ e) ⊗ d) ⊗ ((d ⊗ e) ⊗ f)
  add_assoc a d b e c f =
      ring R (a ∷ d ∷ b ∷ e ∷ c ∷ f ∷ []) λ q x. simp (reads, q, x 0, x 1, x 2, x 3, x 4, x 5) (q.equal _ _ refl)

  mul_add : (a d b e c f : A)
      → (a ⊗ (b ⊗ f ⊕ c ⊗ e)) ⊗ ((d ⊗ e) ⊗ (d ⊗ f)) ≡ ((a ⊗ b) ⊗ (d ⊗ f) ⊕ (a ⊗ c) ⊗ (d ⊗ e)) ⊗ (d ⊗ (e ⊗ f))
  mul_add a d b e c f =
      ring R (a ∷ d ∷ b ∷ e ∷ c ∷ f ∷ []) λ q x. simp (reads, q, x 0, x 1, x 2, x 3, x 4, x 5) (q.equal _ _ refl)

  add_comm : (a d b e : A) → (a ⊗ e ⊕ b ⊗ d) ⊗ (e ⊗ d) ≡ (b ⊗ d ⊕ a ⊗ e) ⊗ (d ⊗ e)
  add_comm a d b e = ring R (a ∷ d ∷ b ∷ e ∷ []) λ q x. simp (reads, q, x 0, x 1, x 2, x 3) (q.equal _ _ refl)

  add_zero : (a d : A) → (a ⊗ 𝟙 ⊕ 𝟘 ⊗ d) ⊗ d ≡ a ⊗ (d ⊗ 𝟙)
  add_zero a d = ring R (a ∷ d ∷ []) λ q x. simp (reads, q, x 0, x 1) (q.equal _ _ refl)

  add_neg : (a d : A) → (a ⊗ d ⊕ ⊖ a ⊗ d) ⊗ 𝟙 ≡ 𝟘 ⊗ (d ⊗ d)
  add_neg a d = ring R (a ∷ d ∷ []) λ q x. simp (reads, q, x 0, x 1) (q.equal _ _ refl)

  mul_one : (a d : A) → (a ⊗ 𝟙) ⊗ d ≡ a ⊗ (d ⊗ 𝟙)
  mul_one a d = ring R (a ∷ d ∷ []) λ q x. simp (reads, q, x 0, x 1) (q.equal _ _ refl)

  module _ (N : A → Type 0) (D : Denominators R.ops N) where
    pub fractions : RingUpTo (fraction_ops R.ops N D) (Same R.ops N)
    fractions = record {
      prop = λ p q. R.is_set _ _;
      refl = λ p. refl;
      symm = λ p q e. sym e;
      trans = λ p q s e f.
          eq_of_sub R _ _ (D.cancel q.den _ q.den_in (transitive p.num p.den q.num q.den s.num s.den e f));
      sum_same = λ p p' q q' h k. sums p.num p.den p'.num p'.den q.num q.den q'.num q'.den h k;
      product_same = λ p p' q q' h k. products p.num p.den p'.num p'.den q.num q.den q'.num q'.den h k;
      neg_same = λ p p' h. negatives p.num p.den p'.num p'.den h;
      add_assoc = λ p q s. add_assoc p.num p.den q.num q.den s.num s.den;
      add_comm = λ p q. add_comm p.num p.den q.num q.den;
      add_zero = λ p. add_zero p.num p.den;
      add_neg = λ p. add_neg p.num p.den;
      mul_assoc = λ p q s. ap₂ ◌⊗◌ (R.mul_assoc _ _ _) (sym (R.mul_assoc _ _ _));
      mul_comm = λ p q. ap₂ ◌⊗◌ (R.mul_comm _ _) (R.mul_comm _ _);
      mul_one = λ p. mul_one p.num p.den;
      mul_add = λ p q s. mul_add p.num p.den q.num q.den s.num s.den;
    }
