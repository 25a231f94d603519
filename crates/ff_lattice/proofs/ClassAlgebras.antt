-- An algebra on vectors by what they stand for in a ring modulo an ideal: its laws are those of the ring.
use Rattle.std.proofs.Common.{◌≡◌, ℕ, List, sym, ap, ◌∙◌, subst, [], ◌∷◌, refl}
use Rattle.ring_lemmas.specs.Ring.{CommRing}
use Rattle.ring_lemmas.proofs.Solver.{ring, reads}

-- O is closed under products, and I is an ideal of it
pub record IsIdealOf {A : Type 0} (R : CommRing A) (O I : A → Type 0) : Type 0 where
  pub zero_in : I R.𝟘
  pub sum_in : (a b : A) → I a → I b → I (R.◌⊕◌ a b)
  pub neg_in : (a : A) → I a → I (R.⊖◌ a)
  pub scale_in : (a b : A) → O a → I b → I (R.◌⊗◌ a b)

module _ {A : Type 0} (R : CommRing A) (O I : A → Type 0) (h : IsIdealOf R O I) where
  infixl 65 ◌⊕◌
  infixl 70 ◌⊗◌
  infixr 80 ⊖◌
  open R use {𝟘, 𝟙, ◌⊕◌, ◌⊗◌, ⊖◌}

  -- the difference is in the ideal
  pub record IsSameModulo (x y : A) : Type 0 where
    pub difference : I (x ⊕ ⊖ y)

  pub same_of : (x y : A) → x ≡ y → IsSameModulo x y
  same_of x y e = record { difference = subst I (sym (ap (λ z. z ⊕ ⊖ y) e ∙ R.add_neg y)) h.zero_in }

  turned : (x y : A) → ⊖ (x ⊕ ⊖ y) ≡ y ⊕ ⊖ x
  turned x y = ring R (x ∷ y ∷ []) λ q g. simp (reads, q, g 0, g 1) (q.equal _ _ refl)

  pub same_sym : (x y : A) → IsSameModulo x y → IsSameModulo y x
  same_sym x y s = record { difference = subst I (turned x y) (h.neg_in (x ⊕ ⊖ y) s.difference) }

  joined : (x y z : A) → (x ⊕ ⊖ y) ⊕ (y ⊕ ⊖ z) ≡ x ⊕ ⊖ z
  joined x y z = ring R (x ∷ y ∷ z ∷ []) λ q g. simp (reads, q, g 0, g 1, g 2) (q.equal _ _ refl)

  pub same_trans : (x y z : A) → IsSameModulo x y → IsSameModulo y z → IsSameModulo x z
  same_trans x y z s t = record {
    difference = subst I (joined x y z)
        (h.sum_in (x ⊕ ⊖ y) (y ⊕ ⊖ z) s.difference t.difference);
  }

  sums : (x y u v : A) → (x ⊕ ⊖ y) ⊕ (u ⊕ ⊖ v) ≡ (x ⊕ u) ⊕ ⊖ (y ⊕ v)
  sums x y u v = ring R (x ∷ y ∷ u ∷ v ∷ []) λ q g. simp (reads, q, g 0, g 1, g 2, g 3) (q.equal _ _ refl)

  pub same_sum : (x y u v : A) → IsSameModulo x y → IsSameModulo u v → IsSameModulo (x ⊕ u) (y ⊕ v)
  same_sum x y u v s t = record {
    difference = subst I (sums x y u v)
        (h.sum_in (x ⊕ ⊖ y) (u ⊕ ⊖ v) s.difference t.difference);
  }

  scaled : (c x y : A) → c ⊗ (x ⊕ ⊖ y) ≡ c ⊗ x ⊕ ⊖ (c ⊗ y)
  scaled c x y = ring R (c ∷ x ∷ y ∷ []) λ q g. simp (reads, q, g 0, g 1, g 2) (q.equal _ _ refl)

  pub same_scaled : (c x y : A) → O c → IsSameModulo x y → IsSameModulo (c ⊗ x) (c ⊗ y)
  same_scaled c x y c_in s = record { difference = subst I (scaled c x y) (h.scale_in c (x ⊕ ⊖ y) c_in s.difference) }

  pub same_right : (c x y : A) → O c → IsSameModulo x y → IsSameModulo (x ⊗ c) (y ⊗ c)
  same_right c x y c_in s =
      subst (λ u. IsSameModulo u (y ⊗ c)) (R.mul_comm c x)
      (subst (λ u. IsSameModulo (c ⊗ x) u) (R.mul_comm c y) (same_scaled c x y c_in s))

  -- vectors, each standing for a member of O, of which no two are the same modulo I
  module _ (V : List ℕ → Type 0) (lift : List ℕ → A) (lift_in : (a : List ℕ) → V a → O (lift a))
      (one_vector : (a b : List ℕ) → V a → V b → IsSameModulo (lift a) (lift b) → a ≡ b)
      (product : List ℕ → List ℕ → List ℕ) (product_in : (a b : List ℕ) → V a → V b → V (product a b))
      (product_is : (a b : List ℕ) → V a → V b → IsSameModulo (lift (product a b)) (lift a ⊗ lift b)) where
    pub product_commutes : (a b : List ℕ) → V a → V b → product a b ≡ product b a
    product_commutes a b a_in b_in =
        one_vector (product a b) (product b a) (product_in a b a_in b_in) (product_in b a b_in a_in)
        (same_trans (lift (product a b)) (lift a ⊗ lift b) (lift (product b a)) (product_is a b a_in b_in)
        (subst (λ x. IsSameModulo x (lift (product b a))) (R.mul_comm (lift b) (lift a))
        (same_sym (lift (product b a)) (lift b ⊗ lift a) (product_is b a b_in a_in))))

    pub product_associates : (a b c : List ℕ) → V a → V b → V c → product (product a b) c ≡ product a (product b c)
    product_associates a b c a_in b_in c_in =
        let ab_in = product_in a b a_in b_in in
        let bc_in = product_in b c b_in c_in in
        let left = same_trans (lift (product (product a b) c)) (lift (product a b) ⊗ lift c)
        ((lift a ⊗ lift b) ⊗ lift c)
        (product_is (product a b) c ab_in c_in)
        (same_right (lift c) (lift (product a b)) (lift a ⊗ lift b) (lift_in c c_in) (product_is a b a_in b_in)) in
        let right = same_trans (lift (product a (product b c))) (lift a ⊗ lift (product b c))
        (lift a ⊗ (lift b ⊗ lift c))
        (product_is a (product b c) a_in bc_in)
        (same_scaled (lift a) (lift (product b c)) (lift b ⊗ lift c) (lift_in a a_in) (product_is b c b_in c_in)) in
        one_vector (product (product a b) c) (product a (product b c)) (product_in (product a b) c ab_in c_in)
        (product_in a (product b c) a_in bc_in)
        (same_trans (lift (product (product a b) c)) ((lift a ⊗ lift b) ⊗ lift c) (lift (product a (product b c))) left
        (subst (λ x. IsSameModulo x (lift (product a (product b c)))) (sym (R.mul_assoc (lift a) (lift b) (lift c)))
        (same_sym (lift (product a (product b c))) (lift a ⊗ (lift b ⊗ lift c)) right)))

    pub product_unit : (u : List ℕ) → V u → IsSameModulo (lift u) 𝟙 → (a : List ℕ) → V a → product u a ≡ a
    product_unit u u_in u_is a a_in =
        one_vector (product u a) a (product_in u a u_in a_in) a_in
        (same_trans (lift (product u a)) (lift u ⊗ lift a) (lift a) (product_is u a u_in a_in)
        (subst (IsSameModulo (lift u ⊗ lift a)) (R.mul_comm 𝟙 (lift a) ∙ R.mul_one (lift a))
        (same_right (lift a) (lift u) 𝟙 (lift_in a a_in) u_is)))

    -- a map of vectors that is one of what they stand for
    pub product_adds : (add : List ℕ → List ℕ → List ℕ) → ((a b : List ℕ) → V a → V b → V (add a b))
        → ((a b : List ℕ) → V a → V b → lift (add a b) ≡ lift a ⊕ lift b)
        → (a b c : List ℕ) → V a → V b → V c → product a (add b c) ≡ add (product a b) (product a c)
    product_adds add add_in add_is a b c a_in b_in c_in =
        let bc_in = add_in b c b_in c_in in
        let ab_in = product_in a b a_in b_in in
        let ac_in = product_in a c a_in c_in in
        one_vector (product a (add b c)) (add (product a b) (product a c)) (product_in a (add b c) a_in bc_in)
        (add_in (product a b) (product a c) ab_in ac_in)
        (same_trans (lift (product a (add b c))) (lift a ⊗ lift (add b c)) (lift (add (product a b) (product a c)))
        (product_is a (add b c) a_in bc_in)
        (subst (λ x. IsSameModulo x (lift (add (product a b) (product a c))))
        (sym (ap (λ x. lift a ⊗ x) (add_is b c b_in c_in) ∙ R.mul_add (lift a) (lift b) (lift c)))
        (subst (IsSameModulo (lift a ⊗ lift b ⊕ lift a ⊗ lift c)) (sym (add_is (product a b) (product a c) ab_in ac_in))
        (same_sym (lift (product a b) ⊕ lift (product a c)) (lift a ⊗ lift b ⊕ lift a ⊗ lift c)
        (same_sum (lift (product a b)) (lift a ⊗ lift b) (lift (product a c)) (lift a ⊗ lift c)
        (product_is a b a_in b_in) (product_is a c a_in c_in))))))

    pub product_scales : (scale : List ℕ → List ℕ) (s : A) → O s → ((a : List ℕ) → V a → V (scale a))
        → ((a : List ℕ) → V a → lift (scale a) ≡ s ⊗ lift a)
        → (a b : List ℕ) → V a → V b → product (scale a) b ≡ scale (product a b)
    product_scales scale s s_in scale_in scale_is a b a_in b_in =
        let ab_in = product_in a b a_in b_in in
        one_vector (product (scale a) b) (scale (product a b)) (product_in (scale a) b (scale_in a a_in) b_in)
        (scale_in (product a b) ab_in)
        (same_trans (lift (product (scale a) b)) (lift (scale a) ⊗ lift b) (lift (scale (product a b)))
        (product_is (scale a) b (scale_in a a_in) b_in)
        (subst (λ x. IsSameModulo x (lift (scale (product a b))))
        (sym (ap (λ x. x ⊗ lift b) (scale_is a a_in) ∙ R.mul_assoc s (lift a) (lift b)))
        (subst (IsSameModulo (s ⊗ (lift a ⊗ lift b))) (sym (scale_is (product a b) ab_in))
        (same_sym (s ⊗ lift (product a b)) (s ⊗ (lift a ⊗ lift b))
        (same_scaled s (lift (product a b)) (lift a ⊗ lift b) s_in (product_is a b a_in b_in))))))
