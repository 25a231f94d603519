-- A map of the polynomials and a root of f, with denominators that go to units, give a map of all rows over
-- denominators.
use Rattle.std.proofs.Common.{◌≡◌, ℕ, zero, suc, refl, sym, ◌∙◌, ap, ap₂}
use mathlib.Core.HLevel.{Π_prop}
use Rattle.ring_theory.specs.Maps.{IsHom}
use Rattle.ring_lemmas.specs.Ring.{CommRing, IsDomain, pow}
use Rattle.ring_lemmas.specs.Rows.{Row, row_zero, row_add, row_scale, shift, top, times_y, row_times, row_mul}
use Rattle.ring_lemmas.proofs.Ring.{zero_add, mul_zero, mul_neg, neg_neg, add_cancel_left, product_not_zero, ring_rules, mul_rules}
use Rattle.ring_lemmas.specs.RowFractions.{RowPair, SamePair}
use Rattle.ring_theory.specs.FunctionRing.{Function, function_ring, pair_function, from_pairs, pair_add, pair_mul}
use Rattle.ring_theory.proofs.RowFractions.{each_pair, add_pairs, mul_pairs}

module _ {E : Type 0} (F : CommRing E) where
  open F use {𝟘, 𝟙, ◌⊕◌, ◌⊗◌, ⊖◌}

  infixl 65 ◌⊕◌
  infixl 70 ◌⊗◌
  infixr 80 ⊖◌
  crossed : (i i' d d' e e' : E) → d ⊗ i ≡ 𝟙 → d' ⊗ i' ≡ 𝟙 → d' ⊗ e ≡ d ⊗ e' → i ⊗ e ≡ i' ⊗ e'
  crossed i i' d d' e e' h h' k =
      sym (F.mul_one (i ⊗ e)) ∙ ap (λ t. i ⊗ e ⊗ t) (sym h') ∙ left ∙ ap (λ t. i ⊗ i' ⊗ t) k ∙ right
      ∙ ap (λ t. t ⊗ (i' ⊗ e')) h
      ∙ F.mul_comm 𝟙 (i' ⊗ e') ∙ F.mul_one (i' ⊗ e')
    where
      left : i ⊗ e ⊗ (d' ⊗ i') ≡ i ⊗ i' ⊗ (d' ⊗ e)
      left = simp mul_rules

      right : i ⊗ i' ⊗ (d ⊗ e') ≡ d ⊗ i ⊗ (i' ⊗ e')
      right = simp mul_rules

  -- what is inverse to d·d' is the product of the inverses
  inverse_unique : (d d' i i' j : E) → d ⊗ i ≡ 𝟙 → d' ⊗ i' ≡ 𝟙 → (d ⊗ d') ⊗ j ≡ 𝟙 → j ≡ i ⊗ i'
  inverse_unique d d' i i' j h h' k =
      sym (F.mul_one j) ∙ ap (λ t. j ⊗ t) (sym (ap₂ (λ s t. s ⊗ t) h h' ∙ F.mul_one 𝟙)) ∙ regroup
      ∙ ap (λ t. i ⊗ i' ⊗ t) k ∙ F.mul_one (i ⊗ i')
    where
      regroup : j ⊗ (d ⊗ i ⊗ (d' ⊗ i')) ≡ i ⊗ i' ⊗ (d ⊗ d' ⊗ j)
      regroup = simp mul_rules

  inverse_product : (d d' i i' j e e' : E) → d ⊗ i ≡ 𝟙 → d' ⊗ i' ≡ 𝟙 → (d ⊗ d') ⊗ j ≡ 𝟙
      → j ⊗ (e ⊗ e') ≡ (i ⊗ e) ⊗ (i' ⊗ e')
  inverse_product d d' i i' j e e' h h' k = ap (λ t. t ⊗ (e ⊗ e')) (inverse_unique d d' i i' j h h' k) ∙ regroup
    where
      regroup : i ⊗ i' ⊗ (e ⊗ e') ≡ (i ⊗ e) ⊗ (i' ⊗ e')
      regroup = simp mul_rules

  inverse_sum : (d d' i i' j e e' : E) → d ⊗ i ≡ 𝟙 → d' ⊗ i' ≡ 𝟙 → (d ⊗ d') ⊗ j ≡ 𝟙
      → j ⊗ (d' ⊗ e ⊕ d ⊗ e') ≡ i ⊗ e ⊕ i' ⊗ e'
  inverse_sum d d' i i' j e e' h h' k =
      ap (λ t. t ⊗ (d' ⊗ e ⊕ d ⊗ e')) (inverse_unique d d' i i' j h h' k) ∙ regroup
      ∙ ap₂ (λ s t. s ⊗ (i ⊗ e) ⊕ t ⊗ (i' ⊗ e')) h' h
      ∙ ap₂ (λ s t. s ⊕ t) (F.mul_comm 𝟙 (i ⊗ e) ∙ F.mul_one (i ⊗ e)) (F.mul_comm 𝟙 (i' ⊗ e') ∙ F.mul_one (i' ⊗ e'))
    where
      regroup : i ⊗ i' ⊗ (d' ⊗ e ⊕ d ⊗ e') ≡ d' ⊗ i' ⊗ (i ⊗ e) ⊕ d ⊗ i ⊗ (i' ⊗ e')
      regroup = simp ring_rules

module _ {P E : Type 0} (S : CommRing P) (F : CommRing E) (φ : P → E) (hom : IsHom S F φ) where
  open F use {𝟘, 𝟙, ◌⊕◌, ◌⊗◌, ⊖◌}

  infixl 65 ◌⊕◌
  infixl 70 ◌⊗◌
  infixr 80 ⊖◌
  pub hom_zero : φ S.𝟘 ≡ 𝟘
  hom_zero = add_cancel_left F (φ S.𝟘) (φ S.𝟘) 𝟘
      (sym (hom.add S.𝟘 S.𝟘) ∙ ap φ (S.add_zero S.𝟘) ∙ sym (F.add_zero (φ S.𝟘)))

  pub hom_neg : (a : P) → φ (S.⊖◌ a) ≡ ⊖ (φ a)
  hom_neg a = add_cancel_left F (φ a) (φ (S.⊖◌ a)) (⊖ (φ a))
      (sym (hom.add a (S.⊖◌ a)) ∙ ap φ (S.add_neg a) ∙ hom_zero ∙ sym (F.add_neg (φ a)))

  -- where p ⊕ e is 0, -u times e is p times u
  neg_mul_root : (u p e : E) → p ⊕ e ≡ 𝟘 → ⊖ u ⊗ e ≡ p ⊗ u
  neg_mul_root u p e h =
      ap (λ t. ⊖ u ⊗ t) (add_cancel_left F p e (⊖ p) (h ∙ sym (F.add_neg p)))
      ∙ mul_neg F (⊖ u) p ∙ ap ⊖◌ (F.mul_comm (⊖ u) p ∙ mul_neg F p u) ∙ neg_neg F (p ⊗ u)

  module _ (η : E) where
    -- the sum of φ(v_i)·η^i
    pub eval : (m : ℕ) → Row P m → E
    eval zero v = 𝟘
    eval (suc m) (a, v) = φ a ⊕ η ⊗ eval m v

    pub eval_none : (v : Row P 0) → eval 0 v ≡ 𝟘
    unfolding eval
    eval_none v = refl

    pub eval_cons : (m : ℕ) (a : P) (v : Row P m) → eval (suc m) (a, v) ≡ φ a ⊕ η ⊗ eval m v
    unfolding eval
    eval_cons m a v = refl

    pub eval_add : (m : ℕ) (v w : Row P m) → eval m (row_add S.ops m v w) ≡ eval m v ⊕ eval m w
    unfolding eval row_add
    eval_add zero v w = sym (F.add_zero 𝟘)
    eval_add (suc m) (a, v) (b, w) = ap₂ (λ s t. s ⊕ η ⊗ t) (hom.add a b) (eval_add m v w)
        ∙ regroup (φ a) (φ b) (eval m v) (eval m w)
      where
        regroup : (a b v w : E) → a ⊕ b ⊕ η ⊗ (v ⊕ w) ≡ a ⊕ η ⊗ v ⊕ (b ⊕ η ⊗ w)
        regroup a b v w = simp ring_rules

    pub eval_scale : (m : ℕ) (d : P) (v : Row P m) → eval m (row_scale S.ops m d v) ≡ φ d ⊗ eval m v
    unfolding eval row_scale
    eval_scale zero d v = sym (mul_zero F (φ d))
    eval_scale (suc m) d (a, v) = ap₂ (λ s t. s ⊕ η ⊗ t) (hom.mul d a) (eval_scale m d v)
        ∙ regroup (φ d) (φ a) (eval m v)
      where
        regroup : (d a v : E) → d ⊗ a ⊕ η ⊗ (d ⊗ v) ≡ d ⊗ (a ⊕ η ⊗ v)
        regroup d a v = simp ring_rules

    pub eval_shift : (m : ℕ) (c : P) (v : Row P m)
        → eval m (shift S.ops m c v) ⊕ pow F.ops η m ⊗ φ (top S.ops m c v) ≡ φ c ⊕ η ⊗ eval m v
    unfolding eval shift top
    eval_shift zero c v = zero_add F (𝟙 ⊗ φ c) ∙ F.mul_comm 𝟙 (φ c) ∙ F.mul_one (φ c)
        ∙ sym (ap (λ t. φ c ⊕ t) (mul_zero F η) ∙ F.add_zero (φ c))
    eval_shift (suc m) c (a, v) =
        regroup (φ c) (eval m (shift S.ops m a v)) (pow F.ops η m) (φ (top S.ops m a v))
        ∙ ap (λ t. φ c ⊕ η ⊗ t) (eval_shift m a v)
      where
        regroup : (c s p t : E) → c ⊕ η ⊗ s ⊕ η ⊗ p ⊗ t ≡ c ⊕ η ⊗ (s ⊕ p ⊗ t)
        regroup c s p t = simp ring_rules

    module _ (n : ℕ) (f : Row P (suc n)) (root : pow F.ops η (suc n) ⊕ eval (suc n) f ≡ 𝟘) where
      pub eval_times_y : (v : Row P (suc n)) → eval (suc n) (times_y S.ops (suc n) f v) ≡ η ⊗ eval (suc n) v
      unfolding times_y
      eval_times_y v =
          eval_add (suc n) (shift S.ops (suc n) S.𝟘 v) (row_scale S.ops (suc n) (S.⊖◌ (top S.ops (suc n) S.𝟘 v)) f)
          ∙ ap (λ t. eval (suc n) (shift S.ops (suc n) S.𝟘 v) ⊕ t)
          (eval_scale (suc n) (S.⊖◌ (top S.ops (suc n) S.𝟘 v)) f
          ∙ ap (λ t. t ⊗ eval (suc n) f) (hom_neg (top S.ops (suc n) S.𝟘 v))
          ∙ neg_mul_root (φ (top S.ops (suc n) S.𝟘 v)) (pow F.ops η (suc n)) (eval (suc n) f) root)
          ∙ eval_shift (suc n) S.𝟘 v
          ∙ ap (λ t. t ⊕ η ⊗ eval (suc n) v) hom_zero ∙ zero_add F (η ⊗ eval (suc n) v)

      eval_zero : (m : ℕ) → eval m (row_zero S.ops m) ≡ 𝟘
      unfolding eval row_zero
      eval_zero zero = refl
      eval_zero (suc m) = ap₂ (λ s t. s ⊕ η ⊗ t) hom_zero (eval_zero m) ∙ ap (λ t. 𝟘 ⊕ t) (mul_zero F η) ∙ F.add_zero 𝟘

      eval_times : (m : ℕ) (v : Row P m) (w : Row P (suc n))
          → eval (suc n) (row_times S.ops (suc n) m f v w) ≡ eval m v ⊗ eval (suc n) w
      unfolding row_times
      eval_times zero v w = eval_zero (suc n)
          ∙ sym (ap (λ t. t ⊗ eval (suc n) w) (eval_none v) ∙ F.mul_comm 𝟘 (eval (suc n) w)
          ∙ mul_zero F (eval (suc n) w))
      eval_times (suc m) (a, v) w =
          eval_add (suc n) (row_scale S.ops (suc n) a w) (times_y S.ops (suc n) f (row_times S.ops (suc n) m f v w))
          ∙ ap₂ (λ s t. s ⊕ t) (eval_scale (suc n) a w)
          (eval_times_y (row_times S.ops (suc n) m f v w) ∙ ap (λ t. η ⊗ t) (eval_times m v w))
          ∙ regroup (φ a) (eval m v) (eval (suc n) w)
          ∙ ap (λ t. t ⊗ eval (suc n) w) (sym (eval_cons m a v))
        where
          regroup : (a v w : E) → a ⊗ w ⊕ η ⊗ (v ⊗ w) ≡ (a ⊕ η ⊗ v) ⊗ w
          regroup a v w = simp ring_rules

      module _ (domain : IsDomain S.ops) (unit : (d : P) → ¬ (d ≡ S.𝟘) → E)
          (unit_law : (d : P) (h : ¬ (d ≡ S.𝟘)) → φ d ⊗ unit d h ≡ 𝟙) where
        -- the value of a row over a denominator
        pub pair_value : RowPair S n → E
        pair_value z = unit z.den z.den_not_zero ⊗ eval (suc n) z.num

        pub pair_value_is : (z : RowPair S n) → pair_value z ≡ unit z.den z.den_not_zero ⊗ eval (suc n) z.num
        unfolding pair_value
        pair_value_is z = refl

        pub pair_value_same : (z w : RowPair S n) → SamePair S n z w → pair_value z ≡ pair_value w
        unfolding pair_value
        pair_value_same z w h =
            crossed F (unit z.den z.den_not_zero) (unit w.den w.den_not_zero) (φ z.den) (φ w.den) (eval (suc n) z.num)
            (eval (suc n) w.num)
            (unit_law z.den z.den_not_zero) (unit_law w.den w.den_not_zero)
            (sym (eval_scale (suc n) w.den z.num) ∙ ap (eval (suc n)) h ∙ eval_scale (suc n) z.den w.num)

        -- the map of all functions
        pub map_of : Function S domain n f → E
        map_of = from_pairs S domain n f F.is_set pair_value pair_value_same

        pub pair_mul_value : (z w : RowPair S n) → pair_value (pair_mul S domain n f z w) ≡ pair_value z ⊗ pair_value w
        unfolding pair_value pair_mul row_mul
        pair_mul_value z w =
            ap (λ t. unit (S.◌⊗◌ z.den w.den) (product_not_zero domain z.den w.den z.den_not_zero w.den_not_zero) ⊗ t)
            (eval_times (suc n) z.num w.num)
            ∙ inverse_product F (φ z.den) (φ w.den) (unit z.den z.den_not_zero) (unit w.den w.den_not_zero)
            (unit (S.◌⊗◌ z.den w.den) (product_not_zero domain z.den w.den z.den_not_zero w.den_not_zero))
            (eval (suc n) z.num) (eval (suc n) w.num)
            (unit_law z.den z.den_not_zero) (unit_law w.den w.den_not_zero)
            (ap (λ t. t ⊗ unit (S.◌⊗◌ z.den w.den) (product_not_zero domain z.den w.den z.den_not_zero w.den_not_zero))
            (sym (hom.mul z.den w.den))
            ∙ unit_law (S.◌⊗◌ z.den w.den) (product_not_zero domain z.den w.den z.den_not_zero w.den_not_zero))

        pub pair_add_value : (z w : RowPair S n) → pair_value (pair_add S domain n z w) ≡ pair_value z ⊕ pair_value w
        unfolding pair_value pair_add
        pair_add_value z w =
            ap (λ t. unit (S.◌⊗◌ z.den w.den) (product_not_zero domain z.den w.den z.den_not_zero w.den_not_zero) ⊗ t)
            (eval_add (suc n) (row_scale S.ops (suc n) w.den z.num) (row_scale S.ops (suc n) z.den w.num)
            ∙ ap₂ (λ s t. s ⊕ t) (eval_scale (suc n) w.den z.num) (eval_scale (suc n) z.den w.num))
            ∙ inverse_sum F (φ z.den) (φ w.den) (unit z.den z.den_not_zero) (unit w.den w.den_not_zero)
            (unit (S.◌⊗◌ z.den w.den) (product_not_zero domain z.den w.den z.den_not_zero w.den_not_zero))
            (eval (suc n) z.num) (eval (suc n) w.num)
            (unit_law z.den z.den_not_zero) (unit_law w.den w.den_not_zero)
            (ap (λ t. t ⊗ unit (S.◌⊗◌ z.den w.den) (product_not_zero domain z.den w.den z.den_not_zero w.den_not_zero))
            (sym (hom.mul z.den w.den))
            ∙ unit_law (S.◌⊗◌ z.den w.den) (product_not_zero domain z.den w.den z.den_not_zero w.den_not_zero))

        -- it keeps sums and products
        pub map_mul : (z w : Function S domain n f)
            → map_of ((function_ring S domain n f).◌⊗◌ z w) ≡ map_of z ⊗ map_of w
        unfolding map_of
        map_mul =
            each_pair S domain n f (λ z. (w : Function S domain n f)
            → map_of ((function_ring S domain n f).◌⊗◌ z w) ≡ map_of z ⊗ map_of w)
            (λ z. Π_prop (λ w. F.is_set _ _))
            (λ z. each_pair S domain n f
            (λ w. map_of ((function_ring S domain n f).◌⊗◌ (pair_function S domain n f z) w)
            ≡ map_of (pair_function S domain n f z) ⊗ map_of w)
            (λ w. F.is_set _ _) (λ w. ap map_of (mul_pairs S domain n f z w) ∙ pair_mul_value z w))

        pub map_add : (z w : Function S domain n f)
            → map_of ((function_ring S domain n f).◌⊕◌ z w) ≡ map_of z ⊕ map_of w
        unfolding map_of
        map_add =
            each_pair S domain n f (λ z. (w : Function S domain n f)
            → map_of ((function_ring S domain n f).◌⊕◌ z w) ≡ map_of z ⊕ map_of w)
            (λ z. Π_prop (λ w. F.is_set _ _))
            (λ z. each_pair S domain n f
            (λ w. map_of ((function_ring S domain n f).◌⊕◌ (pair_function S domain n f z) w)
            ≡ map_of (pair_function S domain n f z) ⊕ map_of w)
            (λ w. F.is_set _ _) (λ w. ap map_of (add_pairs S domain n f z w) ∙ pair_add_value z w))
