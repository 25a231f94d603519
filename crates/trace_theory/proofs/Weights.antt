-- Two presentations with coefficients g_j and f_j where the image of g_j is that of f_j times T^(n-j): the powers of y,
-- their traces and the discriminants differ by powers of T.
use Rattle.std.proofs.Common.{◌≡◌, ℕ, zero, suc, ◌<◌, ◌+◌, ◌-◌, ◌*◌, [], ◌∷◌, refl, sym, ◌∙◌, ap, ap₂, arith, mul-suc, suc-mul, mul-zero}
use Rattle.ring_lemmas.specs.Ring.{CommRing, pow}
use Rattle.ring_lemmas.specs.Rows.{Row, shift, top, times_y, entry, y_to}
use Rattle.ring_lemmas.specs.Sums.{sum_below}
use Rattle.ring_theory.specs.Determinant.{determinant}
use Rattle.ring_lemmas.proofs.Ring.{one_mul, zero_mul, zero_add, add_mul, mul_left_comm, pow_add, mul_mul, mul_pow, pow_one_base}
use Rattle.ring_lemmas.proofs.Sums.{below_cong, below_scale_right}
use Rattle.ring_lemmas.proofs.Solver.{ring, reads, from_two}
use Rattle.ring_theory.specs.Maps.{IsHom}
use Rattle.ring_theory.proofs.RowMaps.{hom_zero, hom_neg}
use Rattle.trace_theory.proofs.RowMatrix.{y, tr, at, at_scale, entry_add, unit_row, entry_here, entry_other, y_unit, y_product, trace_is, matrix}
use Rattle.trace_theory.proofs.Determinants.{product_below, determinant_cong, determinant_weights, image_determinant, image_sum}
use Rattle.trace_theory.proofs.RowForm.{gram, disc}

module _ {P : Type 0} (S : CommRing P) where
  shift_first : (m : ℕ) (c : P) (v : Row P (suc m)) → entry S.ops (suc m) 0 (shift S.ops (suc m) c v) ≡ c
  unfolding entry shift
  shift_first m c (a, v) = refl

  shift_later : (m j : ℕ) (c : P) (v : Row P m) → suc j < m
      → entry S.ops m (suc j) (shift S.ops m c v) ≡ entry S.ops m j v
  unfolding entry shift
  shift_later zero j c v l = absurd (omega arith)
  shift_later (suc zero) j c v l = absurd (omega arith)
  shift_later (suc (suc m)) zero c (a, (b, v)) l = refl
  shift_later (suc m) (suc j) c (a, v) l = shift_later m j a v (omega arith)

  top_last : (m : ℕ) (c : P) (v : Row P (suc m)) → top S.ops (suc m) c v ≡ entry S.ops (suc m) m v
  unfolding entry top
  top_last zero c (a, v) = refl
  top_last (suc m) c (a, v) = top_last m a v

  module _ (n : ℕ) (f : Row P (suc n)) where
    -- the entries of y·v
    times_first : (v : Row P (suc n)) → at S n f 0 (times_y S.ops (suc n) f v)
        ≡ S.◌⊕◌ S.𝟘 (S.◌⊗◌ (S.⊖◌ (at S n f n v)) (at S n f 0 f))
    unfolding times_y
    times_first v =
        entry_add S (suc n) 0 _ _
        ∙ ap₂ S.◌⊕◌ (shift_first n S.𝟘 v)
        (at_scale S n f 0 _ f ∙ ap (λ t. S.◌⊗◌ (S.⊖◌ t) (at S n f 0 f)) (top_last n S.𝟘 v))

    times_later : (j : ℕ) → suc j < suc n → (v : Row P (suc n))
        → at S n f (suc j) (times_y S.ops (suc n) f v)
        ≡ S.◌⊕◌ (at S n f j v) (S.◌⊗◌ (S.⊖◌ (at S n f n v)) (at S n f (suc j) f))
    unfolding times_y
    times_later j l v =
        entry_add S (suc n) (suc j) _ _
        ∙ ap₂ S.◌⊕◌ (shift_later (suc n) j S.𝟘 v l)
        (at_scale S n f (suc j) _ f ∙ ap (λ t. S.◌⊗◌ (S.⊖◌ t) (at S n f (suc j) f)) (top_last n S.𝟘 v))

    y_next : (m : ℕ) → y S n f (suc m) ≡ times_y S.ops (suc n) f (y S n f m)
    unfolding y_to
    y_next m = refl

    y_start : (j : ℕ) → at S n f j (y S n f 0) ≡ entry S.ops (suc n) j (unit_row S (suc n) 0)
    y_start j = ap (at S n f j) (y_unit S n f 0 (omega arith))

    unit_later : (j : ℕ) → entry S.ops (suc n) (suc j) (unit_row S (suc n) 0) ≡ S.𝟘
    unit_later j = entry_other S (suc n) (suc j) 0 (λ e. omega arith)

    -- the trace of y^m
    power_trace_is : (m : ℕ) → tr S n f (y S n f m) ≡ sum_below S.ops (suc n) (λ i. at S n f i (y S n f (m + i)))
    unfolding matrix
    power_trace_is m = trace_is S n f (y S n f m)
        ∙ below_cong S (suc n) _ _ (λ i l. ap (at S n f i) (y_product S n f m i))

-- products of powers
module _ {E : Type 0} (F : CommRing E) where
  infixl 70 ◌⊗◌
  open F use {𝟙, ◌⊗◌}

  product_scaled : (n : ℕ) (a : E) (f : ℕ → E)
      → product_below F.ops n (λ i. a ⊗ f i) ≡ pow F.ops a n ⊗ product_below F.ops n f
  product_scaled zero a f = sym (F.mul_one 𝟙)
  product_scaled (suc n) a f = ap (λ x. a ⊗ f 0 ⊗ x) (product_scaled n a (λ i. f (suc i))) ∙ mul_mul F _ _ _ _

  power_product_step : (T : E) (n : ℕ) → product_below F.ops (suc n) (pow F.ops T)
      ≡ pow F.ops T n ⊗ product_below F.ops n (pow F.ops T)
  power_product_step T n = one_mul F _ ∙ product_scaled n T (pow F.ops T)

  square_exponent : (n : ℕ) → suc n * n + (suc n + suc n) ≡ suc (suc n) * suc n
  square_exponent n = let a = mul-suc (suc (suc n)) n in let b = suc-mul (suc n) n in omega arith

  power_products : (T : E) (n : ℕ) → product_below F.ops (suc n) (pow F.ops T) ⊗ product_below F.ops (suc n)
      (pow F.ops T) ≡ pow F.ops T (suc n * n)
  power_products T zero =
      ap₂ ◌⊗◌ (F.mul_one 𝟙) (F.mul_one 𝟙) ∙ F.mul_one 𝟙 ∙ sym (ap (pow F.ops T) (mul-zero 1))
  power_products T (suc n) =
      ap₂ ◌⊗◌ (power_product_step T (suc n)) (power_product_step T (suc n)) ∙ mul_mul F _ _ _ _
      ∙ ap₂ ◌⊗◌ (sym (pow_add F T (suc n) (suc n))) (power_products T n) ∙ F.mul_comm _ _
      ∙ sym (pow_add F T (suc n * n) (suc n + suc n))
      ∙ ap (pow F.ops T) (square_exponent n)

module _ {P E : Type 0} (S : CommRing P) (F : CommRing E) (φ ψ : P → E) (homφ : IsHom S F φ) (homψ : IsHom S F ψ)
    (T U : E) (unit : F.◌⊗◌ T U ≡ F.𝟙)
    (n : ℕ) (f g : Row P (suc n))
    (coefficients : (j : ℕ) → j < suc n → φ (at S n g j g) ≡ F.◌⊗◌ (ψ (at S n f j f)) (pow F.ops T (suc n - j))) where
  infixl 65 ◌⊕◌
  infixl 70 ◌⊗◌
  infixr 80 ⊖◌
  open F use {𝟘, 𝟙, ◌⊕◌, ◌⊗◌, ⊖◌}

  -- what is subtracted from the entry j of y·v
  subtracted : (m j : ℕ) → j < suc n
      → φ (at S n g n (y S n g m)) ⊗ pow F.ops T n ≡ ψ (at S n f n (y S n f m)) ⊗ pow F.ops T m
      → φ (S.◌⊗◌ (S.⊖◌ (at S n g n (y S n g m))) (at S n g j g)) ⊗ pow F.ops T j
      ≡ ψ (S.◌⊗◌ (S.⊖◌ (at S n f n (y S n f m))) (at S n f j f)) ⊗ pow F.ops T (suc m)
  subtracted m j l h =
      ap (λ x. x ⊗ pow F.ops T j) (homφ.mul _ _ ∙ ap₂ ◌⊗◌ (hom_neg S F φ homφ _) (coefficients j l))
      ∙ step (φ (at S n g n (y S n g m))) (ψ (at S n f j f)) (pow F.ops T (suc n - j)) (pow F.ops T j) (pow F.ops T n)
      (ψ (at S n f n (y S n f m))) (pow F.ops T m)
      (sym (pow_add F T (suc n - j) j) ∙ ap (pow F.ops T) (let q : suc n - j + j ≡ suc n = omega arith in q)) h
      ∙ sym (ap (λ x. x ⊗ pow F.ops T (suc m)) (homψ.mul _ _ ∙ ap (λ x. x ⊗ ψ (at S n f j f)) (hom_neg S F ψ homψ _)))
    where
      step : (a b w r s a' z : E) → w ⊗ r ≡ T ⊗ s → a ⊗ s ≡ a' ⊗ z → ⊖ a ⊗ (b ⊗ w) ⊗ r ≡ ⊖ a' ⊗ b ⊗ (T ⊗ z)
      step a b w r s a' z e e' =
          from_two F (⊖ (a ⊗ b)) (⊖ (b ⊗ T)) e e'
          (ring F (a ∷ b ∷ w ∷ r ∷ s ∷ a' ∷ z ∷ T ∷ []) λ q x. simp (reads, q, x 0, x 1, x 2, x 3, x 4, x 5, x 6, x 7)
          (q.equal _ _ refl))

  entry_weights : (m j : ℕ) → j < suc n
      → φ (at S n g j (y S n g m)) ⊗ pow F.ops T j ≡ ψ (at S n f j (y S n f m)) ⊗ pow F.ops T m
  entry_weights zero zero l =
      ap (λ x. φ x ⊗ 𝟙) (y_start S n g 0 ∙ entry_here S (suc n) 0 l) ∙ ap (λ x. x ⊗ 𝟙) (homφ.𝟙 ∙ sym homψ.𝟙)
      ∙ ap (λ x. ψ x ⊗ 𝟙) (sym (y_start S n f 0 ∙ entry_here S (suc n) 0 l))
  entry_weights zero (suc j) l =
      ap (λ x. φ x ⊗ pow F.ops T (suc j)) (y_start S n g (suc j) ∙ unit_later S n g j)
      ∙ ap (λ x. x ⊗ pow F.ops T (suc j)) (hom_zero S F φ homφ) ∙ zero_mul F _
      ∙ sym (ap (λ x. ψ x ⊗ 𝟙) (y_start S n f (suc j) ∙ unit_later S n f j) ∙ ap (λ x. x ⊗ 𝟙) (hom_zero S F ψ homψ)
      ∙ zero_mul F 𝟙)
  entry_weights (suc m) zero l =
      ap (λ v. φ (at S n g 0 v) ⊗ 𝟙) (y_next S n g m) ∙ ap (λ x. φ x ⊗ 𝟙) (times_first S n g (y S n g m) ∙ zero_add S _)
      ∙ subtracted m 0 l (entry_weights m n (omega arith))
      ∙ sym (ap (λ v. ψ (at S n f 0 v) ⊗ pow F.ops T (suc m)) (y_next S n f m)
      ∙ ap (λ x. ψ x ⊗ pow F.ops T (suc m)) (times_first S n f (y S n f m) ∙ zero_add S _))
  entry_weights (suc m) (suc j) l =
      ap (λ v. φ (at S n g (suc j) v) ⊗ pow F.ops T (suc j)) (y_next S n g m)
      ∙ ap (λ x. x ⊗ pow F.ops T (suc j)) (ap φ (times_later S n g j l (y S n g m)) ∙ homφ.add _ _)
      ∙ add_mul F _ _ _
      ∙ ap₂ ◌⊕◌ (turn (entry_weights m j (omega arith))) (subtracted m (suc j) l (entry_weights m n (omega arith)))
      ∙ sym (add_mul F _ _ _)
      ∙ sym (ap (λ v. ψ (at S n f (suc j) v) ⊗ pow F.ops T (suc m)) (y_next S n f m)
      ∙ ap (λ x. x ⊗ pow F.ops T (suc m)) (ap ψ (times_later S n f j l (y S n f m)) ∙ homψ.add _ _))
    where
      turn : {a r b s : E} → a ⊗ r ≡ b ⊗ s → a ⊗ (T ⊗ r) ≡ b ⊗ (T ⊗ s)
      turn {a} {r} {b} {s} e = mul_left_comm F a T r ∙ ap (λ x. T ⊗ x) e ∙ mul_left_comm F T b s

  pub trace_weights : (m : ℕ) → φ (tr S n g (y S n g m)) ≡ ψ (tr S n f (y S n f m)) ⊗ pow F.ops T m
  trace_weights m =
      ap φ (power_trace_is S n g m) ∙ image_sum S F φ homφ (suc n) _
      ∙ below_cong F (suc n) _ (λ i. ψ (at S n f i (y S n f (m + i))) ⊗ pow F.ops T m) (λ i l.
      cancel (pow F.ops T i) (pow F.ops U i) (φ (at S n g i (y S n g (m + i)))) (ψ (at S n f i (y S n f (m + i))))
      (pow F.ops T m)
      (sym (mul_pow F T U i) ∙ ap (λ x. pow F.ops x i) unit ∙ pow_one_base F i)
      (entry_weights (m + i) i l ∙ ap (λ x. ψ (at S n f i (y S n f (m + i))) ⊗ x) (pow_add F T m i)))
      ∙ below_scale_right F (suc n) (pow F.ops T m) _
      ∙ ap (λ x. x ⊗ pow F.ops T m) (sym (ap ψ (power_trace_is S n f m) ∙ image_sum S F ψ homψ (suc n) _))
    where
      cancel : (t u a b s : E) → t ⊗ u ≡ 𝟙 → a ⊗ t ≡ b ⊗ (s ⊗ t) → a ≡ b ⊗ s
      cancel t u a b s e e' =
          from_two F (b ⊗ s ⊕ ⊖ a) u e e'
          (ring F (t ∷ u ∷ a ∷ b ∷ s ∷ []) λ q x. simp (reads, q, x 0, x 1, x 2, x 3, x 4) (q.equal _ _ refl))

  pub discriminant_weights : φ (disc S n g) ≡ ψ (disc S n f) ⊗ pow F.ops T (suc n * n)
  discriminant_weights =
      image_determinant S F φ homφ (suc n) (gram S n g)
      ∙ determinant_cong F (suc n) _ (λ i j. pow F.ops T i ⊗ ψ (gram S n f i j) ⊗ pow F.ops T j) (λ i j k l.
      trace_weights (i + j) ∙ ap (λ x. ψ (gram S n f i j) ⊗ x) (pow_add F T i j)
      ∙ turn (ψ (gram S n f i j)) (pow F.ops T i) (pow F.ops T j))
      ∙ determinant_weights F (suc n) (pow F.ops T) (pow F.ops T) (λ i j. ψ (gram S n f i j))
      ∙ collect (product_below F.ops (suc n) (pow F.ops T)) (determinant F.ops (suc n) (λ i j. ψ (gram S n f i j)))
      ∙ ap₂ ◌⊗◌ (sym (image_determinant S F ψ homψ (suc n) (gram S n f))) (power_products F T n)
    where
      turn : (a r s : E) → a ⊗ (r ⊗ s) ≡ r ⊗ a ⊗ s
      turn a r s = ring F (a ∷ r ∷ s ∷ []) λ q x. simp (reads, q, x 0, x 1, x 2) (q.equal _ _ refl)

      collect : (w d : E) → w ⊗ d ⊗ w ≡ d ⊗ (w ⊗ w)
      collect w d = ring F (w ∷ d ∷ []) λ q x. simp (reads, q, x 0, x 1) (q.equal _ _ refl)
