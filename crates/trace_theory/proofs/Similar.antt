-- Similar matrices have one trace.
use Rattle.std.proofs.Common.{◌≡◌, ℕ, zero, suc, ◌<◌, [], ◌∷◌, refl, sym, ◌∙◌, ap, ap₂}
use Rattle.ring_lemmas.specs.Ring.{CommRing}
use Rattle.ring_lemmas.specs.Sums.{sum_below, matrix_product, trace}
use Rattle.ring_theory.specs.Determinant.{determinant, with_row}
use Rattle.ring_lemmas.proofs.Ring.{zero_mul, mul_zero, add_mul, one_mul, eq_of_sub, neg_mul}
use Rattle.ring_lemmas.proofs.Sums.{below_cong, below_single, below_add, below_neg, matrix_assoc, trace_swap}
use Rattle.ring_lemmas.proofs.Solver.{ring, reads, from_two}
use Rattle.ring_theory.proofs.Determinant.{determinant_product}
use Rattle.ring_theory.proofs.Cramer.{cramer}
use Rattle.trace_theory.proofs.Determinants.{diagonal, product_below, diagonal_determinant, diagonal_here, diagonal_other, determinant_cong, zero_row}
use Rattle.trace_theory.proofs.RowForm.{with_row_cong}

module _ {A : Type 0} (R : CommRing A) (n : ℕ) where
  infixl 65 ◌⊕◌
  infixl 70 ◌⊗◌
  infixr 80 ⊖◌
  open R use {𝟘, 𝟙, ◌⊕◌, ◌⊗◌, ⊖◌}

  abbrev δ : ℕ → ℕ → A
  δ = diagonal R.ops (λ i. 𝟙)

  -- equal entries
  abbrev SameEntries : (ℕ → ℕ → A) → (ℕ → ℕ → A) → Type 0
  SameEntries p q = (i j : ℕ) → i < n → j < n → p i j ≡ q i j

  abbrev mul : (ℕ → ℕ → A) → (ℕ → ℕ → A) → ℕ → ℕ → A
  mul p q = matrix_product R.ops n p q

  mul_unit : (p : ℕ → ℕ → A) (i j : ℕ) → j < n → mul p δ i j ≡ p i j
  mul_unit p i j l =
      below_single R n j (λ k. p i k ⊗ δ k j) l
      (λ k q ne. ap (λ x. p i k ⊗ x) (diagonal_other R (λ i. 𝟙) k j (λ e. ne (sym e))) ∙ mul_zero R _)
      ∙ ap (λ x. p i j ⊗ x) (diagonal_here R (λ i. 𝟙) j) ∙ R.mul_one _

  unit_mul : (p : ℕ → ℕ → A) (i j : ℕ) → i < n → mul δ p i j ≡ p i j
  unit_mul p i j l =
      below_single R n i (λ k. δ i k ⊗ p k j) l
      (λ k q ne. ap (λ x. x ⊗ p k j) (diagonal_other R (λ i. 𝟙) i k ne) ∙ zero_mul R _)
      ∙ ap (λ x. x ⊗ p i j) (diagonal_here R (λ i. 𝟙) i) ∙ one_mul R _

  mul_left : (p q r : ℕ → ℕ → A) → SameEntries p q → SameEntries (mul p r) (mul q r)
  mul_left p q r h i j k l = below_cong R n _ _ (λ m b. ap (λ x. x ⊗ r m j) (h i m k b))

  mul_right : (p q r : ℕ → ℕ → A) → SameEntries q r → SameEntries (mul p q) (mul p r)
  mul_right p q r h i j k l = below_cong R n _ _ (λ m b. ap (λ x. p i m ⊗ x) (h m j b l))

  ones : (m : ℕ) → product_below R.ops m (λ i. 𝟙) ≡ 𝟙
  ones zero = refl
  ones (suc m) = one_mul R _ ∙ ones m

  module _ (b b' : ℕ → ℕ → A) (left : SameEntries (mul b' b) δ) where
    inverse_determinant : determinant R.ops n b' ⊗ determinant R.ops n b ≡ 𝟙
    inverse_determinant =
        sym (determinant_product R n b' b) ∙ determinant_cong R n (mul b' b) δ left ∙ diagonal_determinant R n (λ i. 𝟙)
        ∙ ones n

    -- a left inverse is a right one
    right : SameEntries (mul b b') δ
    right i j k l =
        eq_of_sub R _ _ (cancel (determinant R.ops n b') (determinant R.ops n b) (row j) inverse_determinant
        times_determinant)
      where
        row : ℕ → A
        row j = mul b b' i j ⊕ ⊖ δ i j

        null : (c : ℕ) → c < n → sum_below R.ops n
            (λ m. (matrix_product R.ops n b b' i m ⊕ ⊖ diagonal R.ops (λ i. 𝟙) i m) ⊗ b m c) ≡ 𝟘
        null c q =
            below_cong R n _ _ (λ m r. add_mul R _ _ _
            ∙ ap (λ x. matrix_product R.ops n b b' i m ⊗ b m c ⊕ x) (neg_mul R _ _))
            ∙ below_add R n _ _
            ∙ ap₂ ◌⊕◌
            (matrix_assoc R n n b b' b i c ∙ mul_right b (mul b' b) δ left i c k q ∙ mul_unit b i c q)
            (below_neg R n _ ∙ ap ⊖◌ (unit_mul b i c k))
            ∙ R.add_neg (b i c)

        times_determinant : (matrix_product R.ops n b b' i j ⊕ ⊖ diagonal R.ops (λ i. 𝟙) i j) ⊗ determinant R.ops n b
            ≡ 𝟘
        times_determinant =
            sym (cramer R n j l (λ m. matrix_product R.ops n b b' i m ⊕ ⊖ diagonal R.ops (λ i. 𝟙) i m) b)
            ∙ determinant_cong R n _ (with_row j (λ c. 𝟘) b) (λ r c q s.
            with_row_cong n j (λ c. sum_below R.ops n
            (λ m. (matrix_product R.ops n b b' i m ⊕ ⊖ diagonal R.ops (λ i. 𝟙) i m) ⊗ b m c)) (λ c. 𝟘) b null r c s)
            ∙ zero_row R n j l b

        cancel : (d' d r : A) → d' ⊗ d ≡ 𝟙 → r ⊗ d ≡ 𝟘 → r ≡ 𝟘
        cancel d' d r e f = from_two R (⊖ r) d' e f
            (ring R (d' ∷ d ∷ r ∷ []) λ q h. simp (reads, q, h 0, h 1, h 2) (q.equal _ _ refl))

    -- where m·b is b·a
    pub similar_trace : (m a : ℕ → ℕ → A) → SameEntries (mul m b) (mul b a) → trace R.ops n m ≡ trace R.ops n a
    similar_trace m a h =
        below_cong R n _ _ (λ i l.
        sym (mul_unit m i i l) ∙ sym (mul_right m (mul b b') δ right i i l l) ∙ sym (matrix_assoc R n n m b b' i i)
        ∙ mul_left (mul m b) (mul b a) b' h i i l l ∙ matrix_assoc R n n b a b' i i)
        ∙ trace_swap R n n b (mul a b')
        ∙ below_cong R n _ _ (λ i l. matrix_assoc R n n a b' b i i ∙ mul_right a (mul b' b) δ left i i l l
        ∙ mul_unit a i i l)
