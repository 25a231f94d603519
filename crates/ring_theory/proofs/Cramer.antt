-- Cramer's rule: a combination of the rows in place of row i multiplies the determinant by the i-th coefficient.
use mathlib.Core.Path.{fun_ext}
use Rattle.std.proofs.Common.{◌≡◌, ℕ, zero, suc, ◌<◌, ◌⊎◌, inl, inr, Bool, true, List, replicate, refl, sym, ◌∙◌, ap, ap₂, arith}
use Rattle.ring_lemmas.specs.Ring.{CommRing}
use Rattle.ring_lemmas.specs.Sums.{sum_below}
use Rattle.ring_theory.specs.Determinant.{determinant, with_row}
use Rattle.ring_lemmas.proofs.Ring.{mul_zero}
use Rattle.ring_lemmas.proofs.Sums.{below_first, below_single}
use Rattle.ring_theory.proofs.Determinant.{unit, wedges, wedge_cong, wedge_linear, wedge_linear_vector, wedge_zero, wedge_zero_vector, combined, combined_sum, volume, volume_is, determinant_repeated}

-- the row that was put in, and the others
row_in : {A : Type 0} (i : ℕ) (v : ℕ → A) (m : ℕ → ℕ → A) → with_row i v m i ≡ v
row_in zero v m = refl
row_in (suc i) v m = row_in i v (λ j. m (suc j))

row_other : {A : Type 0} (i j : ℕ) (v : ℕ → A) (m : ℕ → ℕ → A) → ¬ (i ≡ j) → with_row i v m j ≡ m j
row_other zero zero v m ne = absurd (ne refl)
row_other zero (suc j) v m ne = refl
row_other (suc i) zero v m ne = refl
row_other (suc i) (suc j) v m ne = row_other i j v (λ j. m (suc j)) (λ e. ne (ap suc e))

row_same : {A : Type 0} (i j : ℕ) (m : ℕ → ℕ → A) → with_row i (m i) m j ≡ m j
row_same zero zero m = refl
row_same zero (suc j) m = refl
row_same (suc i) zero m = refl
row_same (suc i) (suc j) m = row_same i j (λ j. m (suc j))

module _ {A : Type 0} (R : CommRing A) where
  infixl 65 ◌⊕◌
  infixl 70 ◌⊗◌
  infixr 80 ⊖◌
  open R use {𝟘, 𝟙, ◌⊕◌, ◌⊗◌, ⊖◌}

  -- linear in row i
  wedges_linear : (k i : ℕ) → i < k → (u v : ℕ → A) (c : A) (a : ℕ → ℕ → A) (x : List Bool → A) (m : List Bool)
      → wedges R.ops k (with_row i (λ j. c ⊗ u j ⊕ v j) a) x m
      ≡ c ⊗ wedges R.ops k (with_row i u a) x m ⊕ wedges R.ops k (with_row i v a) x m
  wedges_linear zero i l u v c a x m = absurd (omega arith)
  wedges_linear (suc k) zero l u v c a x m = wedge_linear_vector R u v c _ m
  wedges_linear (suc k) (suc i) l u v c a x m =
      wedge_cong R (a 0) _ _ (wedges_linear k i (omega arith) u v c (λ j. a (suc j)) x) m ∙ wedge_linear R (a 0) c _ _ m

  wedges_zero_row : (k i : ℕ) → i < k → (a : ℕ → ℕ → A) (x : List Bool → A) (m : List Bool)
      → wedges R.ops k (with_row i (λ j. 𝟘) a) x m ≡ 𝟘
  wedges_zero_row zero i l a x m = absurd (omega arith)
  wedges_zero_row (suc k) zero l a x m = wedge_zero_vector R _ m
  wedges_zero_row (suc k) (suc i) l a x m =
      wedge_cong R (a 0) _ (λ k. 𝟘) (wedges_zero_row k i (omega arith) (λ j. a (suc j)) x) m ∙ wedge_zero R (a 0) m

  pub determinant_linear : (n i : ℕ) → i < n → (u v : ℕ → A) (c : A) (a : ℕ → ℕ → A)
      → determinant R.ops n (with_row i (λ j. c ⊗ u j ⊕ v j) a)
      ≡ c ⊗ determinant R.ops n (with_row i u a) ⊕ determinant R.ops n (with_row i v a)
  unfolding volume
  determinant_linear n i l u v c a =
      sym (volume_is R n _)
      ∙ wedges_linear n i l u v c a (unit R.ops) (replicate n true)
      ∙ ap₂ (λ s t. c ⊗ s ⊕ t) (volume_is R n _) (volume_is R n _)

  determinant_combined : (n i : ℕ) → i < n → (k : ℕ) (w : ℕ → A) (b a : ℕ → ℕ → A)
      → determinant R.ops n (with_row i (combined R k w b) a)
      ≡ sum_below R.ops k (λ j. w j ⊗ determinant R.ops n (with_row i (b j) a))
  unfolding volume combined
  determinant_combined n i l zero w b a =
      sym (volume_is R n _) ∙ wedges_zero_row n i l a (unit R.ops) (replicate n true)
  determinant_combined n i l (suc k) w b a =
      determinant_linear n i l (b 0) (combined R k (λ j. w (suc j)) (λ j. b (suc j))) (w 0) a
      ∙ ap (λ t. w 0 ⊗ determinant R.ops n (with_row i (b 0) a) ⊕ t)
      (determinant_combined n i l k (λ j. w (suc j)) (λ j. b (suc j)) a)
      ∙ sym (below_first R k (λ j. w j ⊗ determinant R.ops n (with_row i (b j) a)))

  -- another row of the matrix in place of row i
  determinant_doubled : (n i j : ℕ) → i < n → j < n → ¬ (j ≡ i) → (a : ℕ → ℕ → A)
      → determinant R.ops n (with_row i (a j) a) ≡ 𝟘
  determinant_doubled n i j l l' ne a = go (order i j ne)
    where
      order : (i j : ℕ) → ¬ (j ≡ i) → (i < j) ⊎ (j < i)
      order i j ne = grind arith

      same : with_row i (a j) a i ≡ with_row i (a j) a j
      same = row_in i (a j) a ∙ sym (row_other i j (a j) a (λ e. ne (sym e)))

      go : (i < j) ⊎ (j < i) → determinant R.ops n (with_row i (a j) a) ≡ 𝟘
      go (inl k) = determinant_repeated R n _ i j k l' same
      go (inr k) = determinant_repeated R n _ j i k l (sym same)

  pub cramer : (n i : ℕ) → i < n → (w : ℕ → A) (a : ℕ → ℕ → A)
      → determinant R.ops n (with_row i (λ c. sum_below R.ops n (λ j. w j ⊗ a j c)) a) ≡ w i ⊗ determinant R.ops n a
  cramer n i l w a =
      ap (λ v. determinant R.ops n (with_row i v a)) (fun_ext (λ c. sym (combined_sum R n w a c)))
      ∙ determinant_combined n i l n w a a
      ∙ below_single R n i (λ j. w j ⊗ determinant R.ops n (with_row i (a j) a)) l
      (λ j k ne. ap (λ t. w j ⊗ t) (determinant_doubled n i j l k ne a) ∙ mul_zero R (w j))
      ∙ ap (λ b. w i ⊗ determinant R.ops n b) (fun_ext (λ j. row_same i j a))
