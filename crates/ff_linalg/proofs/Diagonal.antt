-- Reduced rows of which the first ones have a 1 on the diagonal: these columns are independent, and the next one shows
-- the coefficients by which it is a combination of them.
use Rattle.std.proofs.Common.{◌≡◌, ℕ, zero, suc, ◌<◌, ◌≤◌, ◌⊎◌, inl, inr, List, length, sym, ◌∙◌, ap, ap₂, arith, eq-or-lt_of_le}
use Rattle.ring_lemmas.specs.Ring.{CommRing}
use Rattle.ring_lemmas.proofs.Ring.{mul_zero}
use Rattle.ring_lemmas.proofs.Sums.{below_single}
use Rattle.linear_theory.specs.Fields.{Domain}
use Rattle.linear_theory.specs.Echelon.{row, IsReducedEchelon}
use Rattle.ff_linalg.proofs.Columns.{IsCombinedAt, dot_none}

order : (i n : ℕ) → (i < n) ⊎ (n ≤ i)
order i n = grind arith

module _ {A : Type 0} (D : Domain A) (width : ℕ) (rows : List (ℕ → A)) (r : IsReducedEchelon D.ring.ops width rows) (count : ℕ)
    (within_rows : count ≤ length rows) (within_cols : count ≤ width)
    (ones : (i : ℕ) → i < count → row D.ring.ops rows i i ≡ D.ring.𝟙) where
  infixl 70 ◌⊗◌
  open D.ring use {𝟘, 𝟙, ◌⊗◌}

  abbrev R : CommRing A
  R = D.ring

  late : (i : ℕ) → i < r.rank → i ≤ r.pivot i
  late zero l = omega arith
  late (suc i) l =
      let a = late i (omega arith) in
      let b = r.increasing i (suc i) (omega arith) l in omega arith

  ranked : (i : ℕ) → i < count → i < r.rank
  ranked i l = go (order i r.rank)
    where
      go : (i < r.rank) ⊎ (r.rank ≤ i) → i < r.rank
      go (inl m) = m
      go (inr m) = absurd (D.one_not_zero (sym (ones i l) ∙ r.zero_rows i i m (omega arith) (omega arith)))

  on_diagonal : (i : ℕ) → i < count → r.pivot i ≡ i
  on_diagonal i l = go (eq-or-lt_of_le (late i (ranked i l)))
    where
      go : (i ≡ r.pivot i) ⊎ (i < r.pivot i) → r.pivot i ≡ i
      go (inl e) = sym e
      go (inr m) = absurd (D.one_not_zero (sym (ones i l) ∙ r.left_zero i i (ranked i l) m))

  off_diagonal : (i l : ℕ) → i < count → l < length rows → ¬ (l ≡ i) → row R.ops rows l i ≡ 𝟘
  off_diagonal i l a b ne = ap (row R.ops rows l) (sym (on_diagonal i a)) ∙ r.column_zero i l (ranked i a) b ne

  -- none of these columns is a combination of the columns before it
  pub independent_columns : (i : ℕ) (v : ℕ → A) → i < count
      → ¬ ((l : ℕ) → l < length rows → IsCombinedAt R i v (row R.ops rows l))
  independent_columns i v l h =
      D.one_not_zero
      (sym (ones i l) ∙ h i (omega arith)
      ∙ dot_none R i v (row R.ops rows i) (λ j m. off_diagonal j i (omega arith) (omega arith) (λ e. omega arith)))

  module _ (within : count < width) (ends : count < length rows → ¬ (row R.ops rows count count ≡ 𝟙)) where
    -- below the diagonal the next column is 0
    below_zero : (l : ℕ) → count ≤ l → l < length rows → row R.ops rows l count ≡ 𝟘
    below_zero l a b = go (order l r.rank)
      where
        pivot : (m : l < r.rank) → (count ≡ r.pivot l) ⊎ (count < r.pivot l) → row R.ops rows l count ≡ 𝟘
        pivot m (inl e) =
            let same : l ≡ count = let k = late l m in omega arith in
            absurd (ends (omega arith) (ap (λ n. row R.ops rows n count) (sym same) ∙ ap (row R.ops rows l) e
            ∙ r.pivot_one l m))
        pivot m (inr c) = r.left_zero l count m c

        go : (l < r.rank) ⊎ (r.rank ≤ l) → row R.ops rows l count ≡ 𝟘
        go (inl m) = pivot m (eq-or-lt_of_le (let k = late l m in let k' : count ≤ r.pivot l = omega arith in k'))
        go (inr m) = r.zero_rows l count m b within

    pub dependent_column : (v : ℕ → A) → ((i : ℕ) → i < count → v i ≡ row R.ops rows i count) → (l : ℕ)
        → l < length rows
        → IsCombinedAt R count v (row R.ops rows l)
    dependent_column v v_is l b = go (order l count)
      where
        go : (l < count) ⊎ (count ≤ l) → IsCombinedAt R count v (row R.ops rows l)
        go (inl m) =
            sym (below_single R count l (λ i. v i ⊗ row R.ops rows l i) m
            (λ i k ne. ap (λ x. v i ⊗ x) (off_diagonal i l k b (λ e. ne (sym e))) ∙ mul_zero R (v i))
            ∙ ap₂ ◌⊗◌ (v_is l m) (ones l m) ∙ R.mul_one _)
        go (inr m) =
            below_zero l m b
            ∙ sym (dot_none R count v (row R.ops rows l) (λ i k. off_diagonal i l k b (λ e. omega arith)))
