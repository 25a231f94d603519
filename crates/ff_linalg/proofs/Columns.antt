-- Where a column is a combination of the columns before it in some rows, it is in each combination of these rows.
use Rattle.std.proofs.Common.{◌≡◌, ℕ, suc, ◌<◌, List, [], ◌∷◌, length, refl, sym, ◌∙◌, ap, ap₂, arith}
use Rattle.ring_lemmas.specs.Ring.{CommRing}
use Rattle.ring_lemmas.specs.Sums.{sum_below}
use Rattle.ring_lemmas.proofs.Ring.{mul_zero}
use Rattle.ring_lemmas.proofs.Solver.{ring, reads}
use Rattle.ring_lemmas.proofs.Sums.{below_cong, below_zero, below_add, below_scale, below_first}
use Rattle.linear_theory.specs.Module.{combine, sequence_ops}
use Rattle.linear_theory.specs.Echelon.{row, InRowSpace}

module _ {A : Type 0} (R : CommRing A) where
  infixl 65 ◌⊕◌
  infixl 70 ◌⊗◌
  open R use {𝟘, ◌⊕◌, ◌⊗◌}

  -- the sum of v_i·u_i for i below r
  abbrev pub dot : ℕ → (ℕ → A) → (ℕ → A) → A
  dot r v u = sum_below R.ops r (λ i. v i ⊗ u i)

  -- u_r is the combination of the terms before it with the coefficients v
  abbrev pub IsCombinedAt : ℕ → (ℕ → A) → (ℕ → A) → Type 0
  IsCombinedAt r v u = u r ≡ dot r v u

  pub dot_none : (r : ℕ) (v u : ℕ → A) → ((i : ℕ) → i < r → u i ≡ 𝟘) → dot r v u ≡ 𝟘
  dot_none r v u h =
      below_cong R r (λ i. v i ⊗ u i) (λ i. 𝟘) (λ i l. ap (λ x. v i ⊗ x) (h i l) ∙ mul_zero R (v i)) ∙ below_zero R r

  dot_linear : (r : ℕ) (v : ℕ → A) (a : A) (u w : ℕ → A) → dot r v (λ i. a ⊗ u i ⊕ w i) ≡ a ⊗ dot r v u ⊕ dot r v w
  dot_linear r v a u w =
      below_cong R r (λ i. v i ⊗ (a ⊗ u i ⊕ w i)) (λ i. a ⊗ (v i ⊗ u i) ⊕ v i ⊗ w i) (λ i l. step (v i) (u i) (w i))
      ∙ below_add R r (λ i. a ⊗ (v i ⊗ u i)) (λ i. v i ⊗ w i)
      ∙ ap (λ x. x ⊕ dot r v w) (below_scale R r a (λ i. v i ⊗ u i))
    where
      step : (x y z : A) → x ⊗ (a ⊗ y ⊕ z) ≡ a ⊗ (x ⊗ y) ⊕ x ⊗ z
      step x y z = ring R (a ∷ x ∷ y ∷ z ∷ []) λ q h. simp (reads, q, h 0, h 1, h 2, h 3) (q.equal _ _ refl)

  combined : (r : ℕ) (v d : ℕ → A) (rows : List (ℕ → A))
      → ((l : ℕ) → l < length rows → IsCombinedAt r v (row R.ops rows l))
      → IsCombinedAt r v (combine (sequence_ops R.ops) d rows)
  combined r v d [] h = sym (dot_none r v (λ i. 𝟘) (λ i l. refl))
  combined r v d (u ∷ rows) h =
      ap₂ (λ x y. d 0 ⊗ x ⊕ y) (h 0 (omega arith)) (combined r v (λ i. d (suc i)) rows (λ l m. h (suc l) (omega arith)))
      ∙ sym (dot_linear r v (d 0) u (combine (sequence_ops R.ops) (λ i. d (suc i)) rows))

  pub combined_in_space : (width r : ℕ) (v : ℕ → A) (rows : List (ℕ → A)) → r < width
      → ((l : ℕ) → l < length rows → IsCombinedAt r v (row R.ops rows l)) → (w : ℕ → A) → InRowSpace R.ops width rows w
      → IsCombinedAt r v w
  combined_in_space width r v rows within h w s =
      s.is r within ∙ combined r v s.coefficient rows h
      ∙ sym (below_cong R r (λ i. v i ⊗ w i) (λ i. v i ⊗ combine (sequence_ops R.ops) s.coefficient rows i)
      (λ i l. ap (λ x. v i ⊗ x) (s.is i (omega arith))))

  -- a column of a combination of rows
  pub combine_column : (c : ℕ → A) (rows : List (ℕ → A)) (j : ℕ)
      → combine (sequence_ops R.ops) c rows j ≡ dot (length rows) c (λ i. row R.ops rows i j)
  combine_column c [] j = refl
  combine_column c (u ∷ rows) j =
      ap (λ x. c 0 ⊗ u j ⊕ x) (combine_column (λ i. c (suc i)) rows j)
      ∙ sym (below_first R (length rows) (λ i. c i ⊗ row R.ops (u ∷ rows) i j))
