-- Rows whose products with the powers of y have multiples of d as traces: the discriminant times such a row is a
-- multiple of d.
use native.Mathlib.Decide.{ℕ_discrete}
use Rattle.std.proofs.Common.{◌≡◌, ℕ, zero, suc, ◌<◌, ◌+◌, refl, sym, ◌∙◌, ap, arith}
use Rattle.ring_lemmas.specs.Ring.{CommRing, IsDomain}
use Rattle.ring_lemmas.specs.Rows.{Row, row_scale}
use Rattle.ring_lemmas.specs.Sums.{sum_below}
use Rattle.ring_theory.specs.Determinant.{determinant, with_row}
use Rattle.ring_lemmas.proofs.Ring.{domain_cancel, mul_left_comm}
use Rattle.ring_lemmas.proofs.Sums.{below_cong, below_scale}
use Rattle.ring_theory.proofs.Cramer.{cramer}
use Rattle.trace_theory.proofs.RowMatrix.{rows, y, tr, at, at_scale, row_with, entry_with, row_by_entries, trace_form, trace_product}
use Rattle.trace_theory.proofs.Determinants.{determinant_cong, scaled_row, transposed}

-- the row that was put in, and the others
with_row_here : {A : Type 0} (i : ℕ) (v : ℕ → A) (m : ℕ → ℕ → A) → with_row i v m i ≡ v
with_row_here zero v m = refl
with_row_here (suc i) v m = with_row_here i v (λ j. m (suc j))

with_row_other : {A : Type 0} (i j : ℕ) (v : ℕ → A) (m : ℕ → ℕ → A) → ¬ (j ≡ i) → with_row i v m j ≡ m j
with_row_other zero zero v m ne = absurd (ne refl)
with_row_other zero (suc j) v m ne = refl
with_row_other (suc i) zero v m ne = refl
with_row_other (suc i) (suc j) v m ne = with_row_other i j v (λ j. m (suc j)) (λ e. ne (ap suc e))

pub with_row_cong : {A : Type 0} (m i : ℕ) (u v : ℕ → A) (a : ℕ → ℕ → A) → ((c : ℕ) → c < m → u c ≡ v c)
    → (r c : ℕ) → c < m → with_row i u a r c ≡ with_row i v a r c
with_row_cong m zero u v a h zero c l = h c l
with_row_cong m zero u v a h (suc r) c l = refl
with_row_cong m (suc i) u v a h zero c l = refl
with_row_cong m (suc i) u v a h (suc r) c l = with_row_cong m i u v (λ j. a (suc j)) h r c l

module _ {P : Type 0} (S : CommRing P) (n : ℕ) (f : Row P (suc n)) where
  infixl 65 ◌⊕◌
  infixl 70 ◌⊗◌
  infixr 80 ⊖◌
  open S use {𝟘, 𝟙, ◌⊕◌, ◌⊗◌, ⊖◌}

  -- the traces of the products of the powers of y
  abbrev pub gram : ℕ → ℕ → P
  gram i j = tr S n f (y S n f (i + j))

  abbrev pub disc : P
  disc = determinant S.ops (suc n) gram

  -- the determinants with t in place of a row
  abbrev pub replaced : (ℕ → P) → ℕ → P
  replaced t i = determinant S.ops (suc n) (with_row i t gram)

  module _ (v : Row P (suc n)) (d : P) (t : ℕ → P)
      (traces : (j : ℕ) → j < suc n → tr S n f ((rows S n f).◌⊗◌ v (y S n f j)) ≡ d ⊗ t j) where
    -- v_i times the discriminant
    pub entry_form : (i : ℕ) → i < suc n → at S n f i v ⊗ disc ≡ d ⊗ replaced t i
    entry_form i l =
        sym (cramer S (suc n) i l (λ k. at S n f k v) gram)
        ∙ determinant_cong S (suc n) _ (with_row i (λ j. d ⊗ t j) gram)
        (λ r c k k'. with_row_cong (suc n) i (λ c. sum_below S.ops (suc n) (λ j. at S n f j v ⊗ gram j c))
        (λ j. d ⊗ t j) gram
        (λ c b. sym (trace_form S n f v c) ∙ traces c b) r c k')
        ∙ scaled_row S (suc n) i l d t gram

    pub row_form : row_scale S.ops (suc n) disc v ≡ row_scale S.ops (suc n) d (row_with S (suc n) (replaced t))
    row_form =
        row_by_entries S (suc n) _ _ (λ i l.
        at_scale S n f i disc v ∙ S.mul_comm _ _ ∙ entry_form i l
        ∙ ap (λ x. d ⊗ x) (sym (entry_with S (suc n) i (replaced t) l))
        ∙ sym (at_scale S n f i d _))

    -- where also the trace of v² is d²·s, the square of v_i times the discriminant is a multiple of d²
    module _ (domain : IsDomain S.ops) (d_some : ¬ (d ≡ 𝟘)) (s : P)
        (square : tr S n f ((rows S n f).◌⊗◌ v v) ≡ d ⊗ (d ⊗ s)) where
      inner : sum_below S.ops (suc n) (λ j. at S n f j v ⊗ t j) ≡ d ⊗ s
      inner =
          domain_cancel S domain d _ _ d_some
          (sym (below_scale S (suc n) d _)
          ∙ below_cong S (suc n) _ _ (λ j l. mul_left_comm S d (at S n f j v) (t j)
          ∙ ap (λ x. at S n f j v ⊗ x) (sym (traces j l)))
          ∙ sym (trace_product S n f v v) ∙ square)

      abbrev H : ℕ → ℕ → ℕ → P
      H i = with_row i t gram

      -- s in place of t_i
      last : (i c : ℕ) → Dec (c ≡ i) → P
      last i c (yes e) = s
      last i c (no ne) = t c

      -- H times v is a multiple of d
      times_column : (i c : ℕ) → i < suc n → c < suc n → (e : Dec (c ≡ i))
          → sum_below S.ops (suc n) (λ j. at S n f j v ⊗ H i c j) ≡ d ⊗ last i c e
      unfolding last
      times_column i c l b (yes e) =
          below_cong S (suc n) _ _ (λ j k. ap (λ r. at S n f j v ⊗ r j) (ap (H i) e ∙ with_row_here i t gram)) ∙ inner
      times_column i c l b (no ne) =
          below_cong S (suc n) _ _ (λ j k.
          ap (λ r. at S n f j v ⊗ r j) (with_row_other i c t gram ne)
          ∙ ap (λ m. at S n f j v ⊗ tr S n f (y S n f m)) (let q : c + j ≡ j + c = omega arith in q))
          ∙ sym (trace_form S n f v c) ∙ traces c b

      pub entry_square : (i : ℕ) → i < suc n → (g : P) × (at S n f i v ⊗ (at S n f i v ⊗ disc) ≡ d ⊗ (d ⊗ g))
      entry_square i l =
          let u : ℕ → P = λ c. last i c (ℕ_discrete c i) in (
            determinant S.ops (suc n) (with_row i u (λ r c. H i c r)),
            ap (λ x. at S n f i v ⊗ x) (entry_form i l) ∙ mul_left_comm S _ _ _
                ∙ ap (λ x. d ⊗ x)
                (ap (λ x. at S n f i v ⊗ x) (sym (transposed S (suc n) (H i)))
                ∙ sym (cramer S (suc n) i l (λ k. at S n f k v) (λ r c. H i c r))
                ∙ determinant_cong S (suc n) _ (with_row i (λ c. d ⊗ u c) (λ r c. H i c r))
                (λ r c k b.
                with_row_cong (suc n) i (λ c. sum_below S.ops (suc n) (λ j. at S n f j v ⊗ H i c j)) (λ c. d ⊗ u c)
                (λ r c. H i c r)
                (λ c b. times_column i c l b (ℕ_discrete c i)) r c b)
                ∙ scaled_row S (suc n) i l d u (λ r c. H i c r)),
          )
