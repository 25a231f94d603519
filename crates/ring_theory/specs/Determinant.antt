-- Determinants of square matrices, as functions of two indices, by expansion along the first column.
use Rattle.std.specs.Prelude.{ℕ, zero, suc}
use Rattle.ring_lemmas.specs.Ring.{Operations, pow}
use Rattle.ring_lemmas.specs.Sums.{sum_below}

-- the rows but row i, and the columns but the first
abbrev pub minor : {A : Type 0} → ℕ → (ℕ → ℕ → A) → ℕ → ℕ → A
minor zero m r c = m (suc r) (suc c)
minor (suc i) m zero c = m zero (suc c)
minor (suc i) m (suc r) c = minor i (λ j. m (suc j)) r c

-- the sum of (-1)^i·m(i,0)·(determinant of the minor i)
abbrev pub determinant : {A : Type 0} → Operations A → ℕ → (ℕ → ℕ → A) → A
determinant R zero m = R.𝟙
determinant R (suc n) m =
    sum_below R (suc n) (λ i. R.◌⊗◌ (pow R (R.⊖◌ R.𝟙) i) (R.◌⊗◌ (m i zero) (determinant R n (minor i m))))

-- v in place of row i
abbrev pub with_row : {A : Type 0} → ℕ → (ℕ → A) → (ℕ → ℕ → A) → ℕ → ℕ → A
with_row zero v m zero = v
with_row zero v m (suc r) = m (suc r)
with_row (suc i) v m zero = m zero
with_row (suc i) v m (suc r) = with_row i v (λ j. m (suc j)) r
