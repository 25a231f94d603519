-- The norm of a row, the determinant of its matrix: it is multiplicative, and that of 1 + a·v is 1 + a·(the trace of v)
-- up to a multiple of a².
use native.Mathlib.Decide.{ℕ_discrete}
use Rattle.std.proofs.Common.{◌≡◌, ℕ, zero, suc, ◌<◌, refl, sym, ◌∙◌, ap, ap₂}
use Rattle.ring_lemmas.specs.Ring.{CommRing, pow}
use Rattle.ring_lemmas.specs.Rows.{Row, row_scale}
use Rattle.ring_lemmas.specs.Sums.{matrix_product}
use Rattle.ring_theory.specs.Determinant.{determinant}
use Rattle.ring_lemmas.proofs.Ring.{one_mul, add_mul}
use Rattle.ring_theory.proofs.Determinant.{determinant_product}
use Rattle.trace_theory.proofs.RowMatrix.{rows, y, tr, at, at_scale, entry_add, entry_here, entry_other, y_unit, unit_row, matrix, matrix_mul, left_scale, trace_is}
use Rattle.trace_theory.proofs.Determinants.{Near, near, near_one, diagonal, product_below, diagonal_determinant, diagonal_here, diagonal_other, determinant_cong}

module _ {P : Type 0} (S : CommRing P) (n : ℕ) (f : Row P (suc n)) where
  infixl 65 ◌⊕◌
  infixl 70 ◌⊗◌
  open S use {𝟘, 𝟙, ◌⊕◌, ◌⊗◌}

  abbrev pub norm : Row P (suc n) → P
  norm v = determinant S.ops (suc n) (matrix S n f v)

  at_power : (i j : ℕ) → i < suc n → at S n f j (y S n f i) ≡ diagonal S.ops (λ l. 𝟙) i j
  at_power i j l = ap (at S n f j) (y_unit S n f i l) ∙ go (ℕ_discrete j i)
    where
      go : Dec (j ≡ i) → at S n f j (unit_row S (suc n) i) ≡ diagonal S.ops (λ l. 𝟙) i j
      go (yes e) =
          ap (λ j. at S n f j (unit_row S (suc n) i)) e ∙ entry_here S (suc n) i l ∙ sym (diagonal_here S (λ l. 𝟙) i)
          ∙ ap (diagonal S.ops (λ l. 𝟙) i) (sym e)
      go (no ne) = entry_other S (suc n) j i ne ∙ sym (diagonal_other S (λ l. 𝟙) i j ne)

  pub norm_mul : (v w : Row P (suc n)) → norm ((rows S n f).◌⊗◌ v w) ≡ norm v ⊗ norm w
  norm_mul v w =
      determinant_cong S (suc n) _ (matrix_product S.ops (suc n) (matrix S n f w) (matrix S n f v))
      (λ i j k l. matrix_mul S n f v w i j)
      ∙ determinant_product S (suc n) _ _ ∙ S.mul_comm _ _

  ones : (m : ℕ) → product_below S.ops m (λ i. 𝟙) ≡ 𝟙
  ones zero = refl
  ones (suc m) = one_mul S _ ∙ ones m

  pub norm_one : norm (rows S n f).𝟙 ≡ 𝟙
  unfolding matrix
  norm_one =
      determinant_cong S (suc n) _ (diagonal S.ops (λ i. 𝟙))
      (λ i j k l. ap (at S n f j) (one_mul (rows S n f) (y S n f i)) ∙ at_power i j k)
      ∙ diagonal_determinant S (suc n) (λ i. 𝟙) ∙ ones (suc n)

  pub norm_power : (v : Row P (suc n)) (m : ℕ) → norm (pow (rows S n f).ops v m) ≡ pow S.ops (norm v) m
  norm_power v zero = norm_one
  norm_power v (suc m) = norm_mul v _ ∙ ap (λ x. norm v ⊗ x) (norm_power v m)

  pub norm_near : (a : P) (v : Row P (suc n))
      → Near S a (norm ((rows S n f).◌⊕◌ (rows S n f).𝟙 (row_scale S.ops (suc n) a v))) (tr S n f v)
  unfolding matrix
  norm_near a v =
      let r = near_one S (suc n) a (matrix S n f v) in
      record {
        rest = r.rest;
        is =
            determinant_cong S (suc n) _ (near S a (matrix S n f v)) entries ∙ r.is
            ∙ ap (λ t. 𝟙 ⊕ a ⊗ t ⊕ a ⊗ a ⊗ r.rest) (sym (trace_is S n f v));
      }
    where
      entries : (i j : ℕ) → i < suc n → j < suc n
          → matrix S n f ((rows S n f).◌⊕◌ (rows S n f).𝟙 (row_scale S.ops (suc n) a v)) i j
          ≡ near S a (matrix S n f v) i j
      entries i j k l =
          ap (at S n f j) (add_mul (rows S n f) (rows S n f).𝟙 (row_scale S.ops (suc n) a v) (y S n f i))
          ∙ entry_add S (suc n) j _ _
          ∙ ap₂ ◌⊕◌ (ap (at S n f j) (one_mul (rows S n f) (y S n f i)) ∙ at_power i j k)
          (ap (at S n f j) (left_scale S n f a v i) ∙ at_scale S n f j a _)
