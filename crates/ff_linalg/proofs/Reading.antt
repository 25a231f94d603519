-- Codes read as members of the field, and rows of codes as rows over it.
use Rattle.std.proofs.Common.{◌≡◌, ℕ, zero, suc, ◌<◌, List, [], ◌∷◌, length, get_or, map, refl, sym, ◌∙◌, ap, ap₂}
use Rattle.ring_lemmas.specs.Lists.{coeff_of}
use Rattle.std.proofs.lemmas.List.{length-map}
use Rattle.std.proofs.lemmas.List.Elements.{All-head, All-tail}
use Rattle.std.specs.Prelude.{All}
use Rattle.ff_fields.specs.Field.{CodeField}
use Rattle.ff_fields.specs.Code.{code_ring, same_code, read_code, read_code_below, zero_in}
use Rattle.ff_fields.specs.Numbers.{read}
use Rattle.ff_fields.specs.Over.{IsOver, get_or_below}
use Rattle.linear_theory.specs.Echelon.{row}
use Rattle.ff_linalg.specs.Steps.{matrix_entry}
use Rattle.ff_linalg.specs.Forms.{sequences_of}

module _ (k : CodeField) where
  pub read_zero : read_code k 0 ≡ (code_ring k).𝟘
  read_zero = same_code k _ _ (read_code_below k 0 (zero_in k))

  pub read_one : read_code k 1 ≡ (code_ring k).𝟙
  read_one = same_code k _ _ (read_code_below k 1 k.laws.one_below)

  pub read_add : (a b : ℕ) → a < k.size → b < k.size
      → read_code k (k.add a b) ≡ (code_ring k).◌⊕◌ (read_code k a) (read_code k b)
  read_add a b a_in b_in =
      same_code k _ _ (read_code_below k (k.add a b) (k.laws.add_below a b a_in b_in)
      ∙ sym (ap₂ k.add (read_code_below k a a_in) (read_code_below k b b_in)))

  pub read_mul : (a b : ℕ) → a < k.size → b < k.size
      → read_code k (k.mul a b) ≡ (code_ring k).◌⊗◌ (read_code k a) (read_code k b)
  read_mul a b a_in b_in =
      same_code k _ _ (read_code_below k (k.mul a b) (k.laws.mul_below a b a_in b_in)
      ∙ sym (ap₂ k.mul (read_code_below k a a_in) (read_code_below k b b_in)))

  pub read_neg : (a : ℕ) → a < k.size → read_code k (k.neg a) ≡ (code_ring k).⊖◌ (read_code k a)
  read_neg a a_in = same_code k _ _ (read_code_below k (k.neg a) (k.laws.neg_below a a_in)
      ∙ sym (ap k.neg (read_code_below k a a_in)))

  -- codes below the size are what they are read as
  pub read_same : (a b : ℕ) → a < k.size → b < k.size → read_code k a ≡ read_code k b → a ≡ b
  read_same a b a_in b_in e = sym (read_code_below k a a_in) ∙ ap (λ x. x.0) e ∙ read_code_below k b b_in

  pub coeff_read : (xs : List ℕ) (j : ℕ) → coeff_of (code_ring k).ops (read k xs) j ≡ read_code k (get_or xs j 0)
  coeff_read [] j = sym read_zero
  coeff_read (x ∷ xs) zero = refl
  coeff_read (x ∷ xs) (suc j) = coeff_read xs j

  -- the entries of the rows as sequences
  pub row_entry : (rows : List (List ℕ)) (i j : ℕ)
      → row (code_ring k).ops (sequences_of k rows) i j ≡ read_code k (matrix_entry rows i j)
  row_entry [] i j = sym read_zero
  row_entry (r ∷ rows) zero j = coeff_read r j
  row_entry (r ∷ rows) (suc i) j = row_entry rows i j

  pub length_sequences : (rows : List (List ℕ)) → length (sequences_of k rows) ≡ length rows
  length_sequences rows = length-map (map (read k) rows) (coeff_of (code_ring k).ops) ∙ length-map rows (read k)

  pub entry_in : (rows : List (List ℕ)) (i j : ℕ) → All (IsOver k.ops) rows → matrix_entry rows i j < k.size
  entry_in [] i j over = zero_in k
  entry_in (r ∷ rows) zero j over = get_or_below k r j (All-head (IsOver k.ops) r rows over)
  entry_in (r ∷ rows) (suc i) j over = entry_in rows i j (All-tail (IsOver k.ops) r rows over)
