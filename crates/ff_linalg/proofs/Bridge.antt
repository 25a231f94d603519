-- Combinations, row spaces and reduced forms of codes are those over the field.
use Rattle.std.proofs.Common.{◌≡◌, ℕ, zero, suc, ◌<◌, List, [], ◌∷◌, length, get_or, replicate, refl, sym, ◌∙◌, ap, ap₂, subst, arith}
use Rattle.std.proofs.lemmas.List.{length-map, length-replicate}
use Rattle.std.proofs.lemmas.List.Elements.{All-head, All-tail, All-get_or}
use Rattle.std.specs.Prelude.{All}
use Rattle.ff_fields.specs.Field.{FieldOps, CodeField}
use Rattle.ff_fields.specs.Code.{Code, code_ring, raw_ring, read_code, read_code_below}
use Rattle.ff_fields.specs.Numbers.{read, numbers, numbers_read, read_numbers, numbers_add, numbers_scale, IsOver_numbers}
use Rattle.ff_fields.specs.Over.{IsOver, IsOver_head, IsOver_tail, IsOver_zeros, IsOver_add, IsOver_scale}
use Rattle.ring_lemmas.specs.Ring.{CommRing}
use Rattle.ring_lemmas.specs.Lists.{coeff_of, add_lists, scale_list}
use Rattle.ring_lemmas.proofs.Lists.{coeff_add, coeff_scale, length_add_lists, length_scale_list}
use Rattle.linear_theory.specs.Module.{combine, combination, sequence_ops}
use Rattle.linear_theory.specs.Echelon.{row, rows_as_sequences, InRowSpace}
use Rattle.linear_theory.proofs.Combination.{sequences, combine_cong, combine_none}
use Rattle.linear_theory.proofs.Echelon.{list_ext}
use Rattle.linear_theory.proofs.EchelonBasis.{cut, coeff_cut, length_cut}
use Rattle.linear_theory.proofs.Augment.{same_row_space, own_row}
use Rattle.linear_theory.proofs.SameRows.{reduced_across}
use Rattle.ff_linalg.specs.Matrix.{MatrixValue, IsMatrixOver}
use Rattle.ff_linalg.specs.Steps.{matrix_entry}
use Rattle.ff_linalg.specs.Forms.{sequences_of, IsReducedBelow, HaveSameSpace}
use Rattle.ff_linalg.specs.Space.{row_ops, row_product, IsInRowSpace, IsReducedForm}
use Rattle.ff_linalg.proofs.Reading.{read_zero, read_one, read_same, row_entry, length_sequences, entry_in}

-- the entries of rows of numbers
coeff_raw : (k : FieldOps) (xs : List ℕ) (j : ℕ) → coeff_of (raw_ring k) xs j ≡ get_or xs j 0
coeff_raw k [] j = refl
coeff_raw k (x ∷ xs) zero = refl
coeff_raw k (x ∷ xs) (suc j) = coeff_raw k xs j

pub raw_entry : (k : FieldOps) (rows : List (List ℕ)) (i j : ℕ)
    → row (raw_ring k) (rows_as_sequences (raw_ring k) rows) i j ≡ matrix_entry rows i j
raw_entry k [] i j = refl
raw_entry k (r ∷ rows) zero j = coeff_raw k r j
raw_entry k (r ∷ rows) (suc i) j = raw_entry k rows i j

module _ (k : CodeField) where
  abbrev R : CommRing (Code k)
  R = (code_ring k).ring

  length_raw : (rows : List (List ℕ)) → length (rows_as_sequences (raw_ring k.ops) rows) ≡ length rows
  length_raw rows = length-map rows (coeff_of (raw_ring k.ops))

  -- reduced forms
  pub form_of_codes : (m : MatrixValue) (rank : ℕ) → All (IsOver k.ops) m.rows → IsReducedBelow k m.cols m.rows rank
      → IsReducedForm k.ops m rank
  form_of_codes m rank over r = record {
    form = reduced_across R.ops (raw_ring k.ops) m.cols (sequences_of k m.rows) (rows_as_sequences
        (raw_ring k.ops) m.rows)
        (length_raw m.rows ∙ sym (length_sequences k m.rows))
        (λ i j l b e. raw_entry k.ops m.rows i j
        ∙ entry i j 0 (omega (arith, k.laws.one_below)) (sym (row_entry k m.rows i j) ∙ e ∙ sym (read_zero k)))
        (λ i j l b e. raw_entry k.ops m.rows i j
        ∙ entry i j 1 k.laws.one_below (sym (row_entry k m.rows i j) ∙ e ∙ sym (read_one k))) r.form;
    rank_is = r.rank_is;
  }
    where
      entry : (i j x : ℕ) → x < k.size → read_code k (matrix_entry m.rows i j) ≡ read_code k x
          → matrix_entry m.rows i j ≡ x
      entry i j x x_in e = read_same k (matrix_entry m.rows i j) x (entry_in k m.rows i j over) x_in e

  pub codes_of_form : (m : MatrixValue) (rank : ℕ) → IsReducedForm k.ops m rank → IsReducedBelow k m.cols m.rows rank
  codes_of_form m rank r = record {
    form = reduced_across (raw_ring k.ops) R.ops m.cols (rows_as_sequences (raw_ring k.ops) m.rows)
        (sequences_of k m.rows)
        (length_sequences k m.rows ∙ sym (length_raw m.rows))
        (λ i j l b e. row_entry k m.rows i j ∙ ap (read_code k) (sym (raw_entry k.ops m.rows i j) ∙ e) ∙ read_zero k)
        (λ i j l b e. row_entry k m.rows i j ∙ ap (read_code k) (sym (raw_entry k.ops m.rows i j) ∙ e) ∙ read_one k)
        r.form;
    rank_is = r.rank_is;
  }

  -- sums and multiples of lists
  read_add_lists : (xs ys : List ℕ) → IsOver k.ops xs → IsOver k.ops ys
      → read k (add_lists (raw_ring k.ops) xs ys) ≡ add_lists R.ops (read k xs) (read k ys)
  read_add_lists xs ys xs_in ys_in =
      ap (read k) (ap₂ (add_lists (raw_ring k.ops)) (sym (numbers_read k xs xs_in)) (sym (numbers_read k ys ys_in))
      ∙ sym (numbers_add k (read k xs) (read k ys)))
      ∙ read_numbers k (add_lists R.ops (read k xs) (read k ys))

  read_scale_list : (c : ℕ) (ys : List ℕ) → c < k.size → IsOver k.ops ys
      → read k (scale_list (raw_ring k.ops) c ys) ≡ scale_list R.ops (read_code k c) (read k ys)
  read_scale_list c ys c_in ys_in =
      ap (read k) (ap₂ (scale_list (raw_ring k.ops)) (sym (read_code_below k c c_in)) (sym (numbers_read k ys ys_in))
      ∙ sym (numbers_scale k (read_code k c) (read k ys)))
      ∙ read_numbers k (scale_list R.ops (read_code k c) (read k ys))

  pub coeff_zeros : (n j : ℕ) → coeff_of R.ops (read k (replicate n 0)) j ≡ R.𝟘
  coeff_zeros zero j = refl
  coeff_zeros (suc n) zero = read_zero k
  coeff_zeros (suc n) (suc j) = coeff_zeros n j

  -- combinations
  pub combination_over : (cols : ℕ) (cs : List ℕ) (rows : List (List ℕ)) → IsOver k.ops cs → All (IsOver k.ops) rows
      → IsOver k.ops (combination (row_ops k.ops cols) cs rows)
  combination_over cols [] rows cs_in over = IsOver_zeros k cols
  combination_over cols (c ∷ cs) [] cs_in over = IsOver_zeros k cols
  combination_over cols (c ∷ cs) (r ∷ rows) cs_in over =
      IsOver_add k _ _ (IsOver_scale k c r (IsOver_head cs_in) (All-head (IsOver k.ops) r rows over))
      (combination_over cols cs rows (IsOver_tail cs_in) (All-tail (IsOver k.ops) r rows over))

  pub length_combination : (cols : ℕ) (cs : List ℕ) (rows : List (List ℕ)) → All (λ r. length r ≡ cols) rows
      → length (combination (row_ops k.ops cols) cs rows) ≡ cols
  length_combination cols [] rows wide = length-replicate cols 0
  length_combination cols (c ∷ cs) [] wide = length-replicate cols 0
  length_combination cols (c ∷ cs) (r ∷ rows) wide =
      let a = All-head (λ r. length r ≡ cols) r rows wide in
      let b = length_combination cols cs rows (All-tail (λ r. length r ≡ cols) r rows wide) in
      let s = length_scale_list (raw_ring k.ops) c r in
      length_add_lists (raw_ring k.ops) (scale_list (raw_ring k.ops) c r) (combination (row_ops k.ops cols) cs rows)
      (omega (arith, a, b, s)) ∙ s ∙ a

  pub combination_is : (cols : ℕ) (cs : List ℕ) (rows : List (List ℕ)) → IsOver k.ops cs → All (IsOver k.ops) rows
      → (j : ℕ)
      → coeff_of R.ops (read k (combination (row_ops k.ops cols) cs rows)) j
      ≡ combine (sequence_ops R.ops) (coeff_of R.ops (read k cs)) (sequences_of k rows) j
  combination_is cols [] rows cs_in over j =
      coeff_zeros cols j ∙ sym (ap (λ s. s j)
      (combine_none (sequences R) (coeff_of R.ops (read k [])) (sequences_of k rows) (λ i l. refl)))
  combination_is cols (c ∷ cs) [] cs_in over j = coeff_zeros cols j
  combination_is cols (c ∷ cs) (r ∷ rows) cs_in over j =
      let c_in = IsOver_head cs_in in
      let r_in = All-head (IsOver k.ops) r rows over in
      let rest_in = All-tail (IsOver k.ops) r rows over in
      let rest = combination (row_ops k.ops cols) cs rows in
      ap (λ xs. coeff_of R.ops xs j)
      (read_add_lists (scale_list (raw_ring k.ops) c r) rest (IsOver_scale k c r c_in r_in)
      (combination_over cols cs rows (IsOver_tail cs_in) rest_in)
      ∙ ap (λ xs. add_lists R.ops xs (read k rest)) (read_scale_list c r c_in r_in))
      ∙ coeff_add (code_ring k) (scale_list R.ops (read_code k c) (read k r)) (read k rest) j
      ∙ ap₂ R.◌⊕◌ (coeff_scale (code_ring k) (read_code k c) (read k r) j)
      (combination_is cols cs rows (IsOver_tail cs_in) rest_in j)

  -- lists of codes with the same entries over the field
  pub codes_ext : (xs ys : List ℕ) → IsOver k.ops xs → IsOver k.ops ys → length xs ≡ length ys
      → ((j : ℕ) → j < length xs → coeff_of R.ops (read k xs) j ≡ coeff_of R.ops (read k ys) j) → xs ≡ ys
  codes_ext xs ys xs_in ys_in e h =
      sym (numbers_read k xs xs_in)
      ∙ ap (numbers k) (list_ext R (read k xs) (read k ys)
      (length-map xs (read_code k) ∙ e ∙ sym (length-map ys (read_code k)))
      (λ j l. h j (subst (λ n. j < n) (length-map xs (read_code k)) l)))
      ∙ numbers_read k ys ys_in

  -- a sequence over the field as a list of codes
  abbrev pub codes_of : ℕ → (ℕ → Code k) → List ℕ
  codes_of n u = numbers k (cut n u)

  pub length_codes_of : (n : ℕ) (u : ℕ → Code k) → length (codes_of n u) ≡ n
  length_codes_of n u = length-map (cut n u) (λ x. x.0) ∙ length_cut n u

  pub coeff_codes_of : (n : ℕ) (u : ℕ → Code k) (i : ℕ) → i < n → coeff_of R.ops (read k (codes_of n u)) i ≡ u i
  coeff_codes_of n u i l = ap (λ xs. coeff_of R.ops xs i) (read_numbers k (cut n u)) ∙ coeff_cut R.ops n u i l

  -- row spaces
  pub space_of_codes : (m : MatrixValue) (w : List ℕ) → All (IsOver k.ops) m.rows → IsInRowSpace k.ops m w
      → InRowSpace R.ops m.cols (sequences_of k m.rows) (coeff_of R.ops (read k w))
  space_of_codes m w over h = record {
    coefficient = coeff_of R.ops (read k h.coefficients);
    is = λ j l. ap (λ xs. coeff_of R.ops (read k xs) j) h.is
        ∙ combination_is m.cols h.coefficients m.rows h.over over j;
  }

  pub codes_of_space : (m : MatrixValue) (w : List ℕ) → All (IsOver k.ops) m.rows → All (λ r. length r ≡ m.cols) m.rows
      → IsOver k.ops w → length w ≡ m.cols
      → InRowSpace R.ops m.cols (sequences_of k m.rows) (coeff_of R.ops (read k w)) → IsInRowSpace k.ops m w
  codes_of_space m w over wide w_in w_long h = record {
    coefficients = cs;
    one_each = length_codes_of (length m.rows) h.coefficient;
    over = cs_in;
    is = codes_ext w (row_product k.ops cs m) w_in (combination_over m.cols cs m.rows cs_in over)
        (w_long ∙ sym (length_combination m.cols cs m.rows wide)) (λ j l.
        h.is j (subst (λ n. j < n) w_long l)
        ∙ ap (λ s. s j) (combine_cong (sequences R) h.coefficient (coeff_of R.ops (read k cs)) (sequences_of k m.rows)
        (λ i a.
        sym (coeff_codes_of (length m.rows) h.coefficient i (subst (λ n. i < n) (length_sequences k m.rows) a))))
        ∙ sym (combination_is m.cols cs m.rows cs_in over j));
  }
    where
      cs : List ℕ
      cs = codes_of (length m.rows) h.coefficient

      cs_in : IsOver k.ops cs
      cs_in = IsOver_numbers k (cut (length m.rows) h.coefficient)

  pub row_look : (rows : List (List ℕ)) (i j : ℕ)
      → row R.ops (sequences_of k rows) i j ≡ coeff_of R.ops (read k (get_or rows i [])) j
  row_look [] i j = refl
  row_look (r ∷ rows) zero j = refl
  row_look (r ∷ rows) (suc i) j = row_look rows i j

  -- a row is in the row space
  pub own_row_codes : (m : MatrixValue) → All (IsOver k.ops) m.rows → All (λ r. length r ≡ m.cols) m.rows → (i : ℕ)
      → i < length m.rows
      → IsInRowSpace k.ops m (get_or m.rows i [])
  own_row_codes m over wide i l =
      codes_of_space m (get_or m.rows i []) over wide (All-get_or (IsOver k.ops) m.rows i [] l over)
      (All-get_or (λ r. length r ≡ m.cols) m.rows i [] l wide)
      (record { coefficient = h.coefficient; is = λ j a. sym (row_look m.rows i j) ∙ h.is j a })
    where
      h : InRowSpace R.ops m.cols (sequences_of k m.rows) (row R.ops (sequences_of k m.rows) i)
      h = own_row R m.cols (sequences_of k m.rows) i (subst (λ n. i < n) (sym (length_sequences k m.rows)) l)

  -- the row spaces of matrices of one width
  pub same_space_within : (m m' : MatrixValue) → m.cols ≡ m'.cols → IsMatrixOver k.ops m → IsMatrixOver k.ops m'
      → All (λ r. length r ≡ m.cols) m.rows
      → All (λ r. length r ≡ m'.cols) m'.rows → HaveSameSpace k m.cols m.rows m'.rows → (w : List ℕ)
      → IsInRowSpace k.ops m w → IsInRowSpace k.ops m' w
  same_space_within m m' e over over' wide wide' same w h =
      codes_of_space m' w over'.each wide' (rw h.is (combination_over m.cols h.coefficients m.rows h.over over.each))
      (ap length h.is ∙ length_combination m.cols h.coefficients m.rows wide ∙ e)
      (subst (λ n. InRowSpace R.ops n (sequences_of k m'.rows) (coeff_of R.ops (read k w))) e
      (same_row_space R m.cols (sequences_of k m.rows) (sequences_of k m'.rows) same (coeff_of R.ops (read k w))
      (space_of_codes m w over.each h)))
