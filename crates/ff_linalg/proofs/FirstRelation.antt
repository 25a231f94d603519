-- The first relation of the rows of a matrix, read off the reduced form of the transposed matrix.
use Rattle.std.proofs.Common.{◌≡◌, ℕ, ◌<◌, ◌≤◌, List, [], length, get_or, take, sym, ◌∙◌, ap, subst, arith, ◌↔◌}
use Rattle.std.proofs.lemmas.List.{length-take-le, get_or-take}
use Rattle.std.proofs.lemmas.List.Elements.{All-take, All-from_get_or}
use Rattle.ff_fields.specs.Field.{CodeField}
use Rattle.ff_fields.specs.Code.{Code, code_ring, read_code}
use Rattle.ff_fields.specs.Numbers.{read}
use Rattle.ff_fields.specs.Over.{IsOver}
use Rattle.ring_lemmas.specs.Lists.{coeff_of}
use Rattle.ring_lemmas.specs.Ring.{CommRing}
use Rattle.ring_lemmas.proofs.Sums.{below_cong}
use Rattle.linear_theory.specs.Echelon.{row}
use Rattle.ff_linalg.specs.Matrix.{MatrixValue, IsMatrixOver, HasShape, first_rows_of, matrix_row, entry_of}
use Rattle.ff_linalg.specs.Forms.{sequences_of, IsReducedBelow}
use Rattle.ff_linalg.specs.Space.{row_product, IsInRowSpace, IsReducedForm, IsSolution, HasIndependentStart, IsFirstRelation}
use Rattle.ff_linalg.specs.Relations.{IsTransposed, IsDiagonalStart, IsColumnStart}
use Rattle.ff_linalg.proofs.Reading.{read_one, read_same, coeff_read, row_entry, length_sequences, entry_in}
use Rattle.ff_linalg.proofs.Bridge.{codes_of_form, combination_over, length_combination, combination_is, codes_ext, row_look}
use Rattle.ff_linalg.proofs.Beside.{domain_of_codes}
use Rattle.ff_linalg.proofs.Unique.{rows_within}
use Rattle.ff_linalg.proofs.Columns.{dot, IsCombinedAt, combined_in_space, combine_column}
use Rattle.ff_linalg.proofs.Diagonal.{independent_columns, dependent_column}

-- solutions for a row by the rows before it are relations among the columns of the transposed matrix
module _ (k : CodeField) (a t : MatrixValue) (shape : HasShape a (length a.rows) a.cols) (a_in : IsMatrixOver k.ops a)
    (T : IsTransposed a t) where
  abbrev R : CommRing (Code k)
  R = (code_ring k).ring

  column_entry : (i j : ℕ) → i < length a.rows → j < a.cols
      → row R.ops (sequences_of k a.rows) i j ≡ row R.ops (sequences_of k t.rows) j i
  column_entry i j l m = row_entry k a.rows i j ∙ ap (read_code k) (sym (T.entries i j l m))
      ∙ sym (row_entry k t.rows j i)

  start_entry : (r i j : ℕ) → i < r → row R.ops (sequences_of k (take r a.rows)) i j
      ≡ row R.ops (sequences_of k a.rows) i j
  start_entry r i j l =
      row_entry k (take r a.rows) i j ∙ ap (λ x. read_code k (get_or x j 0)) (get_or-take r a.rows i [] l)
      ∙ sym (row_entry k a.rows i j)

  start_column : (r : ℕ) → r ≤ length a.rows → (v : List ℕ) → IsOver k.ops v → (j : ℕ) → j < a.cols
      → coeff_of R.ops (read k (row_product k.ops v (first_rows_of a r))) j
      ≡ dot R r (coeff_of R.ops (read k v)) (row R.ops (sequences_of k t.rows) j)
  start_column r within v v_in j m =
      combination_is k a.cols v (take r a.rows) v_in (All-take (IsOver k.ops) r a.rows a_in.each) j
      ∙ combine_column R c (sequences_of k (take r a.rows)) j
      ∙ ap (λ n. dot R n c (λ i. row R.ops (sequences_of k (take r a.rows)) i j))
      (length_sequences k (take r a.rows) ∙ length-take-le r a.rows within)
      ∙ below_cong R r (λ i. R.◌⊗◌ (c i) (row R.ops (sequences_of k (take r a.rows)) i j))
      (λ i. R.◌⊗◌ (c i) (row R.ops (sequences_of k t.rows) j i))
      (λ i l. ap (R.◌⊗◌ (c i)) (start_entry r i j l ∙ column_entry i j (omega arith) m))
    where
      c : ℕ → Code k
      c = coeff_of R.ops (read k v)

  here : (r j : ℕ) → r < length a.rows → j < a.cols
      → coeff_of R.ops (read k (matrix_row a r)) j ≡ row R.ops (sequences_of k t.rows) j r
  here r j l m = sym (row_look k a.rows r j) ∙ column_entry r j l m

  columns_of_solution : (r : ℕ) → r < length a.rows → (v : List ℕ)
      → IsSolution k.ops (first_rows_of a r) (matrix_row a r) v
      → (j : ℕ) → j < length (sequences_of k t.rows)
      → IsCombinedAt R r (coeff_of R.ops (read k v)) (row R.ops (sequences_of k t.rows) j)
  columns_of_solution r within v h j l =
      let m : j < a.cols = omega (arith, l, length_sequences k t.rows, T.shape.row_count) in
      sym (here r j within m) ∙ ap (λ xs. coeff_of R.ops (read k xs) j) (sym h.product)
      ∙ start_column r (omega arith) v h.over j m

  solution_of_columns : (r : ℕ) → r < length a.rows → (v : List ℕ) → length v ≡ r → IsOver k.ops v
      → ((j : ℕ) → j < length (sequences_of k t.rows)
      → IsCombinedAt R r (coeff_of R.ops (read k v)) (row R.ops (sequences_of k t.rows) j))
      → IsSolution k.ops (first_rows_of a r) (matrix_row a r) v
  solution_of_columns r within v long v_in h = record {
    one_each = long ∙ sym (length-take-le r a.rows (omega arith));
    over = v_in;
    product = codes_ext k (row_product k.ops v (first_rows_of a r)) (matrix_row a r)
        (combination_over k a.cols v (take r a.rows) v_in (All-take (IsOver k.ops) r a.rows a_in.each))
        (a_in.each r [] within)
        (wide ∙ sym (shape.each r [] within)) (λ j l.
        let m : j < a.cols = omega (arith, l, wide) in
        start_column r (omega arith) v v_in j m
        ∙ sym (h j (omega (arith, m, length_sequences k t.rows, T.shape.row_count))) ∙ sym (here r j within m));
  }
    where
      wide : length (row_product k.ops v (first_rows_of a r)) ≡ a.cols
      wide = length_combination k a.cols v (take r a.rows) (All-take (λ x. length x ≡ a.cols) r a.rows shape.each)

  -- the reduced form has the same relations among its columns
  module _ (m : MatrixValue) (rank count : ℕ) (t_in : IsMatrixOver k.ops t)
      (m_shape : HasShape m (length t.rows) t.cols) (m_in : IsMatrixOver k.ops m)
      (reduced : IsReducedForm k.ops m rank) (same : (v : List ℕ) → IsInRowSpace k.ops m v ↔ IsInRowSpace k.ops t v)
      (d : IsDiagonalStart m count) where
    abbrev F : List (ℕ → Code k)
    F = sequences_of k m.rows

    r : IsReducedBelow k m.cols m.rows rank
    r = codes_of_form k m rank reduced

    width : m.cols ≡ length a.rows
    width = m_shape.col_count ∙ T.shape.col_count

    within_rows : count ≤ length F
    within_rows = let l = d.within_rows in omega (arith, length_sequences k m.rows)

    ones : (i : ℕ) → i < count → row R.ops F i i ≡ R.𝟙
    ones i l = row_entry k m.rows i i ∙ ap (read_code k) (d.ones i l) ∙ read_one k

    ends : count < length a.rows → count < length F → ¬ (row R.ops F count count ≡ R.𝟙)
    ends l b e =
        d.ends (omega (arith, b, length_sequences k m.rows)) (omega (arith, l, width))
        (read_same k (entry_of m count count) 1 (entry_in k m.rows count count m_in.each) k.laws.one_below
        (sym (row_entry k m.rows count count) ∙ e ∙ sym (read_one k)))

    to_form : (i : ℕ) (v : ℕ → Code k) → i < length a.rows
        → ((j : ℕ) → j < length (sequences_of k t.rows) → IsCombinedAt R i v (row R.ops (sequences_of k t.rows) j))
        → (l : ℕ) → l < length F → IsCombinedAt R i v (row R.ops F l)
    to_form i v within h l b =
        combined_in_space R m.cols i v (sequences_of k t.rows) (omega (arith, within, width)) h (row R.ops F l)
        (rows_within k m t m_shape.col_count m_in t_in (λ j e b. m_shape.each j e b ∙ sym m_shape.col_count)
        (λ w. (same w).0) l b)

    of_form : (i : ℕ) (v : ℕ → Code k) → i < length a.rows
        → ((l : ℕ) → l < length F → IsCombinedAt R i v (row R.ops F l))
        → (j : ℕ) → j < length (sequences_of k t.rows) → IsCombinedAt R i v (row R.ops (sequences_of k t.rows) j)
    of_form i v within h j b =
        combined_in_space R t.cols i v F (omega (arith, within, width, m_shape.col_count)) h
        (row R.ops (sequences_of k t.rows) j)
        (rows_within k t m (sym m_shape.col_count) t_in m_in (λ l e b. T.shape.each l e b ∙ sym T.shape.col_count)
        (λ w. (same w).1) j b)

    pub independent_start : HasIndependentStart k.ops a count
    independent_start i l v h =
        independent_columns (domain_of_codes k) m.cols F r.form count within_rows d.within_cols ones i
        (coeff_of R.ops (read k v)) l
        (to_form i (coeff_of R.ops (read k v)) within (columns_of_solution i within v h))
      where
        within : i < length a.rows
        within = let b = d.within_cols in omega (arith, l, width)

    pub first_relation : (v : List ℕ) → IsColumnStart m count count v → count < length a.rows
        → IsFirstRelation k.ops a v
    first_relation v s within =
        record {
          within = omega (arith, within, s.size);
          relation = subst (λ n. IsSolution k.ops (first_rows_of a n) (matrix_row a n) v) (sym s.size)
              (solution_of_columns count within v s.size v_in
              (of_form count (coeff_of R.ops (read k v)) within
              (dependent_column (domain_of_codes k) m.cols F r.form count within_rows d.within_cols ones
              (omega (arith, within, width)) (ends within)
              (coeff_of R.ops (read k v))
              (λ i l. coeff_read k v i ∙ ap (read_code k) (s.entries i l) ∙ sym (row_entry k m.rows i count)))));
          earlier = subst (HasIndependentStart k.ops a) (sym s.size) independent_start;
        }
      where
        v_in : IsOver k.ops v
        v_in = record {
          each = All-from_get_or (λ c. c < k.size) v 0 (λ i l.
              subst (λ x. x < k.size) (sym (s.entries i (omega (arith, l, s.size))))
              (entry_in k m.rows i count m_in.each));
        }
