-- Steps of the loops that transpose a matrix and read a column, and codes of the transposed matrix.
use Rattle.std.proofs.Common.{◌≡◌, ℕ, ◌+◌, ◌<◌, List, [], ◌∷◌, ◌++◌, length, get_or, set, replicate, refl, sym, ap, ◌∙◌, subst, arith}
use native.Mathlib.Decide.{ℕ_discrete}
use Rattle.std.proofs.lemmas.List.{length-set, length-replicate, length-append, get_or-set_same, get_or-set_other, get_or_append_left}
use Rattle.std.proofs.lemmas.List.Elements.{All-set, All-replicate, All-from_get_or}
use Rattle.std.specs.Prelude.{All}
use Rattle.std.proofs.Math.Seq.{get_or-append_seam}
use Rattle.ff_fields.specs.Field.{CodeField}
use Rattle.ff_fields.specs.Over.{IsOver}
use Rattle.ff_linalg.specs.Matrix.{MatrixValue, IsMatrixOver, HasShape, zero_matrix, with_entry, entry_of, matrix_row}
use Rattle.ff_linalg.specs.Relations.{IsColumnWritten, IsTransposedBelow, IsTransposed, IsColumnStart}
use Rattle.ff_linalg.proofs.Reading.{entry_in}

-- a column is written, one code after another
pub column_begin : (m : MatrixValue) (c : ℕ) (codes : List ℕ) → HasShape m (length m.rows) m.cols
    → IsColumnWritten m c codes 0 m
column_begin m c codes shape = record { shape = shape; here = λ j l. absurd (omega arith); others = λ j i ne. refl }

pub column_step : (old now : MatrixValue) (c j x : ℕ) (codes : List ℕ) → c < old.cols → j < length old.rows
    → x ≡ get_or codes j 0
    → IsColumnWritten old c codes j now → IsColumnWritten old c codes (j + 1) (with_entry now j c x)
column_step old now c j x codes c_in j_in x_is h = record {
  shape = record {
    row_count = length-set now.rows j new ∙ h.shape.row_count;
    col_count = h.shape.col_count;
    each = All-set (λ r. length r ≡ old.cols) now.rows j new (length-set row c x ∙ wide) h.shape.each;
  };
  here = λ l m. written l m (ℕ_discrete l j);
  others = λ l i ne. other l i ne (ℕ_discrete l j);
}
  where
    row : List ℕ
    row = get_or now.rows j []

    new : List ℕ
    new = set row c x

    within : j < length now.rows
    within = omega (arith, h.shape.row_count)

    wide : length row ≡ old.cols
    wide = h.shape.each j [] within

    here_row : get_or (set now.rows j new) j [] ≡ new
    here_row = get_or-set_same now.rows j new [] within

    written : (l : ℕ) → l < j + 1 → Dec (l ≡ j) → get_or (get_or (set now.rows j new) l []) c 0 ≡ get_or codes l 0
    written l m (yes e) =
        ap (λ n. get_or (get_or (set now.rows j new) n []) c 0) e ∙ ap (λ r. get_or r c 0) here_row
        ∙ get_or-set_same row c x 0 (omega (arith, wide)) ∙ x_is ∙ ap (λ n. get_or codes n 0) (sym e)
    written l m (no ne) = ap (λ r. get_or r c 0) (get_or-set_other now.rows j l new [] ne) ∙ h.here l (omega arith)

    other : (l i : ℕ) → ¬ (i ≡ c) → Dec (l ≡ j)
        → get_or (get_or (set now.rows j new) l []) i 0 ≡ get_or (get_or old.rows l []) i 0
    other l i ne (yes e) =
        ap (λ n. get_or (get_or (set now.rows j new) n []) i 0) e ∙ ap (λ r. get_or r i 0) here_row
        ∙ get_or-set_other row c i x 0 ne ∙ ap (λ n. get_or (get_or now.rows n []) i 0) (sym e) ∙ h.others l i ne
    other l i ne (no f) = ap (λ r. get_or r i 0) (get_or-set_other now.rows j l new [] f) ∙ h.others l i ne

-- the rows are written as columns, one after another
pub transposed_begin : (a : MatrixValue) (rows cols : ℕ) → rows ≡ length a.rows → cols ≡ a.cols
    → IsTransposedBelow a 0 (zero_matrix cols rows)
transposed_begin a rows cols rows_is cols_is = record {
  shape = record {
    row_count = length-replicate cols (replicate rows 0) ∙ cols_is;
    col_count = rows_is;
    each = All-replicate (λ r. length r ≡ length a.rows) cols (replicate rows 0) (length-replicate rows 0 ∙ rows_is);
  };
  entries = λ i j l. absurd (omega arith);
}

pub transposed_step : (a now new : MatrixValue) (i : ℕ) (codes : List ℕ) → HasShape a (length a.rows) a.cols
    → i < length a.rows → codes ≡ matrix_row a i
    → IsColumnWritten now i codes (length codes) new → IsTransposedBelow a i now → IsTransposedBelow a (i + 1) new
transposed_step a now new i codes shape within codes_is w h = record {
  shape = record {
    row_count = w.shape.row_count ∙ h.shape.row_count;
    col_count = w.shape.col_count ∙ h.shape.col_count;
    each = subst (λ n. All (λ r. length r ≡ n) new.rows) h.shape.col_count w.shape.each;
  };
  entries = λ l j m j_in. go l j m j_in (ℕ_discrete l i);
}
  where
    long : length codes ≡ a.cols
    long = ap length codes_is ∙ shape.each i [] within

    go : (l j : ℕ) → l < i + 1 → j < a.cols → Dec (l ≡ i) → entry_of new j l ≡ entry_of a l j
    go l j m j_in (yes e) =
        ap (entry_of new j) e ∙ w.here j (omega (arith, long)) ∙ ap (λ r. get_or r j 0) codes_is
        ∙ ap (λ n. entry_of a n j) (sym e)
    go l j m j_in (no ne) = w.others j l ne ∙ h.entries l j (omega arith) j_in

pub transposed_over : (k : CodeField) (a t : MatrixValue) → IsTransposed a t → IsMatrixOver k.ops a
    → IsMatrixOver k.ops t
transposed_over k a t h over = record {
  each = All-from_get_or (IsOver k.ops) t.rows [] (λ j l. record {
    each = All-from_get_or (λ c. c < k.size) (matrix_row t j) 0 (λ i m.
        subst (λ x. x < k.size)
        (sym (h.entries i j (omega (arith, m, h.shape.each j [] l)) (omega (arith, l, h.shape.row_count))))
        (entry_in k a.rows i j over.each));
  });
}

-- a column is read, one entry after another
pub column_start_step : (m : MatrixValue) (c i x : ℕ) (out new : List ℕ) → x ≡ entry_of m i c → new ≡ out ++ x ∷ []
    → IsColumnStart m c i out
    → IsColumnStart m c (i + 1) new
column_start_step m c i x out new x_is new_is h = record {
  size = ap length new_is ∙ length-append out (x ∷ []) ∙ ap (λ n. n + 1) h.size;
  entries = λ l m. ap (λ xs. get_or xs l 0) new_is ∙ go l m (ℕ_discrete l i);
}
  where
    go : (l : ℕ) → l < i + 1 → Dec (l ≡ i) → get_or (out ++ x ∷ []) l 0 ≡ entry_of m l c
    go l b (yes e) =
        ap (λ n. get_or (out ++ x ∷ []) n 0) (e ∙ sym h.size) ∙ get_or-append_seam out x [] 0 ∙ x_is
        ∙ ap (λ n. entry_of m n c) (sym e)
    go l b (no ne) = get_or_append_left out (x ∷ []) 0 l (omega (arith, h.size)) ∙ h.entries l (omega arith)
