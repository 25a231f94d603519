-- Rows are written with unit rows on their right.
use Rattle.std.proofs.Common.{◌≡◌, ℕ, ◌+◌, ◌-◌, ◌*◌, ◌<◌, ◌≤◌, List, [], ◌++◌, length, get_or, take, drop, replicate, set, sym, ◌∙◌, ap, ap₂, subst, arith}
use native.Mathlib.Decide.{ℕ_discrete}
use Rattle.std.proofs.lemmas.List.{length-replicate, length-append, length-set, drop-replicate, get_or-replicate, get_or-set_same, get_or-set_other}
use Rattle.std.proofs.lemmas.List.Elements.{All-get_or, All-set, All-from_get_or}
use Rattle.std.specs.Prelude.{All}
use borrow.Rule.Slice.PartMut.{put_mid}
use Rattle.ff_fields.specs.Field.{CodeField}
use Rattle.ff_fields.specs.Over.{IsOver, IsOver_append, IsOver_zeros}
use Rattle.ff_linalg.specs.Matrix.{rows_in}
use Rattle.ff_linalg.specs.Steps.{unit_row, IsBesideUnit}
use Rattle.ff_linalg.proofs.Flat.{row_span, length_rows_in, rows_in_wide, rows_in_get, rows_in_put, rows_in_zeros}

-- after the rows before i
pub record WrittenBelow (n cols i : ℕ) (entries whole : List ℕ) : Type 0 where
  pub done : (l : ℕ) → l < i → get_or (rows_in (cols + n) n whole) l []
      ≡ get_or (rows_in cols n entries) l [] ++ unit_row n l
  pub rest : (l : ℕ) → i ≤ l → l < n → get_or (rows_in (cols + n) n whole) l [] ≡ replicate (cols + n) 0

pub written_start : (n cols : ℕ) (entries whole : List ℕ) → whole ≡ replicate (n * (cols + n)) 0
    → WrittenBelow n cols 0 entries whole
written_start n cols entries whole zeros = record {
  done = λ l m. absurd (omega arith);
  rest = λ l a m.
      ap (λ xs. get_or (rows_in (cols + n) n xs) l []) zeros
      ∙ ap (λ rows. get_or rows l []) (rows_in_zeros (cols + n) n)
      ∙ get_or-replicate n l (replicate (cols + n) 0) [] m;
}

pub written_step : (n cols i : ℕ) (entries whole source row new : List ℕ) → length entries ≡ n * cols
    → length whole ≡ n * (cols + n) → i < n
    → source ≡ take (i * cols + cols - i * cols) (drop (i * cols) entries)
    → row ≡ take (i * (cols + n) + (cols + n) - i * (cols + n)) (drop (i * (cols + n)) whole)
    → new ≡ source ++ set (drop (length source) row) i 1
    → WrittenBelow n cols i entries whole
    → WrittenBelow n cols (i + 1) entries
    (put_mid (i * (cols + n)) (i * (cols + n) + (cols + n) - i * (cols + n)) whole new)
written_step n cols i entries whole source row new shape long within source_is row_is new_is before = record {
  done = λ l m. go l m (ℕ_discrete l i);
  rest = λ l a m.
      ap (λ rows. get_or rows l []) put ∙ get_or-set_other (rows_in w n whole) i l new [] (λ e. omega arith)
      ∙ before.rest l (omega arith) m;
}
  where
    w : ℕ
    w = cols + n

    left : List ℕ
    left = get_or (rows_in cols n entries) i []

    source_row : source ≡ left
    source_row = source_is ∙ ap (λ m. take m (drop (i * cols) entries)) (row_span (i * cols) cols)
        ∙ sym (rows_in_get cols n i entries shape within)

    source_length : length source ≡ cols
    source_length =
        ap length source_row ∙ All-get_or (λ r. length r ≡ cols) (rows_in cols n entries) i []
        (omega (arith, within, length_rows_in cols n entries)) (rows_in_wide cols n entries shape)

    old : row ≡ replicate w 0
    old =
        row_is ∙ ap (λ m. take m (drop (i * w) whole)) (row_span (i * w) w) ∙ sym (rows_in_get w n i whole long within)
        ∙ before.rest i (omega arith) within

    new_row : new ≡ left ++ unit_row n i
    new_row =
        new_is ∙ ap₂ (λ x m. x ++ set (drop m row) i 1) source_row source_length
        ∙ ap (λ r. left ++ set (drop cols r) i 1) old
        ∙ ap (λ r. left ++ set r i 1) (drop-replicate cols w 0
        ∙ ap (λ m. replicate m 0) (let e : w - cols ≡ n = omega arith in e))

    new_length : length new ≡ w
    new_length =
        ap length new_row ∙ length-append left (unit_row n i)
        ∙ ap₂ (λ x y. x + y) (sym (ap length source_row) ∙ source_length)
        (length-set (replicate n 0) i 1 ∙ length-replicate {A = ℕ} n 0)

    put : rows_in w n (put_mid (i * w) (i * w + w - i * w) whole new) ≡ set (rows_in w n whole) i new
    put = ap (λ m. rows_in w n (put_mid (i * w) m whole new)) (row_span (i * w) w)
        ∙ rows_in_put w n i whole long within new new_length

    go : (l : ℕ) → l < i + 1 → Dec (l ≡ i)
        → get_or (rows_in w n (put_mid (i * w) (i * w + w - i * w) whole new)) l []
        ≡ get_or (rows_in cols n entries) l [] ++ unit_row n l
    go l m (yes e) =
        ap (λ rows. get_or rows l []) put ∙ ap (λ j. get_or (set (rows_in w n whole) i new) j []) e
        ∙ get_or-set_same (rows_in w n whole) i new [] (omega (arith, within, length_rows_in w n whole)) ∙ new_row
        ∙ ap (λ j. get_or (rows_in cols n entries) j [] ++ unit_row n j) (sym e)
    go l m (no ne) = ap (λ rows. get_or rows l []) put ∙ get_or-set_other (rows_in w n whole) i l new [] ne
        ∙ before.done l (omega arith)

-- what is written are codes
module _ (k : CodeField) where
  over_set : (xs : List ℕ) (i v : ℕ) → v < k.size → IsOver k.ops xs → IsOver k.ops (set xs i v)
  over_set xs i v v_in over = record { each = All-set (λ c. c < k.size) xs i v v_in over.each }

  pub beside_over : (n : ℕ) (rows whole : List (List ℕ)) → length rows ≡ n → length whole ≡ n
      → IsBesideUnit n rows whole → All (IsOver k.ops) rows → All (IsOver k.ops) whole
  beside_over n rows whole e f beside over =
      All-from_get_or (IsOver k.ops) whole [] (λ l l_in.
      subst (IsOver k.ops) (sym (beside l (omega (arith, l_in))))
      (IsOver_append (All-get_or (IsOver k.ops) rows l [] (omega (arith, l_in)) over)
      (over_set (replicate n 0) l 1 k.laws.one_below (IsOver_zeros k n))))
