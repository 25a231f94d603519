-- What stays over the field: matrices as they are made, entry by entry.
use Rattle.std.specs.Prelude.{ℕ, zero, suc, ◌<◌, List, [], ◌∷◌, All, slice_index_or, slice_set, replicate}
use Rattle.std.proofs.lemmas.List.Elements.{All-set, All-replicate, All-head, All-tail}
use Rattle.ff_fields.specs.Field.{CodeField}
use Rattle.ff_fields.specs.Over.{IsOver, IsOver_nil, IsOver_zeros}
use Rattle.ff_linalg.specs.Matrix.{MatrixValue, IsMatrixOver, zero_matrix, with_entry}

module _ (k : CodeField) where
  pub row_over : (rows : List (List ℕ)) (r : ℕ) → All (IsOver k.ops) rows → IsOver k.ops (slice_index_or rows r [])
  row_over [] r over = IsOver_nil
  row_over (x ∷ rows) zero over = All-head (IsOver k.ops) x rows over
  row_over (x ∷ rows) (suc r) over = row_over rows r (All-tail (IsOver k.ops) x rows over)

  pub zero_matrix_over : (rows cols : ℕ) → IsMatrixOver k.ops (zero_matrix rows cols)
  zero_matrix_over rows cols = record {
    each = All-replicate (IsOver k.ops) rows (replicate cols 0)
        (IsOver_zeros k cols);
  }

  pub with_entry_over : (m : MatrixValue) (r c v : ℕ) → IsMatrixOver k.ops m → v < k.size
      → IsMatrixOver k.ops (with_entry m r c v)
  with_entry_over m r c v over v_in =
      let row = row_over m.rows r over.each in
      record {
        each = All-set (IsOver k.ops) m.rows r (slice_set (slice_index_or m.rows r []) c v)
            (record { each = All-set (λ x. x < k.size) (slice_index_or m.rows r []) c v v_in row.each }) over.each;
      }
