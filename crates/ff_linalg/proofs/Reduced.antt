-- What the reduction of a buffer says of the matrix that contracts see.
use Rattle.std.proofs.Common.{◌≡◌, ℕ, ◌*◌, List, length, refl, sym, subst, ◌↔◌}
use Rattle.ff_fields.specs.Field.{CodeField}
use Rattle.ff_fields.specs.Over.{IsOver}
use Rattle.ff_linalg.specs.Matrix.{MatrixValue, rows_in, IsMatrixOver, HasShape}
use Rattle.ff_linalg.specs.Forms.{HaveSameSpace}
use Rattle.ff_linalg.specs.Space.{IsInRowSpace}
use Rattle.ff_linalg.proofs.Flat.{rows_in_wide, rows_in_over, length_rows_in, over_from_rows}
use Rattle.ff_linalg.proofs.Views.{view_of, view_length, view_cols}
use Rattle.ff_linalg.proofs.Bridge.{same_space_within}

pub shape_of : (cols rows : ℕ) (xs : List ℕ) → length xs ≡ rows * cols → HasShape (view_of cols rows xs) rows cols
shape_of cols rows xs long = record {
  row_count = length_rows_in cols rows xs;
  col_count = refl;
  each = rows_in_wide
      cols rows xs long;
}

module _ (k : CodeField) (cols rows : ℕ) (xs : List ℕ) (m : MatrixValue) (view_is : view_of cols rows xs ≡ m)
    (over : IsMatrixOver k.ops m) where
  pub view_over : IsMatrixOver k.ops (view_of cols rows xs)
  view_over = subst (IsMatrixOver k.ops) (sym view_is) over

  pub entries_over : length xs ≡ rows * cols → IsOver k.ops xs
  entries_over long = over_from_rows k.ops cols rows xs long view_over.each

module _ (k : CodeField) (cols rows : ℕ) (old new : List ℕ) (m : MatrixValue) (view_is : view_of cols rows old ≡ m)
    (over : IsMatrixOver k.ops m)
    (old_long : length old ≡ rows * cols) (new_long : length new ≡ rows * cols) (new_over : IsOver k.ops new) where
  pub reduced_shape : HasShape (view_of cols rows new) (length m.rows) m.cols
  reduced_shape = rw (← view_length cols rows old m view_is, ← view_cols cols rows old m view_is)
      (shape_of cols rows new new_long)

  pub reduced_over : IsMatrixOver k.ops (view_of cols rows new)
  reduced_over = record { each = rows_in_over k.ops cols rows new new_over }

  pub reduced_space : HaveSameSpace k cols (rows_in cols rows new) (rows_in cols rows old)
      → (w : List ℕ) → IsInRowSpace k.ops (view_of cols rows new) w ↔ IsInRowSpace k.ops m w
  reduced_space same w = (
    λ h. subst (λ v. IsInRowSpace k.ops v w) view_is
        (same_space_within k (view_of cols rows new) (view_of cols rows old) refl reduced_over
        (view_over k cols rows old m view_is over)
        (rows_in_wide cols rows new new_long) (rows_in_wide cols rows old old_long) same w h),
    λ h.
        same_space_within k (view_of cols rows old) (view_of cols rows new) refl
        (view_over k cols rows old m view_is over) reduced_over
        (rows_in_wide cols rows old old_long) (rows_in_wide cols rows new new_long)
        (record { first_in = same.second_in; second_in = same.first_in }) w
        (subst (λ v. IsInRowSpace k.ops v w) (sym view_is) h),
  )

pub view_shape : (cols rows : ℕ) (xs : List ℕ) (m : MatrixValue) → view_of cols rows xs ≡ m → length xs ≡ rows * cols
    → HasShape m (length m.rows) m.cols
view_shape cols rows xs m view_is long =
    subst (λ v. HasShape v (length v.rows) v.cols) view_is
    (record { row_count = refl; col_count = refl; each = rows_in_wide cols rows xs long })
