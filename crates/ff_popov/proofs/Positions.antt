-- The position of the pivot of a row, which falls with each simple transformation.
use Rattle.std.proofs.Common.{◌≡◌, ℕ, zero, suc, ◌+◌, ◌-◌, ◌*◌, ◌<◌, ◌≤◌, ◌⊎◌, inl, inr, List, [], ◌∷◌, length, arith, add-mul}
use Rattle.std.specs.Prelude.{All}
use Rattle.std.proofs.Math.Nat.{le-max_left, le-max_right, max-le}
use Rattle.std.proofs.lemmas.Nat.{mul-le}
use Rattle.std.proofs.lemmas.Bool.{cases_lt}
use Rattle.std.proofs.lemmas.List.Sums.{sum_by-cons}
use Rattle.ff_fields.specs.Field.{FieldOps}
use Rattle.ff_poly.specs.Popov.{entry_at, IsRow, IsPivot, longest, row_degree_bound}
use Rattle.ff_popov.specs.Rows.{IsCleared, position_from, position, total_position}
use Rattle.ff_popov.proofs.Pivots.{pivot_below}

pub times_le : (a b w : ℕ) → a ≤ b → a * w ≤ b * w
times_le a b w le = mul-le a w b w le (omega arith)

pub position_le : (w i m : ℕ) (row : List (List ℕ))
    → ((j : ℕ) → j < length row → length (entry_at row j) * w + suc (i + j) - w ≤ m) → position_from w i row ≤ m
position_le w i m [] h = omega arith
position_le w i m (a ∷ row) h =
    max-le (omega (arith, h 0 (omega arith)))
    (position_le w (suc i) m row (λ j less. omega (arith, h (suc j) (omega (arith, less)))))

pub position_ge : (w i j : ℕ) (row : List (List ℕ)) → j < length row
    → length (entry_at row j) * w + suc (i + j) - w ≤ position_from w i row
position_ge w i j [] less = absurd (omega (arith, less))
position_ge w i zero (a ∷ row) less = omega
    (arith, le-max_left (length a * w + suc i - w) (position_from w (suc i) row))
position_ge w i (suc j) (a ∷ row) less =
    omega (
      arith,
      position_ge w (suc i) j row (omega (arith, less)),
      le-max_right (length a * w + suc i - w)
          (position_from w (suc i) row),
    )

pub cleared_falls : (k : FieldOps) (w column : ℕ) (a b row : List (List ℕ)) → length a ≡ w → IsPivot a column
    → IsCleared k a b column row → position w row < position w a
cleared_falls k w column a b row size p cleared =
    let in_row : column < w = omega (arith, pivot_below a column p, size) in
    let top = length (entry_at a column) in
    let whole = times_le 1 top w p.some in
    omega (
      arith,
      position_ge w 0 column a (omega (arith, in_row, size)),
      position_le w 0 (top * w + column - w) row
          (λ j less. below j less (cases_lt j column)),
      whole,
    )
  where
    below : (j : ℕ) → j < length row → (j < column) ⊎ (column ≤ j)
        → length (entry_at row j) * w + suc (0 + j) - w ≤ length (entry_at a column) * w + column - w
    below j less (inl left) = omega (
      arith,
      times_le (length (entry_at row j)) (length (entry_at a column)) w
          (cleared.left j left),
      left,
    )
    below j less (inr right) =
        omega (
          arith,
          times_le (suc (length (entry_at row j))) (length (entry_at a column)) w (cleared.right j right),
          add-mul (length (entry_at row j)) 1 w,
          less,
          cleared.is.size,
          size,
        )

longest_ge : (row : List (List ℕ)) (j : ℕ) → j < length row → length (entry_at row j) ≤ longest row
longest_ge [] j less = absurd (omega (arith, less))
longest_ge (a ∷ row) zero less = le-max_left (length a) (longest row)
longest_ge (a ∷ row) (suc j) less = omega
    (arith, longest_ge row j (omega (arith, less)), le-max_right (length a) (longest row))

position_bound : (w : ℕ) (row : List (List ℕ)) → length row ≡ w → position w row ≤ w * longest row
position_bound w row size =
    position_le w 0 (w * longest row) row (λ j less.
    omega (arith, times_le (length (entry_at row j)) (longest row) w (longest_ge row j less), less, size))

pub total_bound : (k : FieldOps) (w : ℕ) (rows : List (List (List ℕ))) → All (IsRow k w) rows
    → total_position w rows ≤ row_degree_bound w rows
total_bound k w [] all = omega arith
total_bound k w (row ∷ rows) all =
    omega (
      arith,
      sum_by-cons (position w) row rows,
      sum_by-cons (λ r. w * longest r) row rows,
      position_bound w row (all 0 [] (omega arith)).size,
      total_bound k w rows (λ i d less. all (suc i) d (omega (arith, less))),
    )
