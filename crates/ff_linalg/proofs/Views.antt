-- What the fields of a matrix say of what contracts see.
use Rattle.std.proofs.Common.{◌≡◌, ℕ, ◌-◌, List, [], ◌++◌, length, take, replicate, sym, ap, ap₂, ◌∙◌, arith}
use Rattle.std.proofs.lemmas.List.{take_all}
use Rattle.ff_linalg.specs.Matrix.{MatrixValue, rows_in}
use Rattle.ff_linalg.proofs.Flat.{length_rows_in}

-- what contracts see of these fields
abbrev pub view_of : ℕ → ℕ → List ℕ → MatrixValue
view_of cols rows xs = record { cols = cols; rows = rows_in cols rows xs }

pub view_length : (cols rows : ℕ) (xs : List ℕ) (m : MatrixValue) → view_of cols rows xs ≡ m → rows ≡ length m.rows
view_length cols rows xs m e = sym (length_rows_in cols rows xs) ∙ ap (λ v. length v.rows) e

pub view_cols : (cols rows : ℕ) (xs : List ℕ) (m : MatrixValue) → view_of cols rows xs ≡ m → cols ≡ m.cols
view_cols cols rows xs m e = ap (λ v. v.cols) e

-- an empty vector that was made longer
pub resized_zeros : (items old : List ℕ) (count n : ℕ) → items ≡ take count old ++ replicate (count - n) 0 → old ≡ []
    → n ≡ 0 → items ≡ replicate count 0
resized_zeros items old count n items_is none empty =
    items_is ∙ ap₂ (λ xs m. take count xs ++ replicate m 0) none (let e : count - n ≡ count = omega (arith, empty) in e)
    ∙ ap (λ xs. xs ++ replicate count 0) (take_all count [] (omega arith))
