-- Lists of rows with the same rows.
use Rattle.std.proofs.Common.{◌≡◌, ℕ, suc, ◌<◌, List, [], ◌∷◌, length, refl, ap₂, arith}
use Rattle.ff_poly.specs.Popov.{row_at}

pub same_lists : (xs ys : List (List (List ℕ))) → length xs ≡ length ys
    → ((j : ℕ) → j < length xs → row_at xs j ≡ row_at ys j) → xs ≡ ys
same_lists [] [] size h = refl
same_lists [] (y ∷ ys) size h = absurd (omega (arith, size))
same_lists (x ∷ xs) [] size h = absurd (omega (arith, size))
same_lists (x ∷ xs) (y ∷ ys) size h = ap₂ ◌∷◌ (h 0 (omega arith))
    (same_lists xs ys (omega (arith, size)) (λ j less. h (suc j) (omega (arith, less))))
