-- Lists as sets: whether an element stands in one, and whether none stands twice.
use Rattle.std.specs.Prelude.{◌≡◌, ◌⊎◌, List, [], ◌∷◌, ℕ, zero, suc, ◌<◌}
use Rattle.std.proofs.Math.Nat.{le_of_suc-le}

-- x stands in the list
abbrev pub In : {A : Type 0} → A → List A → Type 0
In x [] = ⊥
In x (y ∷ ys) = (x ≡ y) ⊎ In x ys

-- no element stands twice
abbrev pub IsDistinct : {A : Type 0} → List A → Type 0
IsDistinct [] = Unit {0}
IsDistinct (y ∷ ys) = (In y ys → ⊥) × IsDistinct ys

-- the codes from 1 to n, of those below q

abbrev pub codes_to : (q n : ℕ) → n < q → List ((c : ℕ) × (c < q))
codes_to q zero less = []
codes_to q (suc n) less = (suc n, less) ∷ codes_to q n (le_of_suc-le less)
