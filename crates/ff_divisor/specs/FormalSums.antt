-- Formal sums of places: lists of a place number and an integer.
use Rattle.std.specs.Prelude.{◌≢◌, ℕ, ◌<◌, ◌==◌, if◌then◌else◌, ℤ, pos, ◌+ℤ◌, List, [], ◌∷◌}
use Rattle.std.specs.List.{All, AllPairs}

-- the one form of a formal sum: place numbers strictly ascend, and no integer is 0
pub record IsFormalSum (es : List (ℕ × ℤ)) : Type 0 where
  pub ascending : AllPairs (λ e f. e.0 < f.0) es
  pub nonzero : All (λ e. e.1 ≢ pos 0) es

-- the multiplicity at place p: the sum of the integers that stand with p
abbrev pub multiplicity : ℕ → List (ℕ × ℤ) → ℤ
multiplicity p [] = pos 0
multiplicity p (e ∷ es) = (if e.0 == p then e.1 else pos 0) +ℤ multiplicity p es
