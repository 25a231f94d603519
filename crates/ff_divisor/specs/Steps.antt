-- What the loops of the calls keep.
use Rattle.std.specs.Prelude.{◌≡◌, ℕ, zero, suc, ◌<◌, ◌≤◌, ◌*◌, ◌^◌, ℤ, pos, negsuc, ◌+ℤ◌, ◌*ℤ◌, unsigned_abs, List, [], ◌∷◌, ◌++◌, take, drop}
use Rattle.std.specs.List.{All}
use Rattle.ff_divisor.specs.FormalSums.{IsFormalSum, multiplicity}

-- m times place p as a formal sum: no entry where m is 0
abbrev pub entry_of : ℕ → ℤ → List (ℕ × ℤ)
entry_of p (pos zero) = []
entry_of p (pos (suc n)) = (p, pos (suc n)) ∷ []
entry_of p (negsuc n) = (p, negsuc n) ∷ []

-- the places of xs come before those of ys
abbrev pub Precede : List (ℕ × ℤ) → List (ℕ × ℤ) → Type 0
Precede xs ys = All (λ e. All (λ f. e.0 < f.0) ys) xs

-- of the first i entries of a list that is sorted by place: the sums of all places but the last, and the last place
-- with its sum, whose size has room in an i128
pub record IsRunAfter (sorted : List (ℕ × ℤ)) (i : ℕ) (sums : List (ℕ × ℤ)) (run : ℕ × ℤ) : Type 0 where
  pub formal : IsFormalSum sums
  pub before : All (λ e. e.0 < run.0) sums
  pub up_to : All (λ e. run.0 ≤ e.0) (drop i sorted)
  pub multiplicities : (p : ℕ) → multiplicity p (sums ++ run ∷ []) ≡ multiplicity p (take i sorted)
  pub room : unsigned_abs run.1 ≤ i * 2 ^ 63

-- the sum of the first i entries of a and the first j of b, all of whose places come before those that are left
pub record IsSumOf (a : List (ℕ × ℤ)) (i : ℕ) (b : List (ℕ × ℤ)) (j : ℕ) (sum : List (ℕ × ℤ)) : Type 0 where
  pub formal : IsFormalSum sum
  pub before_a : Precede sum (drop i a)
  pub before_b : Precede sum (drop j b)
  pub multiplicities : (p : ℕ) → multiplicity p sum ≡ multiplicity p (take i a) +ℤ multiplicity p (take j b)

-- the multiple by m of the first i entries
pub record IsMultipleOf (m : ℤ) (es : List (ℕ × ℤ)) (i : ℕ) (multiple : List (ℕ × ℤ)) : Type 0 where
  pub formal : IsFormalSum multiple
  pub before : Precede multiple (drop i es)
  pub multiplicities : (p : ℕ) → multiplicity p multiple ≡ m *ℤ multiplicity p (take i es)
