-- A matrix with the unit matrix on its right, and its reduced form.
use Rattle.std.specs.Prelude.{ℕ, zero, suc, ◌<◌, ◌≤◌, ◌+◌, List, [], ◌∷◌, length}
use Rattle.ring_lemmas.specs.Ring.{Operations, CommRing}
use Rattle.linear_theory.specs.Echelon.{SameRowSpace, IsReducedEchelon}
use Rattle.linear_theory.specs.Lists.{join}

-- the unit sequence with 1 at a position
abbrev pub unit : {A : Type 0} → Operations A → ℕ → ℕ → A
unit R zero zero = R.𝟙
unit R zero (suc j) = R.𝟘
unit R (suc k) zero = R.𝟘
unit R (suc k) (suc j) = unit R k j

-- each row, cut at the width, with a unit sequence behind it, from the k-th on
abbrev pub augment : {A : Type 0} → Operations A → ℕ → ℕ → List (ℕ → A) → List (ℕ → A)
augment R width k [] = []
augment R width k (r ∷ rows) = join width r (unit R k) ∷ augment R width (suc k) rows

module _ {A : Type 0} (R : CommRing A) (width : ℕ) (rows : List (ℕ → A)) where
  abbrev pub size : ℕ
  size = width + length rows

  -- a reduced form of the augmented matrix, and how many of its pivots are left of the unit matrix
  pub record Eliminated : Type 0 where
    pub form : List (ℕ → A)
    pub reduced : IsReducedEchelon R.ops size form
    pub same : SameRowSpace R.ops size form (augment R.ops width 0 rows)
    pub split : ℕ
    pub split_within : split ≤ reduced.rank
    pub early : (i : ℕ) → i < split → reduced.pivot i < width
    pub late : (i : ℕ) → split ≤ i → i < reduced.rank → width ≤ reduced.pivot i
