-- Elements that are integral over a subring.
use Rattle.std.specs.Prelude.{◌≡◌, ℕ, ◌<◌}
use Rattle.ring_lemmas.specs.Ring.{Operations, pow}
use Rattle.ring_lemmas.specs.Sums.{sum_below}

-- z^m plus the sum of c_i·z^i for i below m is 0, with m ≥ 1 and all c_i in S
pub record IsIntegral {A : Type 0} (R : Operations A) (S : A → Type 0) (z : A) : Type 0 where
  pub degree : ℕ
  pub positive : 0 < degree
  pub coefficient : ℕ → A
  pub coefficient_in : (i : ℕ) → S (coefficient i)
  pub root : R.◌⊕◌ (pow R z degree) (sum_below R degree (λ i. R.◌⊗◌ (coefficient i) (pow R z i))) ≡ R.𝟘
