-- Locally at an element p of a subring S: up to factors from a set N of members of S that are prime to p.
use Rattle.std.specs.Prelude.{◌≡◌}
use Rattle.ring_lemmas.specs.Ring.{Operations}

-- w and p span 1 over S
pub record Comaximal {A : Type 0} (R : Operations A) (S : A → Type 0) (w p : A) : Type 0 where
  pub left : A
  pub left_in : S left
  pub right : A
  pub right_in : S right
  pub is : R.◌⊕◌ (R.◌⊗◌ left w) (R.◌⊗◌ right p) ≡ R.𝟙

pub record PrimeTo {A : Type 0} (R : Operations A) (S N : A → Type 0) (p : A) : Type 0 where
  pub p_in : S p
  pub within : (w : A) → N w → S w
  pub one_in : N R.𝟙
  pub product_in : (a b : A) → N a → N b → N (R.◌⊗◌ a b)
  pub comaximal : (w : A) → N w → Comaximal R S w p

-- z is in L locally: a multiple by a member of N is
pub record Locally {A : Type 0} (R : Operations A) (N L : A → Type 0) (z : A) : Type 0 where
  pub factor : A
  pub factor_in : N factor
  pub multiple_in : L (R.◌⊗◌ factor z)
