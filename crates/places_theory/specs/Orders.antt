-- Orders that are maximal at an element.
use Rattle.std.specs.Prelude.{◌⊎◌}
use Rattle.ring_theory.specs.Subsets.{IsSubring}
use Rattle.ring_theory.specs.Local.{PrimeTo, Locally}
use Rattle.function_field.specs.declared.side.Side.{Side}
use Rattle.function_field.specs.Setting.{Setting}
use Rattle.function_field.specs.Places.{Place, IsPlace, IsIntegralAt, IsIn}

-- O is a ring of integral functions of the side over the ring Base that has each integral function up to a factor from
-- N, prime to p
pub record IsOrderAt {E : Type 0} (S : Setting E) (s : Side) (Base N : E → Type 0) (p : E) (O : E → Type 0) : Type 0
  where
    pub base_ring : IsSubring S.functions.ops Base
    pub prime_to : PrimeTo S.functions.ops Base N p
    pub ring : IsSubring S.functions.ops O
    pub base : (z : E) → Base z → O z
    pub integral : (z : E) → O z → IsIntegralAt S s z
    pub locally : (z : E) → IsIntegralAt S s z → Locally S.functions.ops N O z

-- the members of O in the place
abbrev pub InPrime : {E : Type 0} → Setting E → Place E → (E → Type 0) → E → Type 0
InPrime S P O a = O a × IsIn S P a

-- P is a place over p at an order that is maximal at p, where it is decided which members of the order P has
pub record IsPlaceOver {E : Type 0} (S : Setting E) (P : Place E) (Base N : E → Type 0) (p : E) (O : E → Type 0) : Type
    0 where
  pub place : IsPlace S P
  pub order : IsOrderAt S P.side Base N p O
  pub over : IsIn S P p
  pub decide : (u : E) → O u → IsIn S P u ⊎ (¬ (IsIn S P u))
