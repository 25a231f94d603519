-- The places over a polynomial, with their ramification and degrees (Stichtenoth, section 3.1).
use Rattle.std.specs.Prelude.{ℕ, ◌+◌, ◌*◌, List, [], ◌∷◌, AllPairs}
use Rattle.std.specs.List.{Any}
use Rattle.function_field.specs.Setting.{Setting}
use Rattle.function_field.specs.Places.{Place, IsPlace, IsSamePlace, LiesOver}
use Rattle.function_field.specs.Divisors.{HasDegree, HasRamification}

module _ {E : Type 0} (S : Setting E) (p : E) where
  -- a place over p, with its ramification index and its degree
  pub record PlaceOver : Type 0 where
    pub place : Place E
    pub is : IsPlace S place
    pub over : LiesOver S place p
    pub ramification : ℕ
    pub ramified : HasRamification S place p ramification
    pub degree : ℕ
    pub has_degree : HasDegree S place degree

  -- the list has each place over p once
  pub record IsAllOver (ps : List PlaceOver) : Type 0 where
    pub different : AllPairs (λ P Q. ¬ IsSamePlace S P.place Q.place) ps
    pub complete : (P : Place E) → IsPlace S P → LiesOver S P p → Any (λ Q. IsSamePlace S Q.place P) ps

  -- the sum of e·f
  abbrev pub sum_of_degrees : List PlaceOver → ℕ
  sum_of_degrees [] = 0
  sum_of_degrees (P ∷ ps) = P.ramification * P.degree + sum_of_degrees ps
