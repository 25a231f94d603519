-- The infinite places, with their ramification over 1/x and their degrees (Stichtenoth, section 3.1).
use Rattle.std.specs.Prelude.{◌≡◌, ℕ, ◌+◌, ◌*◌, List, [], ◌∷◌, AllPairs}
use Rattle.std.specs.List.{Any}
use Rattle.function_field.specs.declared.side.Side.TheVariants.{Infinite}
use Rattle.function_field.specs.Setting.{Setting}
use Rattle.function_field.specs.Places.{Place, IsPlace, IsSamePlace}
use Rattle.function_field.specs.Divisors.{HasDegree, HasRamification}

module _ {E : Type 0} (S : Setting E) where
  -- an infinite place, with its ramification index and its degree
  pub record InfinitePlace : Type 0 where
    pub place : Place E
    pub is : IsPlace S place
    pub infinite : place.side ≡ Infinite
    pub ramification : ℕ
    pub ramified : HasRamification S place S.one_over_x ramification
    pub degree : ℕ
    pub has_degree : HasDegree S place degree

  -- the list has each infinite place once
  pub record IsAllInfinite (ps : List InfinitePlace) : Type 0 where
    pub different : AllPairs (λ P Q. ¬ IsSamePlace S P.place Q.place) ps
    pub complete : (P : Place E) → IsPlace S P → P.side ≡ Infinite → Any (λ Q. IsSamePlace S Q.place P) ps

  -- the sum of e·f
  abbrev pub sum_of_infinite_degrees : List InfinitePlace → ℕ
  sum_of_infinite_degrees [] = 0
  sum_of_infinite_degrees (P ∷ ps) = P.ramification * P.degree + sum_of_infinite_degrees ps
