-- The places above a polynomial, or at infinity, as lists of functions that span them (Stichtenoth, section 3.1).
use Rattle.std.specs.Prelude.{◌≡◌, ℕ, List, length, All, AllPairs}
use Rattle.std.specs.List.{Any}
use Rattle.ff_fields.specs.Field.{CodeField}
use Rattle.ff_poly.specs.Value.{value}
use Rattle.function_field.specs.declared.side.Side.{Side}
use Rattle.function_field.specs.declared.side.Side.TheVariants.{Finite}
use Rattle.function_field.specs.Functions.{of_poly}
use Rattle.function_field.specs.Places.{Place, IsPlace, IsSamePlace, LiesOver}
use Rattle.function_field.specs.Divisors.{HasDegree, HasRamification}
use Rattle.function_field.specs.Values.{Functions, setting, equation_of}
use Rattle.function_field.specs.Curves.{CurveValue}

-- a listed place: functions that span it over the ring of its side, its ramification index and its degree
pub record ListedPlace (E : Type 0) : Type 0 where
  pub rows : List E
  pub e : ℕ
  pub degree : ℕ

-- the polynomial with these codes, as a function of the curve
abbrev pub polynomial_on : (k : CodeField) (c : CurveValue) → List ℕ → Functions k c.fin
polynomial_on k c pi = of_poly (equation_of k c.fin) (value k pi)

module _ (k : CodeField) (c : CurveValue) (s : Side) where
  -- the place that the functions of a listed place span
  abbrev pub listed_place : ListedPlace (Functions k c.fin) → Place (Functions k c.fin)
  listed_place P = record { side = s; generators = P.rows }

  -- a place of the side, which on the finite side lies over the polynomial
  pub record IsPlaceAbove (pi : List ℕ) (M : Place (Functions k c.fin)) : Type 0 where
    pub place : IsPlace (setting k c.fin) M
    pub side : M.side ≡ s
    pub over : s ≡ Finite → LiesOver (setting k c.fin) M (polynomial_on k c pi)

  -- the listed places are all places over the polynomial, or over infinity, each once, with their ramification indices
  -- and degrees
  pub record AreAllPlacesAbove (pi : List ℕ) (Ps : List (ListedPlace (Functions k c.fin))) : Type 0 where
    pub above : All (λ P. IsPlaceAbove pi (listed_place P)) Ps
    pub ramified : All (λ P. HasRamification (setting k c.fin) (listed_place P) (polynomial_on k c pi) P.e) Ps
    pub degrees : All (λ P. HasDegree (setting k c.fin) (listed_place P) P.degree) Ps
    pub different : AllPairs (λ P Q. ¬ IsSamePlace (setting k c.fin) (listed_place P) (listed_place Q)) Ps
    pub complete : (M : Place (Functions k c.fin)) → IsPlaceAbove pi M
        → Any (λ P. IsSamePlace (setting k c.fin) (listed_place P) M) Ps

  -- the lists are equally long, and each place of the first is one of the second, with the same ramification index and
  -- degree
  pub record ListSamePlaces (Ps Qs : List (ListedPlace (Functions k c.fin))) : Type 0 where
    pub equally_long : length Ps ≡ length Qs
    pub each :
        All
        (λ P. Any (λ Q. IsSamePlace (setting k c.fin) (listed_place P) (listed_place Q) × (P.e ≡ Q.e)
        × (P.degree ≡ Q.degree)) Qs) Ps
