-- Curves: what each has, its discriminant and its infinite presentation.
use Rattle.std.specs.Prelude.{◌≡◌, ◌≢◌, ℕ, ◌+◌, ◌-◌, ◌*◌, ◌≤◌, List, [], length, reverse, All}
use Rattle.ff_fields.specs.Field.{CodeField}
use Rattle.ff_fields.specs.Over.{IsOver}
use Rattle.ff_poly.specs.Words.{IsPoly, poly_of, shifted}
use Rattle.ff_poly.specs.Value.{value}
use Rattle.function_field.specs.Limits.{max_degree_in_y, max_discriminant_degree, max_degree_at_infinity}
use Rattle.function_field.specs.Values.{PresValue, IsPresOver, equation_of}
use Rattle.function_field.specs.Infinity.{IsInfinitePresentation}
use Rattle.function_field.specs.Discriminant.{discriminant}

-- the finite and the infinite presentation, the infinity number, and the discriminant of the finite one
pub record CurveValue : Type 0 where
  pub fin : PresValue
  pub inf : PresValue
  pub c : ℕ
  pub disc : List ℕ

-- t^(m-1)·a(1/t), for at most m codes: zeros for those that are missing on top, and then the codes from the top down
abbrev pub reversed_of : List ℕ → ℕ → List ℕ
reversed_of a m = shifted (poly_of (reverse a)) (m - length a)

module _ (k : CodeField) where
  -- the list of codes of the discriminant
  pub record IsDiscriminant (p : PresValue) (disc : List ℕ) : Type 0 where
    pub poly : IsPoly disc
    pub over : IsOver k.ops disc
    pub value : value k disc ≡ discriminant (equation_of k p)

  -- what every curve over k is: within the limits, with a discriminant that isn't 0, and with its infinite presentation
  pub record IsCurve (c : CurveValue) : Type 0 where
    pub at_least_two : 2 ≤ c.fin.n
    pub at_most_four : c.fin.n ≤ max_degree_in_y
    pub fin_over : IsPresOver k.ops c.fin
    pub fin_poly : All IsPoly c.fin.coeffs
    pub disc : IsDiscriminant c.fin c.disc
    pub separable : c.disc ≢ []
    pub disc_degree : length c.disc ≤ max_discriminant_degree + 1
    pub infinite : IsInfinitePresentation k c.fin c.c c.inf
    pub inf_over : IsPresOver k.ops c.inf
    pub inf_poly : All IsPoly c.inf.coeffs
    pub disc_at_infinity : c.c * c.fin.n * (c.fin.n - 1) ≤ max_degree_at_infinity
