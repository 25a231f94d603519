-- The curve that terms in x and y give, and why terms give none.
use Rattle.std.specs.Prelude.{◌≡◌, ◌≢◌, ℕ, ◌+◌, ◌-◌, ◌*◌, ◌≤◌, ◌<◌, max, List, [], ◌∷◌, length, get_or}
use Rattle.ff_fields.specs.Field.{FieldOps, CodeField}
use Rattle.ff_poly.specs.Words.{IsPoly}
use Rattle.ff_poly.specs.TermWords.{code_at}
use Rattle.ff_poly.specs.Value.{value}
use Rattle.ff_poly.specs.Polynomials.{Polynomial, polynomials}
use Rattle.ff_algebra.specs.declared.curve.CurveFault.{CurveFault}
use Rattle.ff_algebra.specs.declared.curve.CurveFault.TheVariants.{LimitY, LimitX, NotMonic, NotSeparable, LimitDisc, LimitInf, Memory}
use Rattle.function_field.specs.Limits.{max_degree_in_y, max_degree_in_x, max_discriminant_degree, max_degree_at_infinity}
use Rattle.function_field.specs.Values.{PresValue, equation_of}
use Rattle.function_field.specs.Infinity.{IsInfinityNumber}
use Rattle.function_field.specs.Discriminant.{discriminant}
use Rattle.function_field.specs.Curves.{CurveValue, IsDiscriminant, IsCurve}

-- the greatest exponent of y, and that of x; a term is an exponent of y, one of x, and a code
abbrev pub degree_in_y : List (ℕ × ℕ × ℕ) → ℕ
degree_in_y [] = 0
degree_in_y (t ∷ ts) = max t.0 (degree_in_y ts)

abbrev pub degree_in_x : List (ℕ × ℕ × ℕ) → ℕ
degree_in_x [] = 0
degree_in_x (t ∷ ts) = max t.1 (degree_in_x ts)

-- the degree in y is at least 2 and within the limit
abbrev pub IsSmallInY : List (ℕ × ℕ × ℕ) → Type 0
IsSmallInY f = (2 ≤ degree_in_y f) × (degree_in_y f ≤ max_degree_in_y)

-- and that in x is within the limit
abbrev pub IsSmall : List (ℕ × ℕ × ℕ) → Type 0
IsSmall f = IsSmallInY f × (degree_in_x f ≤ max_degree_in_x)

module _ (k : FieldOps) (f : List (ℕ × ℕ × ℕ)) where
  -- p is the coefficient of y^i, a polynomial in x
  pub record IsCoefficient (i : ℕ) (p : List ℕ) : Type 0 where
    pub poly : IsPoly p
    pub codes : (j : ℕ) → get_or p j 0 ≡ code_at k i j f

  -- f is y^n plus the terms of these coefficients
  pub record IsEquationOf (q : PresValue) : Type 0 where
    pub degree : q.n ≡ degree_in_y f
    pub one_each : length q.coeffs ≡ q.n
    pub coefficients : (i : ℕ) → i < q.n → IsCoefficient i (get_or q.coeffs i [])
    pub monic : IsCoefficient q.n (1 ∷ [])

  -- and its degrees are within the limits
  pub record IsSmallEquation (q : PresValue) : Type 0 where
    pub small : IsSmall f
    pub equation : IsEquationOf q

module _ (k : CodeField) where
  -- the curve of the terms f
  pub record IsCurveOf (f : List (ℕ × ℕ × ℕ)) (c : CurveValue) : Type 0 where
    pub equation : IsSmallEquation k.ops f c.fin
    pub curve : IsCurve k c

  -- the discriminant is 0
  pub record IsInseparable (f : List (ℕ × ℕ × ℕ)) : Type 0 where
    pub pres : PresValue
    pub equation : IsSmallEquation k.ops f pres
    pub zero : discriminant (equation_of k pres) ≡ (polynomials k).𝟘

  -- the discriminant has the degree d, which is above the limit
  pub record ExceedsDisc (f : List (ℕ × ℕ × ℕ)) (d : ℕ) : Type 0 where
    pub pres : PresValue
    pub equation : IsSmallEquation k.ops f pres
    pub disc : List ℕ
    pub is_disc : IsDiscriminant k pres disc
    pub degree : length disc ≡ d + 1
    pub above : max_discriminant_degree < d

  -- d is c·n·(n-1), which is above the limit; the discriminant isn't 0, and has a degree within its limit
  pub record ExceedsInf (f : List (ℕ × ℕ × ℕ)) (d : ℕ) : Type 0 where
    pub pres : PresValue
    pub equation : IsSmallEquation k.ops f pres
    pub disc : List ℕ
    pub is_disc : IsDiscriminant k pres disc
    pub separable : disc ≢ []
    pub disc_degree : length disc ≤ max_discriminant_degree + 1
    pub c : ℕ
    pub number : IsInfinityNumber pres c
    pub value : d ≡ c * pres.n * (pres.n - 1)
    pub above : max_degree_at_infinity < d

  -- what keeps the terms from giving a curve; each fault comes only where none above it holds. Want of memory says
  -- nothing
  abbrev pub IsCurveFault : List (ℕ × ℕ × ℕ) → CurveFault → Type 0
  IsCurveFault f (LimitY n) = (n ≡ degree_in_y f) × ¬ IsSmallInY f
  IsCurveFault f (LimitX d) = IsSmallInY f × (d ≡ degree_in_x f) × (max_degree_in_x < d)
  IsCurveFault f (NotMonic p) = IsSmall f × IsCoefficient k.ops f (degree_in_y f) p × (p ≢ 1 ∷ [])
  IsCurveFault f NotSeparable = IsInseparable f
  IsCurveFault f (LimitDisc d) = ExceedsDisc f d
  IsCurveFault f (LimitInf d) = ExceedsInf f d
  IsCurveFault f Memory = Unit {0}

  -- the matrix whose row i has the polynomials of the list from place rows_i + column on
  abbrev pub matrix_of : List (List ℕ) → List ℕ → ℕ → ℕ → ℕ → Polynomial k
  matrix_of entries rows column i j = value k (get_or entries (get_or rows i 0 + column + j) [])
