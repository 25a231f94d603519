-- The infinite presentation: t = 1/x and Y = y/x^c.
use Rattle.std.specs.Prelude.{◌≡◌, ℕ, ◌+◌, ◌-◌, ◌*◌, ◌≤◌, ◌<◌, List, [], ◌∷◌, length, get_or, reverse}
use Rattle.ring_lemmas.specs.Ring.{pow}
use Rattle.ff_fields.specs.Field.{CodeField}
use Rattle.ff_poly.specs.Polynomials.{Polynomial, codes_of, constant_poly}
use Rattle.function_field.specs.declared.side.Side.{Side}
use Rattle.function_field.specs.declared.side.Side.TheVariants.{Finite, Infinite}
use Rattle.function_field.specs.Functions.{of_poly, y_of}
use Rattle.function_field.specs.Values.{PresValue, ElemValue, Functions, functions, setting, equation_of, function_of}

-- c is enough where the coefficient of y^(n-i) has a degree of at most c·i for every i
abbrev pub IsEnoughAtInfinity : PresValue → ℕ → Type 0
IsEnoughAtInfinity p c = (i : ℕ) → 1 ≤ i → i ≤ p.n → length (get_or p.coeffs (p.n - i) []) ≤ c * i + 1

-- the least number that is enough
pub record IsInfinityNumber (p : PresValue) (c : ℕ) : Type 0 where
  pub enough : IsEnoughAtInfinity p c
  pub least : (d : ℕ) → d < c → ¬ IsEnoughAtInfinity p d

module _ (k : CodeField) (p : PresValue) where
  -- a code of k, as a function
  abbrev pub constant : ℕ → Functions k p
  constant c = of_poly (equation_of k p) (constant_poly k c)

  -- the polynomial with these codes at t
  abbrev pub value_at : Functions k p → List ℕ → Functions k p
  value_at t [] = (functions k p).𝟘
  value_at t (c ∷ codes) = (functions k p).◌⊕◌ (constant c) ((functions k p).◌⊗◌ t (value_at t codes))

  -- the sum of v_i(t)·Y^i
  abbrev pub row_value_at : Functions k p → Functions k p → List (List ℕ) → Functions k p
  row_value_at t Y [] = (functions k p).𝟘
  row_value_at t Y (v ∷ vs) = (functions k p).◌⊕◌ (value_at t v) ((functions k p).◌⊗◌ Y (row_value_at t Y vs))

  -- t and Y of a side
  abbrev pub variable : Side → Functions k p
  variable Finite = (setting k p).x
  variable Infinite = (setting k p).one_over_x

  abbrev pub generator : ℕ → Side → Functions k p
  generator c Finite = y_of (equation_of k p)
  generator c Infinite = (functions k p).◌⊗◌ (y_of (equation_of k p))
      (pow (functions k p).ops ((setting k p).one_over_x) c)

  -- the element of a side's presentation stands for the function w: d times w is the sum of v_i·Y^i
  abbrev pub StandsFor : ℕ → Side → ElemValue → Functions k p → Type 0
  StandsFor c s z w =
      (functions k p).◌⊗◌ (value_at (variable s) z.den) w ≡ row_value_at (variable s) (generator c s) z.num

  -- 1/d, where the codes of d are read at the variable of the side: d(1/x) times x^m is the reversed d at x, for m + 1
  -- codes
  abbrev pub inverse_at : Side → List ℕ → Functions k p
  inverse_at Finite d = function_of k p (record { num = (1 ∷ []) ∷ []; den = d })
  inverse_at Infinite d =
      (functions k p).◌⊗◌ ((functions k p).◌⊗◌ (pow (functions k p).ops ((setting k p).x) (length d))
      ((setting k p).one_over_x))
      (function_of k p (record { num = (1 ∷ []) ∷ []; den = reverse d }))

  -- the function that an element of a side's presentation stands for
  abbrev pub function_on : ℕ → Side → ElemValue → Functions k p
  function_on c s z = (functions k p).◌⊗◌ (inverse_at s z.den) (row_value_at (variable s) (generator c s) z.num)

  -- k[x] on the finite side and k[t] on the infinite one
  pub record IsPolynomialOn (s : Side) (z : Functions k p) : Type 0 where
    pub polynomial : Polynomial k
    pub value : z ≡ value_at (variable s) (codes_of k polynomial)

  -- q is the infinite presentation: Y is a root of its polynomial
  pub record IsInfinitePresentation (c : ℕ) (q : PresValue) : Type 0 where
    pub number : IsInfinityNumber p c
    pub degree : q.n ≡ p.n
    pub one_each : length q.coeffs ≡ q.n
    pub coefficients :
        (i : ℕ) → i < p.n
        → value_at (variable Infinite) (get_or q.coeffs i [])
        ≡ (functions k p).◌⊗◌ (value_at (variable Finite) (get_or p.coeffs i []))
        (pow (functions k p).ops (variable Infinite) (c * (p.n - i)))
