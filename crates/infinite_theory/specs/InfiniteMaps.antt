-- The infinite presentation as a presentation of the same functions, with t = 1/x as its variable.
use Rattle.std.specs.Prelude.{◌≡◌, ◌≢◌, ℕ, [], List, map, ◌↔◌}
use Rattle.ring_theory.specs.Subsets.{Span}
use Rattle.ring_theory.specs.Integral.{IsIntegral}
use Rattle.ff_fields.specs.Field.{CodeField}
use Rattle.ff_poly.specs.Words.{IsPoly}
use Rattle.ff_poly.specs.Polynomials.{Polynomial, codes_of, x_poly}
use Rattle.function_field.specs.declared.side.Side.TheVariants.{Finite, Infinite}
use Rattle.function_field.specs.Functions.{of_poly, y_of, IsPolynomial}
use Rattle.function_field.specs.Values.{PresValue, ElemValue, IsElem, Functions, functions, setting, equation_of, function_of}
use Rattle.function_field.specs.Places.{Place, IsIn, IsIntegralAt}
use Rattle.function_field.specs.Infinity.{value_at, variable as variable_of, generator, function_on}
use Rattle.places_theory.specs.Maps.{IsIsomorphism}
use Rattle.places_theory.specs.InfiniteSide.{InReverse, IsPrimeToT}
use Rattle.order_theory.specs.Orders.{IsPrimeTo}
use Rattle.infinite_theory.specs.Supported.{IsLocallyIn}

-- f takes z to a combination, over the fractions of degree at most 0, of what it takes a list to
abbrev pub IsCombinationAtInfinity : (k : CodeField) (p q : PresValue) → (Functions k q → Functions k p)
    → List (Functions k q) → Functions k q → Type 0
IsCombinationAtInfinity k p q f gs z = Span (functions k p).ops ((setting k p).IsScalar Infinite) (map f gs) (f z)

-- the place at infinity that f takes the generators of a place to
abbrev pub place_at_infinity : (k : CodeField) (p q : PresValue) → (Functions k q → Functions k p)
    → Place (Functions k q) → Place (Functions k p)
place_at_infinity k p q f Q = record { side = Infinite; generators = map f Q.generators }

-- a member of O that f takes into the place P
abbrev pub IsMemberBelow : (k : CodeField) (p q : PresValue) → (Functions k q → Functions k p)
    → (Functions k q → Type 0) → Place (Functions k p) → Functions k q → Type 0
IsMemberBelow k p q f O P z = O z × IsIn (setting k p) P (f z)

-- f takes the elements of the infinite presentation q to the functions that they stand for, and what is said of q's
-- variable to what is said of t = 1/x
pub record IsInfiniteMap (k : CodeField) (p q : PresValue) (c : ℕ) (f : Functions k q → Functions k p) : Type 0 where
  pub isomorphism : IsIsomorphism (functions k q) (functions k p) f
  pub elements : (z : ElemValue) → IsElem k.ops q.n z → IsPoly z.den → z.den ≢ [] → f (function_of k q z)
      ≡ function_on k p c Infinite z
  pub traces : (z : Functions k q) → (setting k p).trace (f z) ≡ f ((setting k q).trace z)
  pub variable : f (setting k q).x ≡ (setting k p).one_over_x
  -- Y goes to y/x^c, and a polynomial to its value at t
  pub generator_is : f (y_of (equation_of k q)) ≡ generator k p c Infinite
  pub values : (a : Polynomial k) → f (of_poly (equation_of k q) a)
      ≡ value_at k p (variable_of k p Infinite) (codes_of k a)
  -- polynomials go to k[t], and those that the variable doesn't divide to what t doesn't divide
  pub polynomials : (z : Functions k q) → IsPolynomial (equation_of k q) z ↔ InReverse k p (f z)
  pub prime_to : (z : Functions k q) → IsPrimeTo (equation_of k q) (x_poly k) z ↔ IsPrimeToT k p (f z)
  -- what is integral over the polynomials is so over k[t]
  pub reverse : (z : Functions k q) → IsIntegralAt (setting k q) Finite z
      ↔ IsIntegral (functions k p).ops (InReverse k p) (f z)
  -- fractions with denominators that the variable doesn't divide have a degree of at most 0 in x
  pub scalars :
      (z : Functions k q)
      → IsLocallyIn (equation_of k q) (x_poly k) (IsPolynomial (equation_of k q)) z
      ↔ (setting k p).IsScalar Infinite (f z)
  -- O_inf: up to such a denominator, what is integral over the polynomials
  pub integral :
      (z : Functions k q)
      → IsLocallyIn (equation_of k q) (x_poly k) (IsIntegralAt (setting k q) Finite) z
      ↔ IsIntegralAt (setting k p) Infinite (f z)
  -- the spans over the fractions of degree at most 0
  pub spans :
      (gs : List (Functions k q)) (z : Functions k q)
      → IsLocallyIn (equation_of k q) (x_poly k) (Span (functions k q).ops (IsPolynomial (equation_of k q)) gs) z
      ↔ IsCombinationAtInfinity k p q f gs z
