-- Rational functions, polynomials in x and y, and the trace form (Stichtenoth, Algebraic Function Fields and Codes,
-- chapter 3).
use Rattle.std.specs.Prelude.{◌≡◌, ℕ, suc, ◌<◌, List, [], ◌∷◌}
use Rattle.ring_lemmas.specs.Ring.{pow}
use Rattle.ring_lemmas.specs.Sums.{sum_below}
use Rattle.ring_lemmas.specs.Rows.{Row}
use Rattle.ff_fields.specs.Field.{CodeField}
use Rattle.ff_poly.specs.Polynomials.{Polynomial, polynomials, polynomials_domain}
use Rattle.function_field.specs.Functions.{Equation, FunctionOf, ring_of, row_of, over, y_of, trace_of, degree_of_y}

-- the product of the members of a list
abbrev pub polynomial_product : (k : CodeField) → List (Polynomial k) → Polynomial k
polynomial_product k [] = (polynomials k).𝟙
polynomial_product k (p ∷ ps) = (polynomials k).◌⊗◌ p (polynomial_product k ps)

module _ {k : CodeField} (c : Equation k) where
  -- k(x)
  pub record IsRational (z : FunctionOf c) : Type 0 where
    pub top : Polynomial k
    pub bottom : Polynomial k
    pub not_null : ¬ (bottom ≡ (polynomials k).𝟘)
    pub value : z ≡ over c (row_of c top) bottom not_null

  -- k[x][y]: the coordinates at 1, y, up to y^(n-1) are polynomials
  pub record HasPolynomialCoordinates (z : FunctionOf c) : Type 0 where
    pub coordinates : Row (Polynomial k) (suc c.lower_degree)
    pub value : z ≡ over c coordinates (polynomials k).𝟙 (polynomials_domain k).one_not_zero

  -- a function that isn't 0, whose products with 1, y, up to y^(n-1) have the trace 0
  pub record HasDegenerateTraceForm : Type 0 where
    pub member : FunctionOf c
    pub not_null : ¬ (member ≡ (ring_of c).𝟘)
    pub traces :
        (i : ℕ) → i < degree_of_y c → trace_of c ((ring_of c).◌⊗◌ member (pow (ring_of c).ops (y_of c) i))
        ≡ (ring_of c).𝟘

  -- the basis that is dual to 1, y, up to y^(n-1) under the trace form
  pub record IsDualToPowers (d : ℕ → FunctionOf c) : Type 0 where
    pub same : (i : ℕ) → i < degree_of_y c
        → trace_of c ((ring_of c).◌⊗◌ (pow (ring_of c).ops (y_of c) i) (d i)) ≡ (ring_of c).𝟙
    pub other :
        (i j : ℕ) → i < degree_of_y c → j < degree_of_y c → ¬ (i ≡ j)
        → trace_of c ((ring_of c).◌⊗◌ (pow (ring_of c).ops (y_of c) i) (d j)) ≡ (ring_of c).𝟘
    pub spanning :
        (z : FunctionOf c)
        → z
        ≡ sum_below (ring_of c).ops (degree_of_y c)
        (λ i. (ring_of c).◌⊗◌ (trace_of c ((ring_of c).◌⊗◌ z (pow (ring_of c).ops (y_of c) i))) (d i))
