-- What contracts see of elements and presentations, and the functions that they stand for.
use Rattle.std.specs.Prelude.{◌≡◌, ℕ, zero, suc, ◌-◌, ◌≤◌, List, [], ◌∷◌, length, map, All}
use Rattle.ring_lemmas.specs.Ring.{CommRing}
use Rattle.ring_lemmas.specs.Rows.{Row}
use Rattle.ff_fields.specs.Field.{FieldOps, CodeField}
use Rattle.ff_fields.specs.Over.{IsOver}
use Rattle.ff_poly.specs.Words.{IsPoly, IsMonicList, product_of}
use Rattle.ff_poly.specs.Value.{value}
use Rattle.ff_poly.specs.Polynomials.{Polynomial, polynomials, polynomials_domain, polynomial_discrete}
use Rattle.function_field.specs.declared.side.Side.{Side}
use Rattle.function_field.specs.Limits.{max_degree_in_y}
use Rattle.function_field.specs.Setting.{Setting}
use Rattle.function_field.specs.Places.{IsIntegralAt}
use Rattle.function_field.specs.Functions.{Equation, FunctionOf, RowOver, function, ring_of, setting_of}

-- numerators at 1, y, up to y^(n-1), over a denominator
pub record ElemValue : Type 0 where
  pub num : List (List ℕ)
  pub den : List ℕ

-- the degree in y, and the polynomial's coefficients without the top one, lowest first
pub record PresValue : Type 0 where
  pub n : ℕ
  pub coeffs : List (List ℕ)

-- a degree from 1 to the limit, and a coefficient for each power below it
pub record IsPres (p : PresValue) : Type 0 where
  pub positive : 1 ≤ p.n
  pub at_most_four : p.n ≤ max_degree_in_y
  pub one_each : length p.coeffs ≡ p.n

-- no polynomial has a zero on top, and the denominator is monic
pub record IsMonicElem (z : ElemValue) : Type 0 where
  pub num_poly : All IsPoly z.num
  pub den_poly : IsPoly z.den
  pub monic : IsMonicList z.den

module _ (k : FieldOps) where
  -- each code of the coefficients is one of the field
  pub record IsPresOver (p : PresValue) : Type 0 where
    pub coeffs_over : All (IsOver k) p.coeffs

  -- n numerators, and each code is one of the field
  pub record IsElem (n : ℕ) (z : ElemValue) : Type 0 where
    pub one_each : length z.num ≡ n
    pub num_over : All (IsOver k) z.num
    pub den_over : IsOver k z.den

  -- (v, d) and (v', d') are the same where d'·v_i is d·v'_i for each i
  abbrev pub IsSame : ElemValue → ElemValue → Type 0
  IsSame z w = map (product_of k w.den) z.num ≡ map (product_of k z.den) w.num

module _ (k : CodeField) where
  -- the first n polynomials, and 0 where there is none
  abbrev pub row_of_list : (n : ℕ) → List (List ℕ) → Row (Polynomial k) n
  row_of_list zero ps = tt
  row_of_list (suc n) [] = ((polynomials k).𝟘, row_of_list n [])
  row_of_list (suc n) (p ∷ ps) = (value k p, row_of_list n ps)

  abbrev pub equation_of : PresValue → Equation k
  equation_of p = record { lower_degree = p.n - 1; coefficients = row_of_list (suc (p.n - 1)) p.coeffs }

module _ {k : CodeField} (c : Equation k) where
  -- v over d, and over 1 where d is 0
  unfoldable pub over_checked : Row (Polynomial k) (suc c.lower_degree) → (d : Polynomial k)
      → Dec (d ≡ (polynomials k).𝟘) → RowOver c
  over_checked v d (yes e) = record {
    num = v;
    den = (polynomials k).𝟙;
    den_not_zero =
        (polynomials_domain k).one_not_zero;
  }
  over_checked v d (no n) = record { num = v; den = d; den_not_zero = n }

module _ (k : CodeField) where
  -- the row over a polynomial that an element is, with 1 in place of a denominator 0
  unfoldable pub row_over : (p : PresValue) → ElemValue → RowOver (equation_of k p)
  row_over p z =
      over_checked (equation_of k p) (row_of_list k (suc (p.n - 1)) z.num) (value k z.den)
      (polynomial_discrete k (value k z.den) (polynomials k).𝟘)

  -- the function that an element stands for
  abbrev pub function_of : (p : PresValue) → ElemValue → FunctionOf (equation_of k p)
  function_of p z = function (equation_of k p) (row_over p z)

  -- the functions of a presentation, their ring, and all that the definitions speak of
  abbrev pub Functions : PresValue → Type 0
  Functions p = FunctionOf (equation_of k p)

  abbrev pub functions : (p : PresValue) → CommRing (Functions p)
  functions p = ring_of (equation_of k p)

  abbrev pub setting : (p : PresValue) → Setting (Functions p)
  setting p = setting_of (equation_of k p)

  -- z is integral over the polynomials, or over the fractions of degree at most 0
  abbrev pub IsIntegralElem : (p : PresValue) → Side → ElemValue → Type 0
  IsIntegralElem p s z = IsIntegralAt (setting p) s (function_of p z)
