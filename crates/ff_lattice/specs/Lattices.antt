-- Lattices in F = k(x)[y]/(f): what a value of rows over a denominator stands for, and the form that each lattice has
-- (Hess, Computing Riemann-Roch spaces in algebraic function fields; Kailath, Linear Systems, for Popov forms).
use Rattle.std.specs.Prelude.{◌≡◌, ℕ, ◌≤◌, ◌*◌, ◌-◌, ◌↔◌, ℤ, pos, ◌-ℤ◌, List, [], length, map, All}
use Rattle.ring_theory.specs.Subsets.{Span}
use Rattle.ff_fields.specs.Field.{FieldOps, CodeField}
use Rattle.ff_fields.specs.Over.{IsOver}
use Rattle.ff_poly.specs.Words.{IsPoly, IsMonicList, DividesList, product_of}
use Rattle.ff_poly.specs.Popov.{IsRow, IsPopovMatrix, pivot_degree}
use Rattle.ff_poly.specs.Value.{value}
use Rattle.function_field.specs.Functions.{IsPolynomial, of_poly}
use Rattle.function_field.specs.Values.{ElemValue, PresValue, Functions, functions, function_of, equation_of}

-- rows of numerators over one denominator
pub record LatticeValue : Type 0 where
  pub rows : List (List (List ℕ))
  pub den : List ℕ

-- the elements that rows are over a denominator
abbrev pub elems_over : List (List (List ℕ)) → List ℕ → List ElemValue
elems_over rows den = map (λ v. record { num = v; den = den }) rows

abbrev pub row_elems : LatticeValue → List ElemValue
row_elems l = elems_over l.rows l.den

-- the sum of the degrees of the pivots, less the number of rows times the degree of the denominator
abbrev pub pivot_degree_of : LatticeValue → ℤ
pivot_degree_of l = pos (pivot_degree l.rows) -ℤ pos (length l.rows * (length l.den - 1))

-- a Popov basis over a monic polynomial
pub record IsForm (l : LatticeValue) : Type 0 where
  pub popov : IsPopovMatrix (length l.rows) l.rows
  pub den_poly : IsPoly l.den
  pub monic : IsMonicList l.den

-- e times each entry of the rows is a multiple of the denominator, so that e times each row over it is a row of
-- polynomials
pub record IsMultiplier (k : FieldOps) (rows : List (List (List ℕ))) (den e : List ℕ) : Type 0 where
  pub each : All (λ row. All (λ v. DividesList k den (product_of k e v)) row) rows

-- the form of a lattice of rank n: a Popov basis of n rows over the monic denominator of least degree
pub record IsLatticeValue (k : FieldOps) (n : ℕ) (l : LatticeValue) : Type 0 where
  pub rows_in : All (IsRow k n) l.rows
  pub popov : IsPopovMatrix n l.rows
  pub den_in : IsOver k l.den
  pub den_poly : IsPoly l.den
  pub monic : IsMonicList l.den
  pub least : (e : List ℕ) → IsOver k e → IsMonicList e → IsMultiplier k l.rows l.den e → length l.den ≤ length e

module _ (k : CodeField) (p : PresValue) where
  -- z is a combination over k[x] of the functions of these elements
  abbrev pub InSpanOf : List ElemValue → Functions k p → Type 0
  InSpanOf zs = Span (functions k p).ops (IsPolynomial (equation_of k p)) (map (function_of k p) zs)

  -- z is a member of the lattice
  abbrev pub Contains : LatticeValue → Functions k p → Type 0
  Contains l = InSpanOf (row_elems l)

  -- a multiple of z by a polynomial other than 0 is in the set
  pub record HasMultipleInLattice (L : Functions k p → Type 0) (z : Functions k p) : Type 0 where
    pub factor : List ℕ
    pub factor_in : IsOver k.ops factor
    pub factor_poly : IsPoly factor
    pub some : ¬ (factor ≡ [])
    pub is_in : L ((functions k p).◌⊗◌ (of_poly (equation_of k p) (value k factor)) z)

  -- the rank is n: each function has a multiple in the set
  pub record IsFullLattice (L : Functions k p → Type 0) : Type 0 where
    pub multiple : (z : Functions k p) → HasMultipleInLattice L z

-- the lattice contains the combinations of these elements, over each presentation of degree n
pub record IsSpannedBy (k : CodeField) (n : ℕ) (zs : List ElemValue) (l : LatticeValue) : Type 0 where
  pub members : (p : PresValue) → p.n ≡ n → (z : Functions k p) → Contains k p l z ↔ InSpanOf k p zs z

-- z is the sum of a member of each set
pub record IsSumOfMembers (k : CodeField) (p : PresValue) (A B : Functions k p → Type 0) (z : Functions k p) : Type 0 where
  pub left : Functions k p
  pub left_in : A left
  pub right : Functions k p
  pub right_in : B right
  pub is : z ≡ (functions k p).◌⊕◌ left right

-- den·z is num·w for a member w of the set, so that z is num/den times w
pub record IsScaled (k : CodeField) (p : PresValue) (num den : List ℕ) (A : Functions k p → Type 0) (z : Functions k p)
    : Type 0 where
  pub member : Functions k p
  pub member_in : A member
  pub is :
      (functions k p).◌⊗◌ (of_poly (equation_of k p) (value k den)) z
      ≡ (functions k p).◌⊗◌ (of_poly (equation_of k p) (value k num)) member
