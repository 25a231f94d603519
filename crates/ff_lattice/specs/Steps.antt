-- The words of the private contracts.
use Rattle.std.specs.Prelude.{◌≡◌, ℕ, zero, suc, ◌+◌, ◌-◌, ◌<◌, ◌≤◌, ◌↔◌, List, [], ◌∷◌, ◌++◌, length, get_or, map, replicate, take, slice_set, All}
use Rattle.ff_fields.specs.Field.{FieldOps}
use Rattle.ff_fields.specs.Over.{IsOver}
use Rattle.ff_poly.specs.Words.{IsPoly, IsMonicList, DividesList, product_of, shifted}
use Rattle.ff_poly.specs.Popov.{entry_at, row_at, IsRow, IsPopovMatrix, InRowSpan, HasMultipleInRows, combination_list, multiple_of_row}
use Rattle.function_field.specs.Values.{ElemValue}
use Rattle.ff_lattice.specs.Lattices.{LatticeValue, IsMultiplier}

-- n polynomials of which the one with this number is 1 and the others 0
abbrev pub unit_row : ℕ → ℕ → List (List ℕ)
unit_row n i = slice_set (replicate n []) i (1 ∷ [])

-- each entry times x to a power
abbrev pub lifted : ℕ → List (List ℕ) → List (List ℕ)
lifted power row = map (λ v. shifted v power) row

-- the rows of m times the power behind those of the unit matrix
pub record IsBesideUnitRows (power : ℕ) (m rows : List (List (List ℕ))) : Type 0 where
  pub size : length rows ≡ length m
  pub at : (i : ℕ) → i < length m → row_at rows i ≡ unit_row (length m) i ++ lifted power (row_at m i)

-- the rows of ls times the power behind zeros, and then those of m times the power behind those of the unit matrix
pub record IsTwistedRows (power : ℕ) (m ls rows : List (List (List ℕ))) : Type 0 where
  pub size : length rows ≡ length ls + length m
  pub first : (j : ℕ) → j < length ls → row_at rows j ≡ replicate (length m) [] ++ lifted power (row_at ls j)
  pub second : (i : ℕ) → i < length m → row_at rows (length ls + i) ≡ unit_row (length m) i ++ lifted power (row_at m i)

-- the rows of the first positions have zeros from the position on
pub record HasZeroCorner (n : ℕ) (rows : List (List (List ℕ))) : Type 0 where
  pub zero_at : (i j : ℕ) → i < n → n ≤ j → entry_at (row_at rows i) j ≡ []

-- the first parts of the first rows
abbrev pub corner : ℕ → List (List (List ℕ)) → List (List (List ℕ))
corner n rows = map (take n) (take n rows)

-- the Popov basis of the rows z of n polynomials for which z·m is in the lattice of the rows ls
pub record IsPreimage (k : FieldOps) (n width : ℕ) (m ls basis : List (List (List ℕ))) : Type 0 where
  pub rows_in : All (IsRow k n) basis
  pub popov : IsPopovMatrix n basis
  pub members : (z : List (List ℕ)) → IsRow k n z → All IsPoly z
      → InRowSpan k n basis z ↔ InRowSpan k width ls (combination_list k width z m)

-- each row of the width has a multiple in the lattice of the rows by a polynomial other than 0 of at most this length
pub record HasShortMultiples (k : FieldOps) (width : ℕ) (rows : List (List (List ℕ))) (bound : ℕ) : Type 0 where
  pub multiple : (v : List (List ℕ)) → IsRow k width v → HasMultipleInRows k width rows v
  pub short : (v : List (List ℕ)) (row : IsRow k width v) → length (multiple v row).factor ≤ bound

-- the monic polynomial whose multiples are the polynomials u for which e divides u·v
pub record IsAnnihilator (k : FieldOps) (e v h : List ℕ) : Type 0 where
  pub over : IsOver k h
  pub poly : IsPoly h
  pub monic : IsMonicList h
  pub divides : (u : List ℕ) → IsOver k u → IsPoly u → DividesList k h u ↔ DividesList k e (product_of k u v)

-- monic, and its multiples are those of h with a property
pub record IsNext (k : FieldOps) (h : List ℕ) (T : List ℕ → Type 0) (next : List ℕ) : Type 0 where
  pub over : IsOver k next
  pub poly : IsPoly next
  pub monic : IsMonicList next
  pub divides : (u : List ℕ) → IsOver k u → IsPoly u → DividesList k next u ↔ (DividesList k h u × T u)

-- u times each entry of the row is a multiple of e
abbrev pub IsRowMultiplier : FieldOps → List ℕ → List (List ℕ) → List ℕ → Type 0
IsRowMultiplier k e row u = All (λ v. DividesList k e (product_of k u v)) row

-- the monic polynomial whose multiples are those u for which u times each entry of the rows is a multiple of e
pub record IsLeastMultiplier (k : FieldOps) (rows : List (List (List ℕ))) (e h : List ℕ) : Type 0 where
  pub over : IsOver k h
  pub poly : IsPoly h
  pub monic : IsMonicList h
  pub divides : (u : List ℕ) → IsOver k u → IsPoly u → DividesList k h u ↔ IsMultiplier k rows e u

-- g times each entry is the row
pub record IsRowQuotient (k : FieldOps) (g : List ℕ) (row quotient : List (List ℕ)) : Type 0 where
  pub over : All (IsOver k) quotient
  pub poly : All IsPoly quotient
  pub is : multiple_of_row k g quotient ≡ row

-- the same of each row
pub record IsQuotientOfRows (k : FieldOps) (g : List ℕ) (n : ℕ) (rows quotients : List (List (List ℕ))) : Type 0 where
  pub rows_in : All (IsRow k n) quotients
  pub poly : All (All IsPoly) quotients
  pub is : map (multiple_of_row k g) quotients ≡ rows

-- the lattice with a common factor of its rows and its denominator is the rows over e
pub record IsReducedTo (k : FieldOps) (rows : List (List (List ℕ))) (e : List ℕ) (l : LatticeValue) : Type 0 where
  pub factor : List ℕ
  pub factor_in : IsOver k factor
  pub factor_poly : IsPoly factor
  pub factor_monic : IsMonicList factor
  pub den_is : e ≡ product_of k factor l.den
  pub rows_are : map (multiple_of_row k factor) l.rows ≡ rows

-- monic, and a multiple of both
pub record IsCommonMultiple (k : FieldOps) (e d m : List ℕ) : Type 0 where
  pub over : IsOver k m
  pub monic : IsMonicList m
  pub of_first : DividesList k e m
  pub of_second : DividesList k d m

-- a row over e is the element
pub record IsExpansion (k : FieldOps) (e : List ℕ) (z : ElemValue) (row : List (List ℕ)) : Type 0 where
  pub factor : List ℕ
  pub factor_in : IsOver k factor
  pub den_is : e ≡ product_of k z.den factor
  pub num_is : row ≡ multiple_of_row k factor z.num

-- the rows over e are the elements
pub record IsExpanded (k : FieldOps) (n : ℕ) (e : List ℕ) (zs : List ElemValue) (rows : List (List (List ℕ))) : Type 0
  where
    pub size : length rows ≡ length zs
    pub each : (i : ℕ) (d : ElemValue) → i < length zs → IsExpansion k e (get_or zs i d) (row_at rows i)

-- the sum of the degrees of the pivots of the first i rows
abbrev pub pivot_sum : List (List (List ℕ)) → ℕ → ℕ
pivot_sum rows zero = 0
pivot_sum rows (suc i) = pivot_sum rows i + (length (entry_at (row_at rows i) i) - 1)
