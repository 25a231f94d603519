-- Rows of polynomials as functions in the coordinates of the rows of an infinite lattice, and the bases that they make
-- of a lattice of each side (F. Hess, Computing Riemann-Roch spaces in algebraic function fields and related topics,
-- 2002, section 4).
use Rattle.std.specs.Prelude.{◌≡◌, ℕ, suc, ◌*◌, ◌<◌, ◌↔◌, ℤ, pos, ◌-ℤ◌, List, [], ◌∷◌, length, map, All}
use Rattle.ring_lemmas.specs.Ring.{pow}
use Rattle.ff_fields.specs.Field.{CodeField}
use Rattle.ff_fields.specs.Code.{code_ring}
use Rattle.ff_fields.specs.Over.{IsOver}
use Rattle.ff_poly.specs.Words.{IsPoly, IsMonicList, shifted}
use Rattle.ff_poly.specs.Popov.{row_at, entry_at, IsRow, IsCombinationList}
use Rattle.ff_poly.specs.Value.{value}
use Rattle.ff_poly.specs.Polynomials.{polynomials, x_poly}
use Rattle.function_field.specs.declared.side.Side.TheVariants.{Infinite}
use Rattle.function_field.specs.Functions.{of_poly, y_of}
use Rattle.function_field.specs.Values.{Functions, functions, setting, function_of, equation_of}
use Rattle.function_field.specs.Infinity.{function_on}
use Rattle.function_field.specs.InfiniteSpans.{InInfiniteSpan}
use Rattle.function_field.specs.Curves.{CurveValue, reversed_of}
use Rattle.lattice_theory.specs.Lattices.{polynomial_ops}
use Rattle.linear_theory.specs.Module.{combine}
use Rattle.linear_theory.specs.Lists.{entry, tabulate}
use Rattle.reduced_basis_theory.specs.Reduced.{InLattice}
use Rattle.ff_lattice.specs.Lattices.{LatticeValue, Contains, row_elems}

module _ (k : CodeField) (c : CurveValue) (inf : LatticeValue) where
  -- the functions of the rows of the infinite lattice
  abbrev pub infinite_rows : List (Functions k c.fin)
  infinite_rows = map (function_on k c.fin c.c Infinite) (row_elems inf)

  -- the lattice at infinity that they span
  abbrev pub AtInfinity : Functions k c.fin → Type 0
  AtInfinity = InInfiniteSpan k c.fin c.c (row_elems inf)

  -- the sum of the v_j(x)·h_j, for the functions h_j of the infinite rows
  abbrev pub row_function : List (List ℕ) → Functions k c.fin
  row_function v = combine (polynomial_ops (equation_of k c.fin)) (λ j. value k (entry_at v j)) (infinite_rows)

  -- row j of q has the coordinates of t^exponent·Y^j in the rows of the lattice, as polynomials in t
  pub record AreCoordinatesInT (exponent : ℕ) (q : List (List (List ℕ))) : Type 0 where
    pub rows_in : All (IsRow k.ops c.fin.n) q
    pub count : length q ≡ c.fin.n
    pub each :
        (j : ℕ) → j < c.fin.n
        → (functions k c.inf).◌⊗◌ (pow (functions k c.inf).ops (setting k c.inf).x exponent)
        (pow (functions k c.inf).ops (y_of (equation_of k c.inf)) j)
        ≡ combine (polynomial_ops (equation_of k c.inf)) (λ i. value k (entry_at (row_at q j) i))
        (map (function_of k c.inf) (row_elems inf))

  -- den·t^exponent in column j and zeros else, for the denominator of the lattice: what coordinates are found of
  pub record IsPowerRow (exponent j : ℕ) (v : List (List ℕ)) : Type 0 where
    pub row : IsRow k.ops c.inf.n v
    pub trimmed : All IsPoly v
    pub here : value k (entry_at v j)
        ≡ (polynomials k).◌⊗◌ (value k inf.den) (pow (polynomials k).ops (x_poly k) exponent)
    pub other : (i : ℕ) → ¬ (i ≡ j) → entry_at v i ≡ []

  -- row j of Q has the coordinates of x^exponent·y^j in the functions of the infinite rows, as polynomials in x
  pub record AreCoordinates (exponent : ℕ) (Q : List (List (List ℕ))) : Type 0 where
    pub rows_in : All (IsRow k.ops c.fin.n) Q
    pub count : length Q ≡ c.fin.n
    pub each :
        (j : ℕ) → j < c.fin.n
        → (functions k c.fin).◌⊗◌ (pow (functions k c.fin).ops (setting k c.fin).x exponent)
        (pow (functions k c.fin).ops (y_of (equation_of k c.fin)) j)
        ≡ row_function (row_at Q j)

  -- the rows W span u times the lattice over the polynomials
  pub record SpanMultiple (fin : LatticeValue) (u : List ℕ) (W : List (List (List ℕ))) : Type 0 where
    pub rows_in : All (IsRow k.ops c.fin.n) W
    pub members :
        (z : Functions k c.fin)
        → Contains k c.fin fin z
        ↔ InLattice (code_ring k) (polynomial_ops (equation_of k c.fin)) (map row_function W)
        ((functions k c.fin).◌⊗◌ (of_poly (equation_of k c.fin) (value k u)) z)

  -- the functions are those of the rows over u
  pub record AreRowsOver (u : List ℕ) (m : List (List (List ℕ))) (bs : List (Functions k c.fin)) : Type 0 where
    pub count : length bs ≡ c.fin.n
    pub each :
        (i : ℕ) → i < c.fin.n
        → (functions k c.fin).◌⊗◌ (of_poly (equation_of k c.fin) (value k u)) (entry (functions k c.fin).𝟘 bs i)
        ≡ row_function (row_at m i)

-- a row over t, in which no polynomial has more than m codes, in x: x^(m-1)·a(1/x) for each entry, times x^e
abbrev pub turned_row : ℕ → ℕ → List (List ℕ) → List (List ℕ)
turned_row m e row = map (λ a. shifted (reversed_of a m) e) row

-- row j turned, and times x^(c·j), those from j on
abbrev pub turned_from : ℕ → ℕ → ℕ → List (List (List ℕ)) → List (List (List ℕ))
turned_from c m j [] = []
turned_from c m j (row ∷ rows) = turned_row m (c * j) row ∷ turned_from c m (suc j) rows

-- each row of W is the product of a row of a matrix with Q
pub record AreRowProducts (k : CodeField) (n : ℕ) (rows Q W : List (List (List ℕ))) : Type 0 where
  pub count : length W ≡ length rows
  pub each : (i : ℕ) → i < length rows → IsCombinationList k.ops n Q (row_at W i) (row_at rows i)

-- a monic polynomial that is the denominator times x^exponent
pub record IsDenominator (k : CodeField) (den : List ℕ) (exponent : ℕ) (u : List ℕ) : Type 0 where
  pub over : IsOver k.ops u
  pub monic : IsMonicList u
  pub is : value k u ≡ (polynomials k).◌⊗◌ (value k den) (pow (polynomials k).ops (x_poly k) exponent)

-- the degree of the pivot of row i over u
abbrev pub split_degree : List ℕ → List (List (List ℕ)) → ℕ → ℤ
split_degree u m i = pos (length (entry_at (row_at m i) i)) -ℤ pos (length u)

abbrev pub split_degrees : List ℕ → List (List (List ℕ)) → List ℤ
split_degrees u m = tabulate (length m) (split_degree u m)

-- functions with their degrees, as two lists and by numbers
module _ {X : Type 0} where
  abbrev pub functions_of : List (X × ℤ) → List X
  functions_of ps = map (λ p. p.0) ps

  abbrev pub degrees_of : List (X × ℤ) → List ℤ
  degrees_of ps = map (λ p. p.1) ps

  abbrev pub degree_at : List (X × ℤ) → ℕ → ℤ
  degree_at ps i = entry (pos 0) (degrees_of ps) i
