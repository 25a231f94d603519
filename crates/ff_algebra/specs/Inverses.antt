-- How an inverse or a zero divisor is found: elimination on multiples of a row.
use Rattle.std.specs.Prelude.{◌≡◌, ◌≢◌, ℕ, suc, ◌+◌, ◌-◌, ◌*◌, ◌<◌, List, [], length, get_or, map, drop, remove, ◌⊎◌}
use Rattle.ring_lemmas.specs.Rows.{row_add, row_scale, row_one, row_mul}
use Rattle.ff_fields.specs.Field.{FieldOps, CodeField}
use Rattle.ff_fields.specs.Over.{IsOver}
use Rattle.ff_poly.specs.Words.{IsPoly, multiple_of}
use Rattle.ff_poly.specs.Value.{value}
use Rattle.ff_poly.specs.Polynomials.{polynomials}
use Rattle.ff_algebra.specs.declared.inverse.ZeroDivisor.{ZeroDivisor}
use Rattle.ff_algebra.specs.declared.inverse.ZeroDivisor.TheVariants.{Kills, Memory}
use Rattle.function_field.specs.Values.{ElemValue, PresValue, equation_of}
use Rattle.ff_algebra.specs.RowProducts.{IsPolyRow, cross_sums, row_at}

-- P of the element that a zero divisor is killed by, where there is one
abbrev pub IfKills : ZeroDivisor → (ElemValue → Type 0) → Type 0
IfKills (Kills w) P = P w
IfKills Memory P = Unit {0}

-- the entry of a line in a column
abbrev pub line_entry : List (List (List ℕ)) → ℕ → ℕ → List ℕ
line_entry lines i j = get_or (get_or lines i []) j []

-- line i has an entry that isn't 0 in one of the first columns, where each other line has 0
pub record HasOwnEntry (width : ℕ) (lines : List (List (List ℕ))) (i : ℕ) : Type 0 where
  pub column : ℕ
  pub within : column < width
  pub some : line_entry lines i column ≢ []
  pub alone : (j : ℕ) → j ≢ i → line_entry lines j column ≡ []

module _ (k : FieldOps) where
  -- b times the line less a times the pivot, where b and a are the entries of the pivot and of the line in the column
  abbrev pub eliminated_lines : ℕ → List (List ℕ) → List (List ℕ) → List (List ℕ)
  eliminated_lines column pivot line =
      cross_sums k (multiple_of k (get_or line column []) (k.neg 1)) (get_or pivot column []) line pivot

  -- each other line less its part at line i, which isn't 0 in the column
  pub record IsEliminatedBy (column : ℕ) (old new : List (List (List ℕ))) (i : ℕ) : Type 0 where
    pub within : i < length old
    pub some : line_entry old i column ≢ []
    pub others : new ≡ map (eliminated_lines column (get_or old i [])) (remove old i)

  -- a line is taken from the others; none where each is 0 in the column
  abbrev pub ClearsColumn : ℕ → List (List (List ℕ)) → List (List (List ℕ)) → Type 0
  ClearsColumn column old new =
      (((i : ℕ) → line_entry old i column ≡ []) × (new ≡ old)) ⊎ ((i : ℕ) × IsEliminatedBy column old new i)

module _ (k : CodeField) (p : PresValue) (v : List (List ℕ)) where
  -- w, then a polynomial d, then the entries of w·v - d
  pub record IsInverseLine (line : List (List ℕ)) : Type 0 where
    pub row : IsPolyRow k.ops (2 * p.n + 1) line
    pub product :
        row_add (polynomials k).ops (suc (p.n - 1)) (row_at k p (drop (p.n + 1) line))
        (row_scale (polynomials k).ops (suc (p.n - 1)) (value k (get_or line p.n []))
        (row_one (polynomials k).ring (p.n - 1)))
        ≡ row_mul (polynomials k).ring (p.n - 1) (equation_of k p).coefficients (row_at k p line) (row_at k p v)

  -- lines with an entry of their own among the factors, which are 0 in the columns behind the factors and before this
  -- one
  pub record AreEliminatedLines (column : ℕ) (lines : List (List (List ℕ))) : Type 0 where
    pub each : (i : ℕ) → i < length lines → IsInverseLine (get_or lines i [])
    pub cleared : (i j : ℕ) → p.n < j → j < column → line_entry lines i j ≡ []
    pub own : (i : ℕ) → i < length lines → HasOwnEntry (p.n + 1) lines i

  -- w·v is d, and w isn't 0 where d is 0
  pub record IsInverseRelation (w : List (List ℕ)) (d : List ℕ) : Type 0 where
    pub row : IsPolyRow k.ops p.n w
    pub over : IsOver k.ops d
    pub poly : IsPoly d
    pub product :
        row_scale (polynomials k).ops (suc (p.n - 1)) (value k d) (row_one (polynomials k).ring (p.n - 1))
        ≡ row_mul (polynomials k).ring (p.n - 1) (equation_of k p).coefficients (row_at k p w) (row_at k p v)
    pub some : d ≡ [] → (j : ℕ) × (j < p.n) × (get_or w j [] ≢ [])
