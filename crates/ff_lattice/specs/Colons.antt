-- The functions that take one lattice into another: the colon of two lattices, for ideals their quotient (Cohen, A
-- Course in Computational Algebraic Number Theory).
use Rattle.std.specs.Prelude.{ℕ, ◌↔◌, List, [], replicate, slice_set, All}
use Rattle.ff_fields.specs.Field.{CodeField}
use Rattle.ff_poly.specs.Words.{IsPoly}
use Rattle.ff_poly.specs.Popov.{IsRow, IsPopovMatrix, InRowSpan, combination_list}
use Rattle.function_field.specs.Values.{ElemValue, PresValue, Functions, functions, function_of}
use Rattle.ff_lattice.specs.Lattices.{LatticeValue, Contains}

-- z times each member of b is in a
abbrev pub IsColon : (k : CodeField) (p : PresValue) → LatticeValue → LatticeValue → Functions k p → Type 0
IsColon k p a b z = (w : Functions k p) → Contains k p b w → Contains k p a ((functions k p).◌⊗◌ z w)

-- the numerators of 1 over a denominator
abbrev pub one_row : ℕ → List ℕ → List (List ℕ)
one_row n den = slice_set (replicate n []) 0 den

-- the Popov basis of the coefficients with which the rows of l combine to functions whose product with w is in a
pub record IsKept (k : CodeField) (p : PresValue) (l : LatticeValue) (w : ElemValue) (a : LatticeValue)
    (basis : List (List (List ℕ))) : Type 0 where
  pub rows_in : All (IsRow k.ops p.n) basis
  pub popov : IsPopovMatrix p.n basis
  pub members : (c : List (List ℕ)) → IsRow k.ops p.n c → All IsPoly c
      → InRowSpan k.ops p.n basis c
      ↔ Contains k p a ((functions k p).◌⊗◌ (function_of k p w)
      (function_of k p (record { num = combination_list k.ops p.n c l.rows; den = l.den })))
