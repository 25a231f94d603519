-- What rows of lists of codes stand for: members of the module of rows of polynomials over k.
use Rattle.std.specs.Prelude.{ℕ, zero, suc, ◌-◌, List, [], ◌∷◌, map}
use Rattle.ff_fields.specs.Field.{CodeField}
use Rattle.ff_fields.specs.Code.{code_ring}
use Rattle.ring_lemmas.specs.Rows.{Row}
use Rattle.ring_lemmas.specs.Polynomials.{Pol}
use Rattle.ring_theory.specs.PolynomialRing.{pol_ring}
use Rattle.ff_poly.specs.Value.{value}
use Rattle.popov_theory.specs.Module.{PolynomialModule}
use Rattle.popov_theory.specs.RowModule.{row_module}

module _ (k : CodeField) where
  -- the row of n polynomials; zero past the end
  abbrev pub read_row : (n : ℕ) → List (List ℕ) → Row (Pol (code_ring k)) n
  read_row zero v = tt
  read_row (suc n) [] = ((pol_ring (code_ring k)).𝟘, read_row n [])
  read_row (suc n) (a ∷ v) = (value k a, read_row n v)

  -- the rows of the width; of width 0, those of one column, which are read as zero
  abbrev pub row_space : (width : ℕ) → PolynomialModule (code_ring k) (Row (Pol (code_ring k)) (suc (width - 1)))
  row_space width = row_module (code_ring k) (width - 1)

  abbrev pub read_rows : (width : ℕ) → List (List (List ℕ)) → List (Row (Pol (code_ring k)) (suc (width - 1)))
  read_rows width rows = map (read_row (suc (width - 1))) rows
