-- The answers of `order`: the functions that are integral over the ring of a side, by the lattice that they are.
use Rattle.std.specs.Prelude.{ℕ, List, [], ◌∷◌, map, max, flat_map}
use Rattle.ff_fields.specs.Field.{CodeField}
use Rattle.function_field.specs.declared.side.Side.{Side}
use Rattle.function_field.specs.Values.{function_of}
use Rattle.function_field.specs.Curves.{CurveValue}
use Rattle.ff_lattice.specs.Lattices.{LatticeValue, IsLatticeValue, row_elems}
use Rattle.value_theory.specs.IntegralLattices.{presentation, SpansIntegral, SpansOverPowersOfT}
use Rattle.ff_text.specs.Printed.{WrittenValue}
use Rattle.ff_written.specs.LowestTerms.{elem_of}
use Rattle.ff_written.specs.Rows.{AreWrittenRows}
use Rattle.ff_cert.specs.RowMul as mul_row

module _ (k : CodeField) (c : CurveValue) where
  -- zs are the rows of that lattice as they are printed, and span its functions
  pub record IsTrue (s : Side) (zs : List WrittenValue) : Type 0 where
    pub lattice : LatticeValue
    pub form : IsLatticeValue k.ops (presentation c s).n lattice
    pub rows : AreWrittenRows k c s (row_elems lattice) zs
    pub span : SpansIntegral k c s (map (λ z. function_of k c.fin (elem_of z)) zs)
    pub whole : SpansOverPowersOfT k c s (map (λ z. function_of k c.fin (elem_of z)) zs)

-- a line for each row
abbrev pub lines : List WrittenValue → List ℕ
lines zs = flat_map mul_row.lines zs

-- the greatest degree of the rows' polynomials, 0 where there are none
abbrev pub degree : List WrittenValue → ℕ
degree [] = 0
degree (z ∷ zs) = max (mul_row.degree z) (degree zs)
