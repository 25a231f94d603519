-- The written rows of a side's integral functions are the answer of `order`.
use Rattle.std.proofs.Common.{List, subst}
use Rattle.std.specs.Prelude.{Result, Ok, Err, IfOk}
use Rattle.std.specs.declared.alloc.AllocError.{AllocError}
use Rattle.ff_fields.specs.Field.{CodeField}
use Rattle.function_field.specs.declared.side.Side.{Side}
use Rattle.function_field.specs.Curves.{CurveValue}
use Rattle.ff_lattice.specs.Lattices.{LatticeValue, row_elems}
use Rattle.value_theory.specs.IntegralLattices.{SpansIntegral, SpansOverPowersOfT, IsIntegralLattice}
use Rattle.ff_text.specs.Printed.{WrittenValue}
use Rattle.ff_written.specs.Rows.{AreWrittenRows}
use Rattle.ff_written.proofs.WrittenRows.{written_functions}
use Rattle.ff_cert.specs.RowOrder as order_row

module _ (k : CodeField) (c : CurveValue) (s : Side) where
  pub order_answer : (l : LatticeValue) (zs : List WrittenValue) → IsIntegralLattice k c s l
      → AreWrittenRows k c s (row_elems l) zs → order_row.IsTrue k c s zs
  order_answer l zs h rows = record {
    lattice = l;
    form = h.form;
    rows = rows;
    span = subst (SpansIntegral k c s) (written_functions k c s (row_elems l) zs rows) h.span;
    whole = subst (SpansOverPowersOfT k c s) (written_functions k c s (row_elems l) zs rows) h.whole;
  }

  pub rows_answer : (l : LatticeValue) (x : Result (List WrittenValue) AllocError) → IsIntegralLattice k c s l
      → IfOk x (AreWrittenRows k c s (row_elems l)) → IfOk x (order_row.IsTrue k c s)
  rows_answer l (Ok zs) h rows = order_answer l zs h rows
  rows_answer l (Err e) h rows = rows
