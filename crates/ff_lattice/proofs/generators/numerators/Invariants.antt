use Rattle.std.proofs.Common.{◌≡◌, ℕ, ◌<◌, length, get_or}
use Rattle.ff_poly.specs.Popov.{rows_of, row_at}
use Rattle.function_field.specs.Values.{ElemValue}
use Rattle.ff_lattice.specs.Steps.{IsExpansion}
use Rattle.ff_lattice.proofs.generators.numerators.Given as goal

abbrev pub invariant-loop-z : goal.invariant-loop-z
invariant-loop-z g l = record {
  size : length (rows_of l.rows.items) ≡ l.z-index;
  each : (m : ℕ) (d : ElemValue) → m < l.z-index
      → IsExpansion (g.K.SmallField.field l.k).ops l.e (get_or l.gens m d) (row_at (rows_of l.rows.items) m);
}
