use Rattle.std.proofs.Common.{take}
use Rattle.ff_poly.specs.Popov.{rows_of}
use Rattle.ff_lattice.specs.Steps.{IsQuotientOfRows}
use Rattle.ff_lattice.proofs.denominators.quotient_rows.Given as goal

abbrev pub invariant-loop-row : goal.invariant-loop-row
invariant-loop-row g l = IsQuotientOfRows (g.K.SmallField.field l.k).ops l.g l.n (take l.row-index (rows_of l.rows))
    (rows_of l.quotients.items)
