use Rattle.std.proofs.Common.{◌+◌, ◌≤◌}
use Rattle.ff_poly.specs.Popov.{rows_of, width_of}
use Rattle.ff_popov.specs.Rows.{IsApartBelow, Keeps, total_position}
use Rattle.ff_popov.proofs.weak.settle.Given as goal

abbrev pub invariant-loop-j : goal.invariant-loop-j
invariant-loop-j g l =
    let w = width_of (rows_of l.fn.rows) in
    record {
      keeps : Keeps (g.K.SmallField.field l.k) w (rows_of l.fn.rows) (rows_of l.rows);
      apart : IsApartBelow l.i (rows_of l.rows);
      steps : l.steps + total_position w (rows_of l.rows) ≤ l.fn.steps + total_position w (rows_of l.fn.rows);
      counted : l.fn.steps ≤ l.steps;
    }

abbrev pub decreases-loop-j : goal.decreases-loop-j
decreases-loop-j g l = total_position (width_of (rows_of l.fn.rows)) (rows_of l.rows)
