use Rattle.std.proofs.Common.{◌≤◌, ◌+◌, ◌*◌, length}
use Rattle.ff_poly.specs.Popov.{rows_of}
use Rattle.ff_algebra.specs.Inverses.{AreEliminatedLines}
use Rattle.ff_algebra.proofs.inverse.elimination.relation.Given as goal

abbrev pub invariant-loop-column : goal.invariant-loop-column
invariant-loop-column g l =
    let k = g.K.SmallField.field l.k in
    record {
      lines : AreEliminatedLines k l.p l.v l.column (rows_of l.lines.items);
      enough : 2 * l.p.n + 2 ≤ length l.lines.items + l.column;
    }
