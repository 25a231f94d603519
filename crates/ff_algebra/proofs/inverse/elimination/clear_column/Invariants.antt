use Rattle.std.proofs.Common.{◌≡◌, take, map}
use Rattle.ff_poly.specs.Popov.{rows_of}
use Rattle.ff_algebra.specs.Inverses.{eliminated_lines}
use Rattle.ff_algebra.proofs.inverse.elimination.clear_column.Given as goal

abbrev pub invariant-loop-line : goal.invariant-loop-line
invariant-loop-line g l =
    let k = g.K.SmallField.field l.k in
    rows_of l.rest.items ≡ map (eliminated_lines k.ops l.column l.pivot.items) (take l.line-index (rows_of l.line-items))
