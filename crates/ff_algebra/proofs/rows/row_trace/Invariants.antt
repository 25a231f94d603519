use Rattle.std.proofs.Common.{◌≡◌}
use Rattle.ff_fields.specs.Over.{IsOver}
use Rattle.ff_poly.specs.Value.{value}
use Rattle.ff_algebra.specs.RowProducts.{IsPolyRow, row_at}
use Rattle.ff_algebra.proofs.Traces.{times_power, diagonal}
use Rattle.ff_algebra.proofs.rows.row_trace.Given as goal

abbrev pub invariant-loop-i : goal.invariant-loop-i
invariant-loop-i g l =
    let k = g.K.SmallField.field l.k in
    record {
      row : IsPolyRow k.ops l.p.n l.row.items;
      power : row_at k l.p l.row.items ≡ times_power k l.p (row_at k l.p l.v) l.i;
      sum_in : IsOver k.ops l.sum;
      sum : value k l.sum ≡ diagonal k l.p (row_at k l.p l.v) l.i;
    }
