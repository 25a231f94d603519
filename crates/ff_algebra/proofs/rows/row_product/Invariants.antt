use Rattle.std.proofs.Common.{◌≡◌, ◌≤◌, length, drop}
use Rattle.ff_algebra.specs.RowProducts.{IsPolyRow, row_at, list_times}
use Rattle.ff_algebra.proofs.rows.row_product.Given as goal

abbrev pub invariant-loop-i : goal.invariant-loop-i
invariant-loop-i g l =
    let k = g.K.SmallField.field l.k in
    record {
      within : l.i ≤ length l.v;
      row : IsPolyRow k.ops l.p.n l.product.items;
      done : row_at k l.p l.product.items ≡ list_times k l.p (drop l.i l.v) (row_at k l.p l.w);
    }

abbrev pub decreases-loop-i : goal.decreases-loop-i
decreases-loop-i g l = l.i
