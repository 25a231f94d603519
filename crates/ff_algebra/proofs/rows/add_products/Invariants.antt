use Rattle.std.proofs.Common.{◌≡◌, take, All}
use Rattle.ff_fields.specs.Over.{IsOver}
use Rattle.ff_algebra.specs.RowProducts.{add_products}
use Rattle.ff_algebra.proofs.rows.add_products.Given as goal

abbrev pub invariant-loop-i : goal.invariant-loop-i
invariant-loop-i g l =
    let k = g.K.SmallField.field l.k in
    record {
      done : l.sums ≡ add_products k.ops l.c l.a l.fn.sums (take l.i l.row);
      over : All (IsOver k.ops) l.sums;
    }
