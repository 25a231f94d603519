use Rattle.std.proofs.Common.{◌≡◌, ◌≤◌, ◌++◌, length, take, drop}
use Rattle.ff_poly.proofs.slices.add_product_to.Given as goal
use Rattle.ff_fields.specs.Code.{raw_ring}
use Rattle.ff_poly.specs.Sums.{add_onto}

abbrev pub invariant-loop-i : goal.invariant-loop-i
invariant-loop-i g l = record {
  within : l.i ≤ length l.a;
  done : l.sum ≡ take l.i l.fn.sum ++ add_onto (raw_ring (g.K.SmallField.field l.k).ops) l.c (drop l.i l.a) l.b
      (drop l.i l.fn.sum);
}

abbrev pub decreases-loop-i : goal.decreases-loop-i
decreases-loop-i g l = l.i
