use Rattle.std.proofs.Common.{◌≡◌, ◌-◌, ◌*◌, length, take, drop, map}
use Rattle.ff_linalg.proofs.kernels.lower_right.Given as goal
use Rattle.ff_linalg.specs.Matrix.{rows_in}

abbrev pub invariant-loop-i : goal.invariant-loop-i
invariant-loop-i l = record {
  long : length l.out.items ≡ l.i * (l.width - l.left);
  rows : rows_in (l.width - l.left) l.i l.out.items
      ≡ map (drop l.left) (take l.i (drop l.top (rows_in l.width l.rows l.entries)));
}
