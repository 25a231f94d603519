use Rattle.std.proofs.Common.{◌≡◌, ℕ, ◌<◌, ◌≤◌, length}
use Rattle.ff_poly.specs.Terms.{less_multiple}
use Rattle.ff_poly.specs.Popov.{entry_at}
use Rattle.ff_popov.proofs.rows.subtract.Given as goal

abbrev pub invariant-loop-i : goal.invariant-loop-i
invariant-loop-i g l = record {
  size : length l.row ≡ length l.fn.row;
  done : (n : ℕ) → n < l.i → entry_at l.row n
      ≡ less_multiple (g.K.SmallField.field l.k).ops (entry_at l.fn.row n) l.c l.s (entry_at l.other n);
  left : (n : ℕ) → l.i ≤ n → entry_at l.row n ≡ entry_at l.fn.row n;
}
