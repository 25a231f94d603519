use Rattle.std.proofs.Common.{length}
use Rattle.ff_algebra.proofs.Minors.{IsExpanded}
use Rattle.ff_algebra.proofs.curve.discriminant.+determinant.Given as goal

abbrev pub decreases-determinant : goal.decreases-determinant
decreases-determinant g l = length l.rows.now

-- the terms of the rows before row i are added
abbrev pub invariant-loop-i : goal.invariant-loop-i
invariant-loop-i g l = IsExpanded (g.K.SmallField.field l.k) l.entries l.rows l.column l.i l.sign l.sum
