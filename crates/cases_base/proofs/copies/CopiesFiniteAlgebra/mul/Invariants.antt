use Rattle.std.proofs.Common.{◌≡◌, take}
use Rattle.cases_base.specs.Positions.{by_positions}
use Rattle.cases_base.proofs.copies.CopiesFiniteAlgebra.mul.Given as goal

abbrev pub invariant-loop-i : goal.invariant-loop-i
invariant-loop-i g l = l.out.items ≡ by_positions (g.K.SmallField.field l.k).ops (take l.i l.a) (take l.i l.b)
