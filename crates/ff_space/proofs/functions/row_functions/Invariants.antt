use Rattle.std.proofs.Common.{take}
use Rattle.ff_space.specs.Spaces.{AreRowFunctions}
use Rattle.ff_space.proofs.functions.row_functions.Given as goal

-- the functions of the rows so far
abbrev pub invariant-loop-i : goal.invariant-loop-i
invariant-loop-i g l =
    AreRowFunctions (g.K.SmallField.field l.k) l.p l.den l.width (take l.i l.rows.rows) l.functions.items
