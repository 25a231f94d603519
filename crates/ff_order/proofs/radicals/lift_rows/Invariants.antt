use Rattle.std.proofs.Common.{take}
use Rattle.ff_order.specs.Steps.{AreLifts}
use Rattle.ff_order.proofs.radicals.lift_rows.Given as goal

abbrev pub invariant-loop-r : goal.invariant-loop-r
invariant-loop-r g l = AreLifts (g.K.SmallField.field l.k) l.q (take l.r l.m.rows) l.lifts.items
