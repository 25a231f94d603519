use Rattle.ff_falg.specs.Steps.{IsLessUnit}
use Rattle.ff_falg.proofs.spaces.take_unit.Given as goal

abbrev pub invariant-loop-i : goal.invariant-loop-i
invariant-loop-i g l = IsLessUnit (g.K.SmallField.field l.k).ops l.fn.m l.i l.m
