use Rattle.std.proofs.Common.{take}
use Rattle.ff_space.specs.Steps.{AreNumerators}
use Rattle.ff_space.proofs.denominators.all_numerators.Given as goal

-- the numerators of the elements so far
abbrev pub invariant-loop-z : goal.invariant-loop-z
invariant-loop-z g l = AreNumerators (g.K.SmallField.field l.k) l.n (take l.z-index l.zs) l.all.items l.e
