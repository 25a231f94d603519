use Rattle.std.proofs.Common.{take}
use Rattle.ff_order.specs.Steps.{IsEnlarged}
use Rattle.ff_order.proofs.enlarge.maximal.Given as goal

abbrev pub invariant-loop-pi : goal.invariant-loop-pi
invariant-loop-pi g l = IsEnlarged (g.K.SmallField.field l.k) l.p (take l.pi-index l.primes) l.o l.cur
