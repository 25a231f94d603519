use Rattle.std.proofs.Common.{◌≡◌, map, take}
use Rattle.ff_split.proofs.order.degrees.Given as goal

abbrev pub invariant-loop-p : goal.invariant-loop-p
invariant-loop-p l = l.degrees.items ≡ map (λ p. p.0) (take l.p-index l.order)
