use Rattle.std.proofs.Common.{◌≡◌, take}
use Rattle.ff_factor.proofs.lowest.copy_all.Given as goal

abbrev pub invariant-loop-p : goal.invariant-loop-p
invariant-loop-p l = l.copies.items ≡ take l.p-index l.polys
