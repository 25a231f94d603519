use Rattle.std.proofs.Common.{◌≡◌, take}
use Rattle.ff_factor.specs.Factors.{polys_of}
use Rattle.ff_factor.proofs.factors.Factors.polys.Given as goal

abbrev pub invariant-loop-part : goal.invariant-loop-part
invariant-loop-part l = l.polys.items ≡ polys_of (take l.part-index l.part-items)
