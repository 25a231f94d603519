use Rattle.std.proofs.Common.{◌≡◌, length}
use Rattle.ff_text.specs.PrintedReading.{with_front, polys_at}
use Rattle.ff_text.proofs.printed.elem.more_polys.Given as goal

abbrev pub invariant-loop-start : goal.invariant-loop-start
invariant-loop-start l = with_front l.polys.items (polys_at l.rest) ≡ with_front l.fn.polys.items (polys_at l.bytes)

abbrev pub decreases-loop-start : goal.decreases-loop-start
decreases-loop-start l = length l.rest
