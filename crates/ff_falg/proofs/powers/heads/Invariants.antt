use Rattle.std.proofs.Common.{◌≡◌, length}
use Rattle.ff_falg.proofs.powers.heads.Given as goal

abbrev pub invariant-loop-j : goal.invariant-loop-j
invariant-loop-j l = length l.heads.items ≡ length l.next
