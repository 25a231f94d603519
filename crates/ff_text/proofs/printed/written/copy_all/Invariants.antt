use Rattle.std.proofs.Common.{◌≡◌, ◌++◌, drop}
use Rattle.ff_text.proofs.printed.written.copy_all.Given as goal

-- what is copied and what is still to be copied are the whole
abbrev pub invariant-loop-p : goal.invariant-loop-p
invariant-loop-p l = l.copies.items ++ drop l.p-index l.polys ≡ l.polys
