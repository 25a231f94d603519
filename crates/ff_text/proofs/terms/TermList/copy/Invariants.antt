use Rattle.std.proofs.Common.{◌≡◌, ◌++◌, drop}
use Rattle.ff_text.proofs.terms.TermList.copy.Given as goal

-- what is copied and what is still to be copied are the whole
abbrev pub invariant-loop-t : goal.invariant-loop-t
invariant-loop-t l = l.terms.items ++ drop l.t-index l.t-items ≡ l.self
