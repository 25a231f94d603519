use Rattle.std.proofs.Common.{◌≡◌, ◌++◌, drop}
use Rattle.ff_text.specs.Printing.{next_terms_text}
use Rattle.ff_text.proofs.print.push_next_terms.Given as goal

-- what is written and what is still to be written are the whole
abbrev pub invariant-loop-t : goal.invariant-loop-t
invariant-loop-t l = l.out.items ++ next_terms_text (drop l.t-index l.terms) ≡ l.fn.out.items ++ next_terms_text l.terms
