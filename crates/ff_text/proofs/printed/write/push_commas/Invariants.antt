use Rattle.std.proofs.Common.{◌≡◌, ◌++◌, drop}
use Rattle.ff_text.specs.PrintedWriting.{commas_text}
use Rattle.ff_text.proofs.printed.write.push_commas.Given as goal

-- what is written and what is still to be written are the whole
abbrev pub invariant-loop-p : goal.invariant-loop-p
invariant-loop-p l = l.out.items ++ commas_text (drop l.p-index l.polys) ≡ l.fn.out.items ++ commas_text l.polys
