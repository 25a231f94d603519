use Rattle.std.proofs.Common.{◌≡◌, ◌++◌, drop}
use Rattle.ff_text.specs.Printing.{next_factors_text}
use Rattle.ff_text.proofs.print.push_next_factors.Given as goal

-- what is written and what is still to be written are the whole
abbrev pub invariant-loop-f : goal.invariant-loop-f
invariant-loop-f l = l.out.items ++ next_factors_text (drop l.f-index l.factors)
    ≡ l.fn.out.items ++ next_factors_text l.factors
