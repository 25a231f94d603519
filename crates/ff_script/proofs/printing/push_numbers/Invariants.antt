use Rattle.std.proofs.Common.{◌≡◌, ◌++◌, drop}
use Rattle.ff_script.specs.Printing.{numbers_text}
use Rattle.ff_script.proofs.printing.push_numbers.Given as goal

-- what is written and what is still to be written are the whole
abbrev pub invariant-loop-n : goal.invariant-loop-n
invariant-loop-n l = l.out.items ++ numbers_text (drop l.n-index l.numbers) ≡ l.fn.out.items ++ numbers_text l.numbers
