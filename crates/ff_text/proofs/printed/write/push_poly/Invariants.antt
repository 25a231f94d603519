use Rattle.std.proofs.Common.{◌≡◌, ◌++◌, take, reverse}
use Rattle.ff_text.specs.Printed.{poly_text}
use Rattle.ff_text.specs.PrintedWriting.{plus_text}
use Rattle.ff_text.proofs.printed.write.push_poly.Given as goal

-- what is written and the terms below this degree are the whole
abbrev pub invariant-loop-j : goal.invariant-loop-j
invariant-loop-j l = l.out.items ++ plus_text (reverse (take l.j l.p)) ≡ l.fn.out.items ++ poly_text l.p
