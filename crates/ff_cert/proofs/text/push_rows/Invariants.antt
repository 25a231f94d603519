use Rattle.std.proofs.Common.{◌≡◌, ◌++◌, drop}
use Rattle.ff_cert.specs.RowOrder.{lines}
use Rattle.ff_cert.proofs.text.push_rows.Given as goal

-- what is written and what is still to be written are the whole
abbrev pub invariant-loop-z : goal.invariant-loop-z
invariant-loop-z l = l.out.items ++ lines (drop l.z-index l.rows) ≡ l.fn.out.items ++ lines l.rows
