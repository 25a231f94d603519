use Rattle.std.proofs.Common.{◌≡◌, ◌++◌, drop}
use Rattle.ff_cert.specs.RowFactor.{part_lines}
use Rattle.ff_cert.proofs.text.push_parts.Given as goal

-- what is written and what is still to be written are the whole
abbrev pub invariant-loop-part : goal.invariant-loop-part
invariant-loop-part l = l.out.items ++ part_lines (drop l.part-index l.parts) ≡ l.fn.out.items ++ part_lines l.parts
