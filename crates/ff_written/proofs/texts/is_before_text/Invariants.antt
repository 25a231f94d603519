use Rattle.std.proofs.Common.{◌<◌, ◌↔◌, drop}
use Rattle.ff_written.specs.TextOrder.{IsBeforeText}
use Rattle.ff_written.proofs.TextOrder.{Lex}
use Rattle.ff_written.proofs.texts.is_before_text.Given as goal

-- the texts are the same up to here
abbrev pub invariant-loop-i : goal.invariant-loop-i
invariant-loop-i l = Lex ◌<◌ (drop l.i l.a) (drop l.i l.b) ↔ IsBeforeText l.a l.b
