use Rattle.std.proofs.Common.{◌↔◌, drop}
use Rattle.ff_falg.specs.Idempotents.{elements_of}
use Rattle.ff_written.specs.TextOrder.{IsBeforeText, IsBeforeTexts}
use Rattle.ff_written.proofs.TextOrder.{Lex}
use Rattle.ff_places.proofs.numbers.is_before.Given as goal

-- the texts are the same up to here
abbrev pub invariant-loop-i : goal.invariant-loop-i
invariant-loop-i l =
    Lex IsBeforeText (drop l.i (elements_of l.a)) (drop l.i (elements_of l.b))
    ↔ IsBeforeTexts (elements_of l.a) (elements_of l.b)
