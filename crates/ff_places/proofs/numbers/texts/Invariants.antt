use Rattle.std.proofs.Common.{◌≡◌, take}
use Rattle.ff_falg.specs.Idempotents.{elements_of}
use Rattle.ff_written.specs.TextOrder.{texts_of}
use Rattle.ff_places.proofs.numbers.texts.Given as goal

-- the texts so far
abbrev pub invariant-loop-z : goal.invariant-loop-z
invariant-loop-z l = elements_of l.texts.items ≡ texts_of (take l.z-index l.rows)
