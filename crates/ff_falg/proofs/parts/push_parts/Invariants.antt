use Rattle.std.proofs.Common.{◌≡◌, ◌++◌, map, take}
use Rattle.ff_falg.specs.Idempotents.{elements_of}
use Rattle.ff_falg.specs.Splits.{part_of}
use Rattle.ff_falg.proofs.parts.push_parts.Given as goal

abbrev pub invariant-loop-c : goal.invariant-loop-c
invariant-loop-c g l =
    let k = (g.K.SmallField.field l.k).ops in
    elements_of l.out.items ≡ elements_of l.fn.out.items ++ map (part_of k l.lower l.powers) (take l.c-index l.found)
