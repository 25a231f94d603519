use Rattle.std.proofs.Common.{◌≡◌, ◌++◌, map, take}
use Rattle.ff_structure.proofs.structure.push_multiples.Given as goal

abbrev pub invariant-loop-x : goal.invariant-loop-x
invariant-loop-x g l =
    l.out.items ≡ l.fn.out.items ++ map ((g.K.SmallField.field l.k).mul l.c) (take l.x-index l.codes)
