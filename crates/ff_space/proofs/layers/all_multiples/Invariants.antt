use Rattle.std.proofs.Common.{◌≡◌, ◌++◌, drop}
use Rattle.ff_space.specs.Layers.{layers_of}
use Rattle.ff_space.proofs.layers.all_multiples.Given as goal

-- the multiples so far, and those of the elements that are left
abbrev pub invariant-loop-i : goal.invariant-loop-i
invariant-loop-i l =
    l.list.items ++ layers_of (drop l.i l.basis) (drop l.i l.degrees) ≡ layers_of l.basis l.degrees
