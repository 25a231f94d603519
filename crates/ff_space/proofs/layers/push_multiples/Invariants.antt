use Rattle.std.proofs.Common.{◌≡◌, ◌-◌, ◌++◌}
use Rattle.ff_space.specs.Layers.{multiples_of}
use Rattle.ff_space.proofs.layers.push_multiples.Given as goal

-- the multiples so far, and those of the last
abbrev pub invariant-loop-i : goal.invariant-loop-i
invariant-loop-i l = l.list.items ++ multiples_of (l.count - l.i) l.w ≡ l.fn.list.items ++ multiples_of l.count l.z
