use Rattle.std.proofs.Common.{◌≡◌, ◌-◌, ◌*◌, ◌++◌, length}
use Rattle.ff_space.specs.Vectors.{parts_of}
use Rattle.ff_space.proofs.vectors.parts_of.Given as goal

-- the parts so far, and those of the rest
abbrev pub invariant-loop-i : goal.invariant-loop-i
invariant-loop-i l = record {
  long : length l.rest ≡ (l.n - l.i) * l.width;
  is : l.polys.items ++ parts_of l.width (l.n - l.i) l.rest ≡ parts_of l.width l.n l.codes;
}
