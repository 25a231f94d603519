use Rattle.std.proofs.Common.{◌≡◌, take}
use Rattle.ff_space.specs.Vectors.{vector_of}
use Rattle.ff_space.proofs.vectors.vector_of.Given as goal

-- the codes of the polynomials so far
abbrev pub invariant-loop-p : goal.invariant-loop-p
invariant-loop-p l = l.codes.items ≡ vector_of l.width (take l.p-index l.polys)
