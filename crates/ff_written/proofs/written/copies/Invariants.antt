use Rattle.std.proofs.Common.{◌≡◌, take}
use Rattle.ff_written.proofs.written.copies.Given as goal

-- the polynomials so far are copied
abbrev pub invariant-loop-p : goal.invariant-loop-p
invariant-loop-p l = l.copies.items ≡ take l.p-index l.polys
