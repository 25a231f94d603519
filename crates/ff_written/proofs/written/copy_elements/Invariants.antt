use Rattle.std.proofs.Common.{◌≡◌, take}
use Rattle.ff_written.proofs.written.copy_elements.Given as goal

-- the elements so far are copied
abbrev pub invariant-loop-z : goal.invariant-loop-z
invariant-loop-z l = l.copies.items ≡ take l.z-index l.elements
