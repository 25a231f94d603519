use Rattle.std.proofs.Common.{◌≡◌, ◌++◌, take}
use Rattle.ff_lattice.specs.Steps.{lifted}
use Rattle.ff_lattice.proofs.preimage.push_lifted.Given as goal

abbrev pub invariant-loop-entry : goal.invariant-loop-entry
invariant-loop-entry l = l.row.items ≡ l.fn.row.items ++ lifted l.power (take l.entry-index l.entries)
