use Rattle.std.proofs.Common.{◌≡◌, take}
use Rattle.ff_poly.specs.Popov.{longest}
use Rattle.ff_lattice.proofs.positions.longest_entry.Given as goal

abbrev pub invariant-loop-entry : goal.invariant-loop-entry
invariant-loop-entry l = l.most ≡ longest (take l.entry-index l.row)
