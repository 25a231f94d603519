use Rattle.ff_poly.specs.Popov.{rows_of}
use Rattle.ff_popov.specs.Rows.{IsOwners}
use Rattle.ff_popov.proofs.basis.owners.Given as goal

abbrev pub invariant-loop-column : goal.invariant-loop-column
invariant-loop-column l = IsOwners l.column (rows_of l.rows) l.found.items
