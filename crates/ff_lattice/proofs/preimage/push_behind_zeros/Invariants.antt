use Rattle.std.proofs.Common.{◌≡◌, ◌++◌, [], map, replicate, take}
use Rattle.ff_poly.specs.Popov.{rows_of}
use Rattle.ff_lattice.specs.Steps.{lifted}
use Rattle.ff_lattice.proofs.preimage.push_behind_zeros.Given as goal

abbrev pub invariant-loop-l : goal.invariant-loop-l
invariant-loop-l l = rows_of l.rows.items
    ≡ rows_of l.fn.rows.items ++ map (λ v. replicate l.zeros [] ++ lifted l.power v) (take l.l-index (rows_of l.ls))
