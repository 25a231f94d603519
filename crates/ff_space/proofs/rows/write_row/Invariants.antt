use Rattle.std.proofs.Common.{◌≡◌}
use Rattle.ff_lattice.proofs.ResidueSteps.{written}
use Rattle.ff_space.proofs.rows.write_row.Given as goal

-- the first codes are written
abbrev pub invariant-loop-j : goal.invariant-loop-j
invariant-loop-j l = l.m ≡ written l.codes l.fn.m l.i l.j
