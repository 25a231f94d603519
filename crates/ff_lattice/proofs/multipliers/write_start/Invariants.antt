use Rattle.std.proofs.Common.{◌≡◌}
use Rattle.ff_lattice.proofs.multipliers.write_start.Given as goal
use Rattle.ff_lattice.proofs.ResidueSteps.{written}

abbrev pub invariant-loop-j : goal.invariant-loop-j
invariant-loop-j l = l.m ≡ written l.codes l.fn.m l.i l.j
