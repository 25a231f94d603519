use Rattle.ff_poly.specs.Popov.{rows_of}
use Rattle.ff_lattice.specs.PositionLists.{IsDeepest}
use Rattle.ff_lattice.proofs.positions.deepest.Given as goal

abbrev pub invariant-loop-j : goal.invariant-loop-j
invariant-loop-j g l = IsDeepest (rows_of l.rows) l.j l.most
