use Rattle.std.proofs.Common.{take}
use Rattle.ff_poly.specs.Popov.{rows_of}
use Rattle.ff_lattice.specs.Quotients.{IsRowsOf}
use Rattle.ff_lattice.proofs.quotient.rows_over.Given as goal

abbrev pub invariant-loop-z : goal.invariant-loop-z
invariant-loop-z g l = IsRowsOf (g.K.SmallField.field l.k) l.p l.l (take l.z-index l.zs) (rows_of l.rows.items)
