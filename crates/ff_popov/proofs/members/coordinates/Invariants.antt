use Rattle.std.proofs.Common.{length}
use Rattle.ff_poly.specs.Popov.{rows_of}
use Rattle.ff_popov.specs.Rows.{position}
use Rattle.ff_popov.proofs.DivisionSteps.{IsRest}
use Rattle.ff_popov.proofs.members.coordinates.Given as goal

abbrev pub invariant-loop-column : goal.invariant-loop-column
invariant-loop-column g l = IsRest (g.K.SmallField.field l.k) (length l.v) (rows_of l.basis) l.v l.coefficients.items
    l.rest.items

abbrev pub decreases-loop-column : goal.decreases-loop-column
decreases-loop-column g l = position (length l.v) l.rest.items
