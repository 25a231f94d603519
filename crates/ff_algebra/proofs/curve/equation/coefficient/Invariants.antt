use Rattle.ff_algebra.proofs.CurveTerms.{AreCodesFrom}
use Rattle.ff_algebra.proofs.curve.equation.coefficient.Given as goal

-- the terms from j on are added
abbrev pub invariant-loop-j : goal.invariant-loop-j
invariant-loop-j g l = AreCodesFrom (g.K.SmallField.field l.k).ops l.i l.terms l.j l.codes
