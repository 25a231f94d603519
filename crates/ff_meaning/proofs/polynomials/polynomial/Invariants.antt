use Rattle.ff_meaning.proofs.PolynomialTerms.{AreCodesFrom}
use Rattle.ff_meaning.proofs.polynomials.polynomial.Given as goal

-- the terms from j on are added
abbrev pub invariant-loop-j : goal.invariant-loop-j
invariant-loop-j g l = AreCodesFrom (g.K.SmallField.field l.k).ops l.bound l.terms l.j l.codes.items
