use Rattle.std.proofs.Common.{◌≡◌, max, drop}
use Rattle.ff_algebra.specs.CurveTerms.{degree_in_x}
use Rattle.ff_meaning.proofs.polynomials.degree_in_x.Given as goal

-- the greatest so far and those to come
abbrev pub invariant-loop-term : goal.invariant-loop-term
invariant-loop-term l = max l.degree (degree_in_x (drop l.term-index l.terms)) ≡ degree_in_x l.terms
