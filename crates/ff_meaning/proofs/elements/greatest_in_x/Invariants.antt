use Rattle.std.proofs.Common.{◌≡◌, max, drop}
use Rattle.ff_meaning.specs.Elements.{greatest_in_x}
use Rattle.ff_meaning.proofs.elements.greatest_in_x.Given as goal

-- the greatest so far and those to come
abbrev pub invariant-loop-terms : goal.invariant-loop-terms
invariant-loop-terms l = max l.degree (greatest_in_x (drop l.terms-index l.sums)) ≡ greatest_in_x l.sums
