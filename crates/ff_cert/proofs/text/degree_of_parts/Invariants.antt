use Rattle.std.proofs.Common.{◌≡◌, max, drop}
use Rattle.ff_cert.specs.RowFactor.{degree}
use Rattle.ff_cert.proofs.text.degree_of_parts.Given as goal

-- the greatest so far and those to come
abbrev pub invariant-loop-part : goal.invariant-loop-part
invariant-loop-part l = max l.degree (degree (drop l.part-index l.parts)) ≡ degree l.parts
