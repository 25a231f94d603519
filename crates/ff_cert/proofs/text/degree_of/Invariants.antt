use Rattle.std.proofs.Common.{◌≡◌, max, drop}
use Rattle.ff_meaning.specs.Meaning.{greatest_degree}
use Rattle.ff_cert.specs.RowMul.{degree}
use Rattle.ff_cert.proofs.text.degree_of.Given as goal

-- the greatest so far and those to come
abbrev pub invariant-loop-p : goal.invariant-loop-p
invariant-loop-p l = max l.degree (greatest_degree (drop l.p-index l.p-items)) ≡ degree l.z
