use Rattle.std.proofs.Common.{◌≡◌, max, drop}
use Rattle.ff_cert.specs.RowOrder.{degree}
use Rattle.ff_cert.proofs.text.degree_of_rows.Given as goal

-- the greatest so far and those to come
abbrev pub invariant-loop-z : goal.invariant-loop-z
invariant-loop-z l = max l.degree (degree (drop l.z-index l.rows)) ≡ degree l.rows
