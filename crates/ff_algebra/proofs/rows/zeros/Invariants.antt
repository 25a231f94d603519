use Rattle.std.proofs.Common.{◌≡◌, [], replicate}
use Rattle.ff_algebra.proofs.rows.zeros.Given as goal

abbrev pub invariant-loop : goal.invariant-loop
invariant-loop l = l.row.items ≡ replicate l.counter []
