use Rattle.std.proofs.Common.{◌≡◌}
use Rattle.ff_poly.specs.Popov.{rows_of}
use Rattle.linear_theory.specs.Lists.{tabulate}
use Rattle.split_theory.specs.Splits.{split_degree}
use Rattle.ff_split.proofs.order.columns.Given as goal

-- the columns so far
abbrev pub invariant-loop-i : goal.invariant-loop-i
invariant-loop-i l = l.columns.items ≡ tabulate l.i (λ i. (split_degree l.u (rows_of l.rows) i, i))
