use Rattle.std.proofs.Common.{◌≡◌}
use Rattle.std.proofs.Math.IntN.{pos}
use Rattle.linear_theory.specs.Lists.{entry}
use Rattle.reduced_basis_theory.specs.Degree.{genus_sum}
use Rattle.ff_rr.proofs.genera.excess.Given as goal

-- the sum so far
abbrev pub invariant-loop-d : goal.invariant-loop-d
invariant-loop-d l = l.sum ≡ genus_sum l.d-index (entry (pos 0) l.degrees)
