use Rattle.std.proofs.Common.{◌≡◌, ℕ, ◌<◌}
use Rattle.ff_poly.specs.Popov.{entry_at}
use Rattle.ff_lattice.proofs.sets.same_row.Given as goal

abbrev pub invariant-loop-j : goal.invariant-loop-j
invariant-loop-j l = (m : ℕ) → m < l.j → entry_at l.v m ≡ entry_at l.w m
