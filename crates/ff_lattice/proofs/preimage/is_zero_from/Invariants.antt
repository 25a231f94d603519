use Rattle.std.proofs.Common.{◌≡◌, ℕ, ◌<◌, ◌≤◌, []}
use Rattle.ff_poly.specs.Popov.{entry_at}
use Rattle.ff_lattice.proofs.preimage.is_zero_from.Given as goal

abbrev pub invariant-loop-j : goal.invariant-loop-j
invariant-loop-j l = (m : ℕ) → l.position ≤ m → m < l.j → entry_at l.row m ≡ []
