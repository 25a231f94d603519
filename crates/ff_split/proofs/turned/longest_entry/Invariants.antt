use Rattle.std.proofs.Common.{ℕ, ◌<◌, ◌≤◌, length}
use Rattle.ff_poly.specs.Popov.{entry_at}
use Rattle.ff_split.proofs.turned.longest_entry.Given as goal

abbrev pub invariant-loop-entry : goal.invariant-loop-entry
invariant-loop-entry l = record {
  least : l.least ≤ l.longest;
  each : (i : ℕ) → i < l.entry-index → length (entry_at l.row i) ≤ l.longest;
}
