use Rattle.std.proofs.Common.{◌≡◌, ◌≢◌, ◌<◌, ℕ, [], length, MatchOption}
use Rattle.ff_poly.specs.Popov.{rows_of}
use Rattle.ff_algebra.specs.Inverses.{line_entry}
use Rattle.ff_algebra.proofs.inverse.elimination.shortest_at.Given as goal

abbrev pub invariant-loop-i : goal.invariant-loop-i
invariant-loop-i l =
    MatchOption l.found ((j : ℕ) → j < l.i → line_entry (rows_of l.lines) j l.column ≡ [])
    (λ f. (f.0 < length l.lines) × (line_entry (rows_of l.lines) f.0 l.column ≢ []))
