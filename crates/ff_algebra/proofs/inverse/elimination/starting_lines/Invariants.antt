use Rattle.std.proofs.Common.{◌≡◌, ◌<◌, ℕ, [], length, get_or}
use Rattle.ff_poly.specs.Popov.{rows_of}
use Rattle.ff_algebra.proofs.EliminatedLines.{IsStart}
use Rattle.ff_algebra.proofs.inverse.elimination.starting_lines.Given as goal

abbrev pub invariant-loop-i : goal.invariant-loop-i
invariant-loop-i g l =
    let k = g.K.SmallField.field l.k in
    record {
      count : length l.lines.items ≡ l.i;
      starts : (j : ℕ) → j < l.i → IsStart k l.p l.v j (get_or (rows_of l.lines.items) j []);
    }
