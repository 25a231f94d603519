use Rattle.std.proofs.Common.{◌≢◌, ℕ, ◌+◌, ◌*◌, ◌<◌, ◌≤◌, [], length, get_or}
use Rattle.ff_algebra.proofs.sides.codes_needed.Given as goal

-- m is enough for the denominator and the numerators below y^i
abbrev pub invariant-loop-i : goal.invariant-loop-i
invariant-loop-i l = record {
  den : length l.z.den ≤ l.m;
  num : (i : ℕ) → i < l.i → get_or l.z.num i [] ≢ [] → length (get_or l.z.num i []) + l.c * i ≤ l.m;
}
