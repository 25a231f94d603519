use Rattle.std.proofs.Common.{◌≡◌, ℕ, ◌-◌, ◌*◌, ◌<◌, [], length, get_or}
use Rattle.function_field.specs.Curves.{reversed_of}
use Rattle.ff_algebra.proofs.sides.turned.Given as goal

-- the numerators below Y^i are made
abbrev pub invariant-loop-i : goal.invariant-loop-i
invariant-loop-i g l = record {
  size : length l.num.items ≡ l.i;
  each : (i : ℕ) → i < l.i → get_or l.num.items i [] ≡ reversed_of (get_or l.z.num i []) (l.m - l.c * i);
}
