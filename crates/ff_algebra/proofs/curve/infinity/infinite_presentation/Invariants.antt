use Rattle.std.proofs.Common.{◌≡◌, ℕ, ◌+◌, ◌-◌, ◌*◌, ◌<◌, [], length, get_or, All}
use Rattle.ff_poly.specs.Words.{IsPoly}
use Rattle.function_field.specs.Curves.{reversed_of}
use Rattle.ff_algebra.proofs.curve.infinity.infinite_presentation.Given as goal

-- the coefficients below Y^i are made
abbrev pub invariant-loop-i : goal.invariant-loop-i
invariant-loop-i l = record {
  size : length l.coeffs.items ≡ l.i;
  each : (i : ℕ) → i < l.i → get_or l.coeffs.items i [] ≡ reversed_of (get_or l.f.coeffs i []) (l.c * (l.f.n - i) + 1);
  poly : All IsPoly l.coeffs.items;
}
