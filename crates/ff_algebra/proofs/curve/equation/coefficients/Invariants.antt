use Rattle.std.proofs.Common.{◌≡◌, ℕ, ◌<◌, ◌≤◌, [], length, get_or, All}
use Rattle.ff_fields.specs.Over.{IsOver}
use Rattle.ff_algebra.specs.CurveTerms.{IsCoefficient}
use Rattle.ff_algebra.proofs.curve.equation.coefficients.Given as goal

-- the coefficients below y^i are made
abbrev pub invariant-loop-i : goal.invariant-loop-i
invariant-loop-i g l =
    let ops = (g.K.SmallField.field l.k).ops in
    record {
      size : length l.coeffs.items ≡ l.i;
      each : (i : ℕ) → i < l.i → IsCoefficient ops l.terms i (get_or l.coeffs.items i []);
      over : All (IsOver ops) l.coeffs.items;
      short : All (λ p. length p ≤ 33) l.coeffs.items;
    }
