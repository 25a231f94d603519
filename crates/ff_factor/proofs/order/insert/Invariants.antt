use Rattle.std.proofs.Common.{◌≡◌, ◌<◌, ℕ, [], get_or}
use Rattle.ff_factor.specs.Factors.{IsBeforePoly}
use Rattle.ff_factor.proofs.order.insert.Given as goal

abbrev pub invariant-loop-i : goal.invariant-loop-i
invariant-loop-i l = record {
  polys : l.polys.items ≡ l.fn.polys.items;
  same : l.p ≡ l.fn.p;
  before : (j : ℕ) → j < l.i → IsBeforePoly (get_or l.fn.polys.items j []) l.fn.p;
}
