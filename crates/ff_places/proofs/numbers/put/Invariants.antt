use Rattle.std.proofs.Common.{◌≡◌, ◌<◌, ℕ, get_or, length}
use Rattle.ff_places.specs.Steps.{ListedPrime, ListedBefore}
use Rattle.ff_places.proofs.numbers.put.Given as goal

-- it comes before none of the members so far
abbrev pub invariant-loop-i : goal.invariant-loop-i
invariant-loop-i l = record {
  list : l.list.items ≡ l.fn.list.items;
  same : l.x ≡ l.fn.x;
  behind : (j : ℕ) (d : ListedPrime) → j < l.i → j < length l.fn.list.items
      → ¬ ListedBefore l.fn.x (get_or l.fn.list.items j d);
}
