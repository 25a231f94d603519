use Rattle.std.proofs.Common.{◌≡◌, ◌<◌, ℕ, get_or, length}
use Rattle.ff_text.specs.Printed.{WrittenValue}
use Rattle.ff_rr.specs.Listings.{IsWrittenBefore}
use Rattle.ff_rr.proofs.listing.put.Given as goal

-- its text comes before none of those so far
abbrev pub invariant-loop-i : goal.invariant-loop-i
invariant-loop-i l = record {
  list : l.list.items ≡ l.fn.list.items;
  same : l.z ≡ l.fn.z;
  behind : (j : ℕ) (d : WrittenValue) → j < l.i → j < length l.fn.list.items
      → ¬ IsWrittenBefore l.fn.z (get_or l.fn.list.items j d);
}
