use Rattle.std.proofs.Common.{◌≡◌, ◌++◌, drop}
use Rattle.ff_cert.specs.RowPlaces.{place_lines}
use Rattle.ff_cert.proofs.text.push_each_place.Given as goal

-- what is written and what is still to be written are the whole
abbrev pub invariant-loop-p : goal.invariant-loop-p
invariant-loop-p l = l.out.items ++ place_lines (drop l.p-index l.places) ≡ l.fn.out.items ++ place_lines l.places
