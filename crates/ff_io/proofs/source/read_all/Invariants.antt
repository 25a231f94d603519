use Rattle.std.proofs.Common.{◌≡◌, ◌-◌, ◌≤◌, IfSome, length}
use Rattle.ff_io.specs.Streams.{Took}
use Rattle.ff_io.proofs.source.read_all.Given as goal

abbrev pub invariant-loop-asked : goal.invariant-loop-asked
invariant-loop-asked g l = let s = g.S.Source in let bytes = l.bytes.items in record {
  within : length bytes ≤ l.limit;
  front : IfSome (s.left l.initial.src) (λ xs. Took (length bytes) bytes xs (s.left l.src));
  count : s.faults l.initial.src ≤ s.faults l.src;
  steady : s.steady l.initial.src → (s.faults l.src ≡ s.faults l.initial.src) × s.steady l.src;
}

abbrev pub decreases-loop-asked : goal.decreases-loop-asked
decreases-loop-asked g l = l.limit - length l.bytes.items
