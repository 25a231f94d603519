use Rattle.std.proofs.Common.{◌≤◌, ◌-◌, IfSome, length, take}
use Rattle.ff_io.specs.Streams.{Appends, Fills}
use Rattle.ff_io.proofs.sink.write_all.Given as goal

abbrev pub invariant-loop-at : goal.invariant-loop-at
invariant-loop-at g l = let s = g.T.Sink in record {
  within : l.at ≤ length l.bytes;
  front : Appends (s.taken l.initial.out) (s.taken l.out) (take l.at l.bytes);
  count : s.faults l.initial.out ≤ s.faults l.out;
  room : IfSome (s.free l.initial.out) (λ f. length l.bytes ≤ f
      → Fills l.at f (s.free l.out) (s.faults l.initial.out) (s.faults l.out));
}

abbrev pub decreases-loop-at : goal.decreases-loop-at
decreases-loop-at g l = length l.bytes - l.at
