use Rattle.std.proofs.Common.{◌≡◌, ◌<◌, drop}
use Rattle.ff_falg.specs.Roots.{monic_value, quotient_of}
use Rattle.ff_falg.proofs.roots.write_quotient.Given as goal

abbrev pub invariant-loop-j : goal.invariant-loop-j
invariant-loop-j g l =
    let k = g.K.SmallField.field l.k in
    record {
      below : l.v < k.size;
      value : l.v ≡ monic_value k.ops (drop l.j l.lower) l.c;
      written : drop l.j l.quotient ≡ quotient_of k.ops (drop l.j l.lower) l.c;
    }
