use Rattle.std.proofs.Common.{◌↔◌, take, All}
use Rattle.function_field.specs.Values.{Functions, functions, function_of}
use Rattle.ff_lattice.specs.Lattices.{IsLatticeValue, Contains, row_elems}
use Rattle.ff_lattice.proofs.colons.restricted_by_rows.Given as goal

abbrev pub invariant-loop-i : goal.invariant-loop-i
invariant-loop-i g l =
    let k = g.K.SmallField.field l.k in
    record {
      form : IsLatticeValue k.ops l.p.n l.found;
      members :
          (z : Functions k l.p)
          → Contains k l.p l.found z
          ↔ (Contains k l.p l.fn.start z
          × All (λ w. Contains k l.p l.a ((functions k l.p).◌⊗◌ (function_of k l.p w) z))
          (take l.i (row_elems l.b)));
    }
