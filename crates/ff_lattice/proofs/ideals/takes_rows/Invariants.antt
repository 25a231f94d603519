use Rattle.std.proofs.Common.{ℕ, ◌<◌, get_or}
use Rattle.function_field.specs.Values.{ElemValue, function_of}
use Rattle.ff_lattice.specs.Lattices.{row_elems}
use Rattle.ff_lattice.specs.Orders.{TakesRowsIn}
use Rattle.ff_lattice.proofs.ideals.takes_rows.Given as goal

abbrev pub invariant-loop-j : goal.invariant-loop-j
invariant-loop-j g l =
    let k = g.K.SmallField.field l.k in
    (m : ℕ) (d : ElemValue) → m < l.j → TakesRowsIn k l.p l.i (function_of k l.p (get_or (row_elems l.l) m d))
