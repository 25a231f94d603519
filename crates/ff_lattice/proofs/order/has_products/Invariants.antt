use Rattle.std.proofs.Common.{ℕ, ◌<◌, get_or}
use Rattle.function_field.specs.Values.{ElemValue, function_of}
use Rattle.ff_lattice.specs.Lattices.{row_elems}
use Rattle.ff_lattice.specs.Orders.{TakesRowsIn}
use Rattle.ff_lattice.proofs.order.has_products.Given as goal

abbrev pub invariant-loop-i : goal.invariant-loop-i
invariant-loop-i g l =
    let k = g.K.SmallField.field l.k in
    (i : ℕ) (d : ElemValue) → i < l.i → TakesRowsIn k l.p l.l (function_of k l.p (get_or (row_elems l.l) i d))
