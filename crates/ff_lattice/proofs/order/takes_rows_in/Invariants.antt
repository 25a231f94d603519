use Rattle.std.proofs.Common.{ℕ, ◌<◌, get_or}
use Rattle.function_field.specs.Values.{ElemValue, functions, function_of}
use Rattle.ff_lattice.specs.Lattices.{Contains, row_elems}
use Rattle.ff_lattice.proofs.order.takes_rows_in.Given as goal

abbrev pub invariant-loop-j : goal.invariant-loop-j
invariant-loop-j g l =
    let k = g.K.SmallField.field l.k in
    let f = function_of k l.p in
    (i : ℕ) (d : ElemValue) → i < l.j → Contains k l.p l.l
    ((functions k l.p).◌⊗◌ (f l.z) (f (get_or (row_elems l.l) i d)))
