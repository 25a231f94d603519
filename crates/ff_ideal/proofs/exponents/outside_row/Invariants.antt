use Rattle.std.proofs.Common.{ℕ, ◌<◌, get_or}
use Rattle.function_field.specs.Values.{ElemValue, function_of}
use Rattle.ff_lattice.specs.Lattices.{Contains, row_elems}
use Rattle.ff_ideal.proofs.exponents.outside_row.Given as goal

abbrev pub invariant-loop-i : goal.invariant-loop-i
invariant-loop-i g l =
    let k = g.K.SmallField.field l.k in
    (j : ℕ) (d : ElemValue) → j < l.i → Contains k l.p l.a (function_of k l.p (get_or (row_elems l.l) j d))
