use Rattle.std.proofs.Common.{take, All}
use Rattle.ff_poly.specs.Words.{DividesList, product_of}
use Rattle.ff_lattice.specs.Steps.{IsNext}
use Rattle.ff_lattice.proofs.multipliers.row_multiplier.Given as goal

abbrev pub invariant-loop-v : goal.invariant-loop-v
invariant-loop-v g l =
    let k = (g.K.SmallField.field l.k).ops in
    IsNext k l.fn.h (λ u. All (λ v. DividesList k l.e (product_of k u v)) (take l.v-index l.row)) l.next
