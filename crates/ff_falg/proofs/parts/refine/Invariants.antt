use Rattle.std.proofs.Common.{take}
use Rattle.ff_linalg.specs.Matrix.{matrix_row}
use Rattle.ff_falg.specs.Algebras.{IsAlgebra, IsVector}
use Rattle.ff_falg.specs.Idempotents.{elements_of}
use Rattle.ff_falg.proofs.Splittings.{IsRefined}
use Rattle.ff_falg.proofs.parts.refine.Given as goal

abbrev pub invariant-loop-e : goal.invariant-loop-e
invariant-loop-e g l =
    let k = g.K.SmallField.field l.k in
    let A = g.A.FiniteAlgebra.algebra l.a in
    (law : IsAlgebra k A) (x_in : IsVector k.ops A.size (matrix_row l.basis l.i))
    → IsRefined k A law (matrix_row l.basis l.i, x_in) (elements_of (take l.e-index l.parts)) (elements_of l.out.items)
