use Rattle.ff_lattice.specs.Quotients.{AreProducts}
use Rattle.ff_lattice.proofs.QuotientSteps.{matrices_of}
use Rattle.ff_lattice.proofs.quotient.product_rows.Given as goal

abbrev pub invariant-loop-i : goal.invariant-loop-i
invariant-loop-i g l = AreProducts (g.K.SmallField.field l.k) l.p l.l l.i (matrices_of l.products.items)
