use Rattle.std.proofs.Common.{subst, sym}
use Rattle.ff_poly.specs.Words.{DividesList, product_of}
use Rattle.ff_lattice.specs.Steps.{IsNext}
use Rattle.ff_lattice.proofs.Annihilators.{next_is}
use Rattle.ff_lattice.proofs.multipliers.next_multiplier.Goals as goal

pub returns : goal.returns
returns g c =
    let k = g.K.SmallField.field c.args.k.now in
    subst (IsNext k.ops c.args.h.now (λ u. DividesList k.ops c.args.e.now (product_of k.ops u c.args.v.now)))
    (sym c.in_ok-next.ensures.product)
    (next_is k c.args.e.now c.args.h.now c.args.v.now c.in_ok-product.product c.in_ok-more.more c.requires.e_in
    c.requires.h_in c.requires.h_poly c.requires.h_monic c.requires.v_in c.in_ok-product.ensures.product
    c.in_ok-more.ensures)
