use Rattle.ff_lattice.proofs.Normal.{monic_poly}
use Rattle.ff_lattice.proofs.CommonDenominators.{common_first, common_product}
use Rattle.ff_space.proofs.denominators.common_multiple.Goals as goal

pub returns-then-branch : goal.returns-then-branch
returns-then-branch g c =
    let k = g.K.SmallField.field c.args.k.now in
    common_first k c.args.e c.args.d.now c.requires.e_in c.requires.e_monic
    (c.in_ok-divides.ensures c.if-branch.true (monic_poly c.args.e c.requires.e_monic))

pub returns : goal.returns
returns g c =
    let k = g.K.SmallField.field c.args.k.now in
    common_product k c.args.e c.args.d.now c.in_ok-product.product c.requires.e_in c.requires.e_monic c.requires.d_in
    c.requires.d_monic c.in_ok-product.ensures.product
