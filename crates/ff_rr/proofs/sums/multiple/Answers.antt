use Rattle.std.proofs.lemmas.Result.{IfOk-weaker}
use Rattle.ff_rr.proofs.Combinations.{code_product}
use Rattle.ff_rr.proofs.sums.multiple.Goals as goal

pub returns-clause-product : goal.returns-clause-product
returns-clause-product g c =
    let k = g.K.SmallField.field c.args.k.now in
    IfOk-weaker c.mul.result _ _
    (λ w e.
    code_product k c.args.p.now w c.in_ok-factor.factor c.args.z.now c.in_ok-constant.field-0 c.args.c c.n.result
    c.requires.c_in c.in_ok-constant.ensures c.n.ensures.n c.in_ok-factor.ensures.is e)
    c.mul.ensures.product
