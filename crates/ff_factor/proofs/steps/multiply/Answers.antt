use Rattle.std.proofs.Common.{drop, sym, ap, ◌∙◌, subst}
use Rattle.ff_fields.specs.Over.{IsOver_drop}
use Rattle.ff_falg.specs.Algebras.{IsVector}
use Rattle.ff_factor.specs.Quotients.{product_modulo}
use Rattle.ff_factor.specs.QuotientLaws.{product_in, times_x_in}
use Rattle.ff_factor.proofs.QuotientSteps.{product_of_zeros}
use Rattle.ff_factor.proofs.steps.multiply.Goals as goal

pub loop-i-init : goal.loop-i-init
loop-i-init g c =
    let k = g.K.SmallField.field c.args.k.now in
    c.requires.zeros
    ∙ sym (product_of_zeros k c.args.g.now c.requires.modulus _ c.args.b.now c.requires.b_in)
    ∙ sym (ap (λ w. product_modulo k.ops c.args.g.now w c.args.b.now) c.trimmed_length-i.ensures.zeros)

pub multiply_by_x-requires-clause-codes_in : goal.multiply_by_x-requires-clause-codes_in
multiply_by_x-requires-clause-codes_in g c =
    let k = g.K.SmallField.field c.args.k.now in
    let h = c.requires.modulus in
    subst (IsVector k.ops _) (sym c.loop-i.invariant)
    (product_in k c.args.g.now h (drop _ c.args.a.now) c.args.b.now (IsOver_drop _ c.requires.a_in) c.requires.b_in)

pub add_multiple-requires-clause-sum_in : goal.add_multiple-requires-clause-sum_in
add_multiple-requires-clause-sum_in g c =
    let k = g.K.SmallField.field c.args.k.now in
    let h = c.requires.modulus in
    let before = subst (IsVector k.ops _) (sym c.loop-i.invariant)
    (product_in k c.args.g.now h (drop _ c.args.a.now) c.args.b.now (IsOver_drop _ c.requires.a_in) c.requires.b_in) in
    (subst (IsVector k.ops _) (sym c.multiply_by_x.ensures) (times_x_in k c.args.g.now h c.loop-i.product before)).over
