use Rattle.function_field.proofs.SameValues.{monic_some}
use Rattle.ff_space.proofs.Quotients.{least_numerators}
use Rattle.ff_space.proofs.denominators.least_numerators.Goals as goal

pub lowest_terms-requires-clause-over : goal.lowest_terms-requires-clause-over
lowest_terms-requires-clause-over g c = (c.in_ok-num.ensures.over, c.in_ok-den.ensures.over)

pub lowest_terms-requires-clause-not_zero : goal.lowest_terms-requires-clause-not_zero
lowest_terms-requires-clause-not_zero g c = monic_some c.in_ok-den.den c.in_ok-den.ensures.monic

pub returns : goal.returns
returns g c =
    let k = g.K.SmallField.field c.args.k.now in
    least_numerators k c.args.n c.args.zs.now c.in_ok-num.num.items c.lowest_terms.new.num.items c.in_ok-den.den
    c.lowest_terms.new.den c.in_ok-den.ensures.over c.in_ok-den.ensures.monic c.in_ok-num.ensures
    c.in_ok-lowest_terms.ensures.lowest
