use Rattle.std.proofs.Common.{◌∙◌, sym, ap, subst}
use Rattle.ff_poly.specs.Words.{shifted}
use Rattle.ff_lattice.proofs.Results.{ok_through}
use Rattle.split_theory.specs.Splits.{IsDenominator}
use Rattle.ff_split.proofs.PowerRows.{shifted_denominator}
use Rattle.ff_split.proofs.products.denominator.Goals as goal

pub returns : goal.returns
returns g c =
    let k = g.K.SmallField.field c.args.k.now in
    let den = c.args.l.now.den in
    ok_through c.shift.result
    (λ p is. subst (IsDenominator k den c.args.exponent)
    (sym (is ∙ ap (λ a. shifted a c.args.exponent) c.den.ensures.den))
    (shifted_denominator k den c.args.exponent c.requires c.den.ensures.form.monic))
    c.shift.ensures
