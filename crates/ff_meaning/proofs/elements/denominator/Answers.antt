use Rattle.std.proofs.Common.{sym, subst}
use Rattle.ff_meaning.specs.Elements.{IsDenSumOf}
use Rattle.ff_meaning.proofs.ElementValues.{only_one}
use Rattle.ff_meaning.proofs.elements.denominator.Goals as goal

pub returns-in_ok-from_list-in-None-clause-sum : goal.returns-in_ok-from_list-in-None-clause-sum
returns-in_ok-from_list-in-None-clause-sum g c =
    let k = g.K.SmallField.field c.args.k.now in
    let made = c.in_ok-from_list-in-None in
    subst (λ o. IsDenSumOf k.ops o made.field-0) (sym c.in-None.is)
    (only_one k made.field-0 made.ensures.terms made.ensures.in_range made.ensures.codes)
