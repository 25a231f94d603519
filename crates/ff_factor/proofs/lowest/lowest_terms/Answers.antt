use Rattle.std.proofs.Common.{sym, subst, ◌∙◌}
use Rattle.ff_factor.specs.LowestTerms.{AreIrreducible, HasFactorsOf}
use Rattle.ff_factor.proofs.LowerTerms.{factored, on_ok_as}
use Rattle.ff_factor.proofs.OneFactorisation.{has_factors}
use Rattle.ff_factor.proofs.lowest.lowest_terms.Goals as goal

pub cancel-requires-clause-factors : goal.cancel-requires-clause-factors
cancel-requires-clause-factors g c =
    let k = g.K.SmallField.field c.args.k.now in
    subst (AreIrreducible k.ops) (sym (c.as_slice.ensures.value ∙ c.in_ok-polys.ensures))
    (factored k c.args.den.now c.in_ok-factor.field-0 c.in_ok-factor.ensures)

pub returns-clause-lowest : goal.returns-clause-lowest
returns-clause-lowest g c =
    let k = g.K.SmallField.field c.args.k.now in
    on_ok_as c.cancel.result c.cancel.ensures.lowest (λ low. low
    (subst (λ ps. HasFactorsOf k.ops ps c.args.den.now) (sym (c.as_slice.ensures.value ∙ c.in_ok-polys.ensures))
    (has_factors k c.args.den.now c.in_ok-factor.field-0 c.in_ok-factor.ensures)))
