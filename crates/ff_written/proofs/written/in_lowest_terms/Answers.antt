use Rattle.std.proofs.Common.{◌∙◌, sym, subst}
use Rattle.ff_factor.specs.Factors.{polys_of}
use Rattle.ff_factor.specs.LowestTerms.{HasFactorsOf}
use Rattle.ff_factor.proofs.OneFactorisation.{has_factors}
use Rattle.ff_written.proofs.written.in_lowest_terms.Goals as goal

pub in_lowest_terms_by-requires-clause-each : goal.in_lowest_terms_by-requires-clause-each
in_lowest_terms_by-requires-clause-each g c =
    let k = g.K.SmallField.field c.args.k.now in
    let f = c.in_ok-factor.field-0 in
    subst (λ ps. HasFactorsOf k.ops ps c.args.z.now.den) (sym (c.as_slice.ensures.value ∙ c.in_ok-divisors.ensures))
    (subst (HasFactorsOf k.ops (polys_of f.parts)) c.den.ensures.den
    (has_factors k c.den.result.now f c.in_ok-factor.ensures))
