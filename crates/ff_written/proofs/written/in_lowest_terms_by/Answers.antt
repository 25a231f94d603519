use Rattle.std.proofs.Common.{◌∙◌, sym, subst}
use Rattle.ff_factor.specs.LowestTerms.{HasFactorsOf, IsInLowestTermsOf}
use Rattle.ff_written.proofs.LowestElements.{parts_written}
use Rattle.ff_written.proofs.written.in_lowest_terms_by.Goals as goal

pub returns : goal.returns
returns g c =
    let k = g.K.SmallField.field c.args.k.now in
    let z = c.args.z.now in
    let vs = c.cancel.new.num.items in
    let d = c.cancel.new.den in
    let each = subst (HasFactorsOf k.ops c.args.divisors.now) (sym (c.in_ok-den.ensures ∙ c.den.ensures.den))
    c.requires.each in
    let low : IsInLowestTermsOf k.ops z.num z.den vs d
    = subst (λ den. IsInLowestTermsOf k.ops z.num den vs d) (c.in_ok-den.ensures ∙ c.den.ensures.den)
    (subst (λ num. IsInLowestTermsOf k.ops num c.in_ok-den.den vs d) (c.in_ok-num.ensures ∙ c.num.ensures)
    (c.in_ok-cancel.ensures.lowest each)) in
    rw c.new.ensures (parts_written k z vs d low c.args.f.now c.requires.positive c.requires.element
    c.den.ensures.monic)
