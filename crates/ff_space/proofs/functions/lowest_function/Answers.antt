use Rattle.std.proofs.Common.{sym, subst, ◌∙◌, ap, All}
use Rattle.ff_fields.specs.Over.{IsOver}
use Rattle.ff_factor.specs.LowestTerms.{HasFactorsOf, IsInLowestTermsOf}
use Rattle.ff_written.proofs.LowestElements.{parts_written}
use Rattle.ff_space.specs.Vectors.{parts_of}
use Rattle.ff_space.proofs.Fractions.{is_elem, is_monic_elem, parts_count, parts_over, parts_poly}
use Rattle.ff_space.proofs.functions.lowest_function.Goals as goal

pub cancel-requires-clause-over : goal.cancel-requires-clause-over
cancel-requires-clause-over g c =
    let k = g.K.SmallField.field c.args.k.now in
    let num_is = c.in_ok-num.ensures ∙ ap (λ n. parts_of c.args.width n c.args.codes.now) c.n.ensures.n in (
      subst (All (IsOver k.ops)) (sym num_is)
          (parts_over k c.args.width c.args.p.now.n c.args.codes.now c.requires.codes_in),
      subst (IsOver k.ops) (sym c.in_ok-lower.ensures) c.requires.den_in,
    )

pub returns : goal.returns
returns g c =
    let k = g.K.SmallField.field c.args.k.now in
    let n = c.args.p.now.n in
    let ps = parts_of c.args.width n c.args.codes.now in
    let d = c.args.den.now in
    let vs = c.cancel.new.num.items in
    let e = c.cancel.new.den in
    let num_is = c.in_ok-num.ensures ∙ ap (λ m. parts_of c.args.width m c.args.codes.now) c.n.ensures.n in
    let each = subst (HasFactorsOf k.ops c.args.divisors.now) (sym c.in_ok-lower.ensures) c.requires.each in
    let low : IsInLowestTermsOf k.ops ps d vs e
    = subst (λ den. IsInLowestTermsOf k.ops ps den vs e) c.in_ok-lower.ensures
    (subst (λ num. IsInLowestTermsOf k.ops num c.in_ok-lower.lower vs e) num_is
    (c.in_ok-cancel.ensures.lowest each)) in
    rw c.over_monic.ensures.parts
    (parts_written k (record { num = ps; den = d }) vs e low c.args.p.now c.requires.positive
    (is_elem k n ps d (parts_count c.args.width n c.args.codes.now)
    (parts_over k c.args.width n c.args.codes.now c.requires.codes_in) c.requires.den_in)
    (is_monic_elem k ps d (parts_poly c.args.width n c.args.codes.now) c.requires.monic))
