use Rattle.std.proofs.Common.{rules, ◌∙◌, subst, sym}
use Rattle.std.proofs.lemmas.Int.{to_z-of_z}
use mir.Syntax.{w64}
use mir.Val.{SFits}
use Rattle.function_field.specs.Values.{function_of}
use Rattle.ff_ideal.specs.Places.{HasPrimeValue}
use Rattle.ff_ideal.proofs.LatticePrimes.{prime_value}
use Rattle.ff_ideal.proofs.valuations.quotient_value.Goals as goal

pub returns : goal.returns
returns g c =
    let k = g.K.SmallField.field c.args.k.now in
    let p = c.args.p.now in
    let o = c.args.o.now in
    let rows = c.args.rows.now in
    let f = function_of k p in
    let fits : SFits w64 c.difference.result = search rules in
    subst (HasPrimeValue k p o rows (f c.args.z.now))
    (sym (to_z-of_z w64 c.difference.result fits ∙ c.difference.ensures))
    (prime_value k p c.n-degree.ensures.range.positive o rows c.requires.order c.requires.form c.requires.maximal
    (f c.args.c.now) (f c.args.z.now) (f c.in_ok-multiple.multiple) c.in_ok-multiple.ensures.product
    c.in_ok-above.above c.in_ok-below.below c.requires.member c.requires.multiple c.in_ok-above.ensures.inside
    c.in_ok-above.ensures.not_more c.in_ok-below.ensures.inside c.in_ok-below.ensures.not_more)
