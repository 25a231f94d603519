use Rattle.std.proofs.Common.{sym, ap, ◌∙◌, arith}
use Rattle.std.proofs.lemmas.Result.{IfOk-weaker}
use Rattle.function_field.specs.declared.side.Side.TheVariants.{Infinite}
use Rattle.function_field.specs.Infinity.{function_on}
use Rattle.ff_algebra.proofs.sides.to_inf.Goals as goal

pub returns-clause-same_function : goal.returns-clause-same_function
returns-clause-same_function g c =
    let k = g.K.SmallField.field c.args.k.now in
    let p = c.args.c.now.fin in
    IfOk-weaker c.turned.result _ _
    (λ w h. ap (λ n. function_on k p n Infinite w) (sym c.c.ensures)
    ∙ h p (omega (arith, c.requires.curve.at_least_two)) (sym c.requires.z_in.one_each))
    c.turned.ensures.to_infinite
