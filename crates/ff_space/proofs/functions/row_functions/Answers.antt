use Rattle.std.proofs.Common.{◌≡◌, ◌*◌, [], subst, sym, ◌∙◌, arith, ap, length}
use Rattle.std.proofs.lemmas.List.{take_all}
use Rattle.std.proofs.lemmas.List.Elements.{All-get_or}
use Rattle.ff_fields.specs.Over.{IsOver}
use Rattle.ff_factor.specs.LowestTerms.{AreIrreducible, HasFactorsOf}
use Rattle.ff_factor.proofs.LowerTerms.{factored}
use Rattle.ff_factor.proofs.OneFactorisation.{has_factors}
use Rattle.function_field.proofs.SameValues.{monic_some}
use Rattle.ff_space.specs.Spaces.{AreRowFunctions}
use Rattle.ff_space.proofs.RowLists.{row_functions_more}
use Rattle.ff_space.proofs.functions.row_functions.Goals as goal

pub factor-requires-clause-not_zero : goal.factor-requires-clause-not_zero
factor-requires-clause-not_zero g c = monic_some c.args.den.now c.requires.monic

pub loop-i-init : goal.loop-i-init
loop-i-init g c = c.new-functions.ensures.items

pub lowest_function-requires-clause-count : goal.lowest_function-requires-clause-count
lowest_function-requires-clause-count g c =
    ap length c.row.ensures
    ∙ All-get_or (λ r. length r ≡ c.args.p.now.n * c.args.width) c.args.rows.now.rows c.loop-i.i []
    (omega (arith, c.loop-i-test.true, c.rows-i-end.ensures)) c.requires.shape.each

pub lowest_function-requires-clause-codes_in : goal.lowest_function-requires-clause-codes_in
lowest_function-requires-clause-codes_in g c =
    let k = g.K.SmallField.field c.args.k.now in
    subst (IsOver k.ops) (sym c.row.ensures)
    (All-get_or (IsOver k.ops) c.args.rows.now.rows c.loop-i.i []
    (omega (arith, c.loop-i-test.true, c.rows-i-end.ensures)) c.requires.over.each)

pub lowest_function-requires-clause-irreducible : goal.lowest_function-requires-clause-irreducible
lowest_function-requires-clause-irreducible g c =
    let k = g.K.SmallField.field c.args.k.now in
    subst (AreIrreducible k.ops) (sym (c.as_slice.ensures.value ∙ c.in_ok-divisors.ensures))
    (factored k c.args.den.now c.in_ok-factor.field-0 c.in_ok-factor.ensures)

pub lowest_function-requires-clause-each : goal.lowest_function-requires-clause-each
lowest_function-requires-clause-each g c =
    let k = g.K.SmallField.field c.args.k.now in
    subst (λ ps. HasFactorsOf k.ops ps c.args.den.now) (sym (c.as_slice.ensures.value ∙ c.in_ok-divisors.ensures))
    (has_factors k c.args.den.now c.in_ok-factor.field-0 c.in_ok-factor.ensures)

pub loop-i-preserved : goal.loop-i-preserved
loop-i-preserved g c =
    let k = g.K.SmallField.field c.args.k.now in
    row_functions_more k c.args.p.now c.args.den.now c.args.width c.args.rows.now.rows c.loop-i.functions.items _
    c.loop-i.i c.in_ok-z.z c.row.result.now (omega (arith, c.loop-i-test.true, c.rows-i-end.ensures)) c.row.ensures
    c.loop-i.invariant c.in_ok-z.ensures c.in_ok-push.ensures.items

pub returns : goal.returns
returns g c =
    let k = g.K.SmallField.field c.args.k.now in
    subst (λ rs. AreRowFunctions k c.args.p.now c.args.den.now c.args.width rs c.loop-i.functions.items)
    (take_all c.loop-i.i c.args.rows.now.rows (omega (arith, c.loop-i-test.false, c.rows-i-end.ensures)))
    c.loop-i.invariant
