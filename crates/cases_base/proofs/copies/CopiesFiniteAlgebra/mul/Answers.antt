use Rattle.std.proofs.Common.{take, add-one, arith, sym, ap, ap₂, ◌∙◌, ◌++◌, [], ◌∷◌}
use Rattle.std.proofs.lemmas.List.{take_all}
use Rattle.cases_base.specs.Positions.{by_positions, positions_more}
use Rattle.cases_base.proofs.copies.CopiesFiniteAlgebra.mul.Goals as goal

pub loop-i-preserved : goal.loop-i-preserved
loop-i-preserved g c =
    let k = g.K.SmallField.field c.args.k.now in
    c.in_ok-push.ensures.items ∙ ap₂ (λ xs x. xs ++ x ∷ []) c.loop-i.invariant c.mul.ensures
    ∙ positions_more k.ops c.args.a.now c.args.b.now c.loop-i.i (c.requires.a_in.size ∙ sym c.requires.b_in.size)
    c.loop-i-test.true
    ∙ ap (λ n. by_positions k.ops (take n c.args.a.now) (take n c.args.b.now)) (sym (add-one c.loop-i.i))

pub returns : goal.returns
returns g c =
    let k = g.K.SmallField.field c.args.k.now in
    let e = c.requires.a_in.size in
    let f = c.requires.b_in.size in
    c.loop-i.invariant ∙ ap₂ (by_positions k.ops) (take_all c.loop-i.i c.args.a.now (omega arith))
    (take_all c.loop-i.i c.args.b.now (omega arith))
