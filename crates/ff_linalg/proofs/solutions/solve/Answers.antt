use Rattle.std.proofs.Common.{◌<◌, [], length, get_or, sym, ap, ◌∙◌, subst, arith}
use Rattle.std.proofs.lemmas.List.Elements.{All-cons, All-get_or}
use Rattle.ff_linalg.proofs.solutions.solve.Goals as goal
use Rattle.ff_fields.specs.Over.{IsOver, IsOver_take, IsOver_drop}
use Rattle.ff_linalg.specs.Matrix.{IsMatrixOver}
use Rattle.ff_linalg.proofs.Solving.{solve_none, solve_some}

pub kernel-requires : goal.kernel-requires
kernel-requires g c =
    let k = g.K.SmallField.field c.args.k.now in
    let made = c.in_ok-stacked.ensures.made in
    subst (IsMatrixOver k.ops) (sym made)
    (record { each = All-cons (IsOver k.ops) c.args.b.now c.args.a.now.rows c.requires.b_in c.requires.a_in.each })

pub returns-then-rows-eq0 : goal.returns-then-rows-eq0
returns-then-rows-eq0 g c =
    let k = g.K.SmallField.field c.args.k.now in
    let stack = c.in_ok-stacked.ensures in
    let basis = c.in_ok-relations.ensures in
    solve_none k c.args.a.now c.args.b.now _ c.in_ok-relations.relations stack.made stack.shape c.requires.a_in
    c.requires.b_in c.requires.width basis
    (λ h. let some : 0 < length c.in_ok-relations.relations.rows = h.0 in omega
    (arith, c.if-rows-eq0.true, c.rows.ensures))

pub returns-then-first-ne1 : goal.returns-then-first-ne1
returns-then-first-ne1 g c =
    let k = g.K.SmallField.field c.args.k.now in
    let stack = c.in_ok-stacked.ensures in
    let basis = c.in_ok-relations.ensures in
    solve_none k c.args.a.now c.args.b.now _ c.in_ok-relations.relations stack.made stack.shape c.requires.a_in
    c.requires.b_in c.requires.width basis
    (λ h. c.if-first-ne1.true (ap (λ r. get_or r 0 0) c.row-first.ensures ∙ h.1))

pub negatives-requires : goal.negatives-requires
negatives-requires g c =
    let k = g.K.SmallField.field c.args.k.now in
    let basis = c.in_ok-relations.ensures in
    let m = c.in_ok-relations.relations in
    let some : 0 < length m.rows = omega (arith, c.if-rows-eq0.false, c.rows.ensures) in
    IsOver_take _ (IsOver_drop 1 (subst (IsOver k.ops) (sym c.row-first.ensures)
    (All-get_or (IsOver k.ops) m.rows 0 [] some basis.over.each)))

pub returns : goal.returns
returns g c =
    let k = g.K.SmallField.field c.args.k.now in
    let stack = c.in_ok-stacked.ensures in
    let basis = c.in_ok-relations.ensures in
    let m = c.in_ok-relations.relations in
    let some : 0 < length m.rows = omega (arith, c.if-rows-eq0.false, c.rows.ensures) in
    let negated = c.in_ok-negatives.ensures in
    solve_some k c.args.a.now c.args.b.now _ m stack.made stack.shape c.requires.a_in c.requires.b_in c.requires.width
    basis
    c.row-first.result.now c.in_ok-negatives.field-0.items c.row-first.ensures some c.if-first-ne1.false negated
