use Rattle.std.proofs.Common.{subst, ◌∙◌, arith}
use Rattle.ff_linalg.proofs.relations.min_relation.Goals as goal
use Rattle.ff_linalg.specs.Space.{HasIndependentStart}
use Rattle.ff_linalg.proofs.Transposed.{transposed_over}
use Rattle.ff_linalg.proofs.FirstRelation.{independent_start, first_relation}

pub echelon-requires : goal.echelon-requires
echelon-requires g c =
    transposed_over (g.K.SmallField.field c.args.k.now) c.args.a.now c.in_ok-columns.columns
    c.in_ok-columns.ensures.made c.requires

pub returns-then-r-rows : goal.returns-then-r-rows
returns-then-r-rows g c =
    let k = g.K.SmallField.field c.args.k.now in
    let t = c.in_ok-columns.ensures in
    let e = c.echelon.ensures in
    let t_in = transposed_over k c.args.a.now c.in_ok-columns.columns t.made c.requires in
    subst (HasIndependentStart k.ops c.args.a.now) (c.if-r-rows.true ∙ c.rows.ensures)
    (independent_start k c.args.a.now c.in_ok-columns.columns t.shape c.requires t.made c.echelon.new.a c.echelon.result
    c.diagonal_ones-r.result
    t_in e.shape e.over e.reduced e.row_space c.diagonal_ones-r.ensures)

pub returns : goal.returns
returns g c =
    let k = g.K.SmallField.field c.args.k.now in
    let t = c.in_ok-columns.ensures in
    let e = c.echelon.ensures in
    let t_in = transposed_over k c.args.a.now c.in_ok-columns.columns t.made c.requires in
    let d = c.diagonal_ones-r.ensures in
    first_relation k c.args.a.now c.in_ok-columns.columns t.shape c.requires t.made c.echelon.new.a c.echelon.result
    c.diagonal_ones-r.result
    t_in e.shape e.over e.reduced e.row_space d c.in_ok-coefficients.coefficients.items c.in_ok-coefficients.ensures
    (omega (arith, d.within_cols, e.shape.col_count, t.made.shape.col_count, c.if-r-rows.false, c.rows.ensures))
