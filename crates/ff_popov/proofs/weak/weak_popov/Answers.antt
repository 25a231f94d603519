use Rattle.std.proofs.Common.{◌+◌, ◌≤◌, sym, subst, arith}
use Rattle.std.proofs.lemmas.List.{take_at}
use Rattle.ff_poly.specs.Popov.{rows_of, width_of, HaveSameRowSpan}
use Rattle.ff_popov.specs.Rows.{Keeps, total_position}
use Rattle.ff_popov.proofs.weak.weak_popov.Goals as goal
use Rattle.ff_popov.proofs.Spans.{same_lattice}
use Rattle.ff_popov.proofs.Positions.{total_bound}

pub returns-clause-span : goal.returns-clause-span
returns-clause-span g c =
    let k = g.K.SmallField.field c.args.k.now in
    let w = width_of (rows_of c.args.rows.now.items) in
    let start = c.as_mut_slice.ensures.value in
    let keeps =
    subst (λ rows. Keeps k w (rows_of rows) (rows_of c.reduce.new.rows)) start
    (subst (λ rows. Keeps k (width_of (rows_of rows)) (rows_of c.as_mut_slice.result.now) (rows_of c.reduce.new.rows))
    start c.reduce.ensures.keeps) in
    subst (λ rows. HaveSameRowSpan k.ops w (rows_of c.args.rows.now.items) (rows_of rows))
    (sym (take_at c.reduce.new.rows _ c.args.rows.now.len (omega arith)))
    (same_lattice k w (rows_of c.args.rows.now.items) (rows_of c.reduce.new.rows) c.requires keeps.rows keeps.span)

pub returns-clause-steps : goal.returns-clause-steps
returns-clause-steps g c =
    let k = g.K.SmallField.field c.args.k.now in
    let w = width_of (rows_of c.args.rows.now.items) in
    let steps =
    subst (λ rows. c.reduce.new.steps + total_position (width_of (rows_of rows)) (rows_of c.reduce.new.rows) ≤
    c.args.steps.now + total_position (width_of (rows_of rows)) (rows_of rows))
    c.as_mut_slice.ensures.value c.reduce.ensures.steps in
    omega (arith, steps, total_bound k.ops w (rows_of c.args.rows.now.items) c.requires)
