use Rattle.std.proofs.Common.{◌∙◌, ap}
use Rattle.std.proofs.lemmas.Int.{to_z-of_z}
use Rattle.std.specs.Prelude.{neg_ℤ}
use mir.Syntax.{w64}
use Rattle.ff_rr.proofs.PrimeProducts.{presentation_at, order_at, rows_at, inverse_at, by_inverse, by_rows}
use Rattle.ff_rr.specs.Frames.{order_on}
use Rattle.value_theory.specs.IntegralLattices.{presentation}
use Rattle.ff_rr.proofs.pairs.prime_power.Goals as goal

pub power-requires-clause-p_in : goal.power-requires-clause-p_in
power-requires-clause-p_in g c =
    let k = g.K.SmallField.field c.args.k.now in
    rw c.presentation-p.ensures (presentation_at k c.args.f.now c.requires.frame c.args.side)

pub power-requires-clause-order : goal.power-requires-clause-order
power-requires-clause-order g c =
    let k = g.K.SmallField.field c.args.k.now in
    rw (c.order-o.ensures, c.presentation-p.ensures) (order_at k c.args.f.now c.requires.frame c.args.side)

pub power-requires-clause-i_form : goal.power-requires-clause-i_form
power-requires-clause-i_form g c =
    let k = g.K.SmallField.field c.args.k.now in
    rw (c.inverse.ensures, c.presentation-p.ensures)
    (inverse_at k c.args.f.now c.requires.frame c.args.side c.args.prime.now c.requires.prime).form

pub power-requires-clause-closed : goal.power-requires-clause-closed
power-requires-clause-closed g c =
    let k = g.K.SmallField.field c.args.k.now in
    rw (c.inverse.ensures, c.order-o.ensures, c.presentation-p.ensures)
    (inverse_at k c.args.f.now c.requires.frame c.args.side c.args.prime.now c.requires.prime).closed

pub power-requires-clause-admitted : goal.power-requires-clause-admitted
power-requires-clause-admitted g c =
    let k = g.K.SmallField.field c.args.k.now in
    rw (c.inverse.ensures, c.order-o.ensures, c.presentation-p.ensures)
    (inverse_at k c.args.f.now c.requires.frame c.args.side c.args.prime.now c.requires.prime).admitted

pub power-requires-2-clause-p_in : goal.power-requires-2-clause-p_in
power-requires-2-clause-p_in g c =
    let k = g.K.SmallField.field c.args.k.now in
    rw c.presentation-p.ensures (presentation_at k c.args.f.now c.requires.frame c.args.side)

pub power-requires-2-clause-order : goal.power-requires-2-clause-order
power-requires-2-clause-order g c =
    let k = g.K.SmallField.field c.args.k.now in
    rw (c.order-o.ensures, c.presentation-p.ensures) (order_at k c.args.f.now c.requires.frame c.args.side)

pub power-requires-2-clause-i_form : goal.power-requires-2-clause-i_form
power-requires-2-clause-i_form g c =
    let k = g.K.SmallField.field c.args.k.now in
    rw (c.rows.ensures, c.presentation-p.ensures)
    (rows_at k c.args.f.now c.requires.frame c.args.side c.args.prime.now c.requires.prime).form

pub power-requires-2-clause-closed : goal.power-requires-2-clause-closed
power-requires-2-clause-closed g c =
    let k = g.K.SmallField.field c.args.k.now in
    rw (c.rows.ensures, c.order-o.ensures, c.presentation-p.ensures)
    (rows_at k c.args.f.now c.requires.frame c.args.side c.args.prime.now c.requires.prime).closed

pub power-requires-2-clause-admitted : goal.power-requires-2-clause-admitted
power-requires-2-clause-admitted g c =
    let k = g.K.SmallField.field c.args.k.now in
    rw (c.rows.ensures, c.order-o.ensures, c.presentation-p.ensures)
    (rows_at k c.args.f.now c.requires.frame c.args.side c.args.prime.now c.requires.prime).admitted

pub returns-then-m-gt0 : goal.returns-then-m-gt0
returns-then-m-gt0 g c =
    let k = g.K.SmallField.field c.args.k.now in
    by_inverse k c.args.f.now c.requires.frame c.args.side c.args.prime.now c.args.m c.requires.prime
    c.presentation-p.result.now c.order-o.result.now
    c.inverse.result.now _ c.presentation-p.ensures c.order-o.ensures c.inverse.ensures
    (to_z-of_z w64 c.args.m c.ranges.m) c.power.result
    c.power.ensures.form c.power.ensures.members

pub returns : goal.returns
returns g c =
    let k = g.K.SmallField.field c.args.k.now in
    by_rows k (presentation c.args.f.now.curve c.args.side) c.presentation-p.result.now
    (order_on c.args.f.now c.args.side) c.order-o.result.now
    c.args.prime.now c.args.m c.presentation-p.ensures c.order-o.ensures c.rows.result.now _ c.rows.ensures
    (to_z-of_z w64 c.in_ok-opposite.field-0 c.in_ok-opposite.ensures.in_range ∙ c.in_ok-opposite.ensures.is
    ∙ ap neg_ℤ (to_z-of_z w64 c.args.m c.ranges.m)) c.power-2.result c.power-2.ensures.form c.power-2.ensures.members
