use Rattle.std.proofs.Common.{◌-◌, arith, sym, ap, ◌∙◌}
use Rattle.ff_popov.proofs.rows.quotient_term.Goals as goal
use Rattle.ff_fields.specs.Over.{get_or_below}
use Rattle.ff_popov.proofs.Lengths.{less_multiple_shorter, quotient_top, read_top, read_not_zero}

pub inv-inverse-requires-clause-not_zero : goal.inv-inverse-requires-clause-not_zero
inv-inverse-requires-clause-not_zero g c = read_not_zero c.args.b.now c.len-2.result c.coeff.result
    c.len-2.ensures.trimmed c.requires.some c.len-2.ensures.length c.coeff.ensures

pub mul-requires-clause-b_in : goal.mul-requires-clause-b_in
mul-requires-clause-b_in g c =
    let k = g.K.SmallField.field c.args.k.now in
    let some = read_not_zero c.args.b.now c.len-2.result c.coeff.result c.len-2.ensures.trimmed c.requires.some
    c.len-2.ensures.length c.coeff.ensures in
    rw c.inv-inverse.ensures (k.laws.inv_below c.coeff.result
    (rw c.coeff.ensures (get_or_below k c.args.b.now _ c.requires.b_in)) some)

pub returns-clause-below : goal.returns-clause-below
returns-clause-below g c =
    let k = g.K.SmallField.field c.args.k.now in
    let some = read_not_zero c.args.b.now c.len-2.result c.coeff.result c.len-2.ensures.trimmed c.requires.some
    c.len-2.ensures.length c.coeff.ensures in
    (quotient_top k c.coeff-top.result c.coeff.result c.inv-inverse.result c.mul.result
    (rw c.coeff-top.ensures (get_or_below k c.args.a.now _ c.requires.a_in))
    (rw c.coeff.ensures (get_or_below k c.args.b.now _ c.requires.b_in))
    some c.inv-inverse.ensures c.mul.ensures).0

pub returns-clause-shorter : goal.returns-clause-shorter
returns-clause-shorter g c =
    let k = g.K.SmallField.field c.args.k.now in
    let some = read_not_zero c.args.b.now c.len-2.result c.coeff.result c.len-2.ensures.trimmed c.requires.some
    c.len-2.ensures.length c.coeff.ensures in
    let t =
    quotient_top k c.coeff-top.result c.coeff.result c.inv-inverse.result c.mul.result
    (rw c.coeff-top.ensures (get_or_below k c.args.a.now _ c.requires.a_in))
    (rw c.coeff.ensures (get_or_below k c.args.b.now _ c.requires.b_in))
    some c.inv-inverse.ensures c.mul.ensures in
    less_multiple_shorter k c.args.a.now c.mul.result (c.len-3.result - c.len-4.result) c.args.b.now c.requires.a_in t.0
    c.requires.b_in
    (c.len.result - 1) (omega (arith, c.len.ensures.length)) (omega (arith, c.len.ensures.length)) c.requires.some
    (ap (k.mul c.mul.result) (sym (read_top c.args.b.now c.len-2.result _ c.len-2.ensures.length c.coeff.ensures)) ∙ t.1
    ∙ c.coeff-top.ensures)
