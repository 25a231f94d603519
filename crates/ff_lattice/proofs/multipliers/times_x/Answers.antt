use Rattle.std.proofs.Common.{arith, sym, subst}
use Rattle.ff_fields.specs.Over.{IsOver}
use Rattle.ff_lattice.proofs.ResidueSteps.{IsOver_shifted, rest_short, rest_less, top_in, clearing}
use Rattle.ff_lattice.proofs.multipliers.times_x.Goals as goal

pub returns-then-len : goal.returns-then-len
returns-then-len g c =
    let k = g.K.SmallField.field c.args.k.now in
    rest_short k c.args.e.now c.args.v.now c.in_ok-rest.rest c.requires.e_in c.requires.v_in c.in_ok-rest.ensures
    (omega (arith, c.if-len.true, c.len.ensures.length, c.len-2.ensures.length))

pub sub_multiple-requires-clause-self_in : goal.sub_multiple-requires-clause-self_in
sub_multiple-requires-clause-self_in g c =
    let k = g.K.SmallField.field c.args.k.now in
    subst (IsOver k.ops) (sym c.in_ok-rest.ensures) (IsOver_shifted k c.args.v.now 1 c.requires.v_in)

pub mul-c-requires-clause-a_in : goal.mul-c-requires-clause-a_in
mul-c-requires-clause-a_in g c =
    let k = g.K.SmallField.field c.args.k.now in
    top_in k c.in_ok-rest.rest c.top.result
    (subst (IsOver k.ops) (sym c.in_ok-rest.ensures) (IsOver_shifted k c.args.v.now 1 c.requires.v_in))
    c.top.ensures.top

pub sub_multiple-requires-clause-c_in : goal.sub_multiple-requires-clause-c_in
sub_multiple-requires-clause-c_in g c =
    let k = g.K.SmallField.field c.args.k.now in
    (clearing k c.args.e.now c.in_ok-rest.rest c.top.result c.top-2.result c.inv.result c.mul-c.result c.requires.e_in
    (subst (IsOver k.ops) (sym c.in_ok-rest.ensures) (IsOver_shifted k c.args.v.now 1 c.requires.v_in))
    c.top.ensures.top c.top-2.ensures.top c.top-2.ensures.not_zero c.inv.ensures c.mul-c.ensures).0

pub returns : goal.returns
returns g c =
    let k = g.K.SmallField.field c.args.k.now in
    rest_less k c.args.e.now c.args.v.now c.in_ok-rest.rest c.sub_multiple.new.self c.mul-c.result c.requires.e_in
    c.len-2.ensures.trimmed c.requires.v_in c.requires.short
    c.in_ok-rest.ensures (omega (arith, c.if-len.false, c.len.ensures.length, c.len-2.ensures.length))
    (clearing k c.args.e.now c.in_ok-rest.rest c.top.result c.top-2.result c.inv.result c.mul-c.result c.requires.e_in
    (subst (IsOver k.ops) (sym c.in_ok-rest.ensures) (IsOver_shifted k c.args.v.now 1 c.requires.v_in))
    c.top.ensures.top c.top-2.ensures.top c.top-2.ensures.not_zero c.inv.ensures c.mul-c.ensures)
    c.in_ok-sub_multiple.ensures.difference
