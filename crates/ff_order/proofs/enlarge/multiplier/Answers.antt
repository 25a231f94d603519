use Rattle.std.proofs.Common.{sym, subst}
use Rattle.ff_lattice.specs.Orders.{IsOrderLattice}
use Rattle.value_theory.proofs.Bridge.{colon_order}
use Rattle.ff_order.proofs.enlarge.multiplier.Goals as goal

pub of-requires : goal.of-requires
of-requires g c =
    colon_order (g.K.SmallField.field c.args.k.now) c.args.p.now c.args.i.now c.in_ok-multipliers.multipliers
    c.in_ok-multipliers.ensures.form c.in_ok-multipliers.ensures.members

pub returns-clause-order : goal.returns-clause-order
returns-clause-order g c =
    let k = g.K.SmallField.field c.args.k.now in
    subst (IsOrderLattice k c.args.p.now) (sym c.of.ensures)
    (colon_order k c.args.p.now c.args.i.now c.in_ok-multipliers.multipliers c.in_ok-multipliers.ensures.form
    c.in_ok-multipliers.ensures.members)
