use Rattle.std.proofs.Common.{sym, subst}
use Rattle.ff_maximal.proofs.InfiniteOrders.{variable_irreducible, variable_over, some_disc_at_infinity, infinite_answer}
use Rattle.ff_lattice.specs.Orders.{IsOrderLattice}
use Rattle.ff_maximal.proofs.orders.infinite_order.Goals as goal

pub p_maximal-requires-clause-some : goal.p_maximal-requires-clause-some
p_maximal-requires-clause-some g c = some_disc_at_infinity (g.K.SmallField.field c.args.k.now) c.args.curve.now
    c.requires c.inf-p.result.now c.inf-p.ensures

pub p_maximal-requires-clause-order : goal.p_maximal-requires-clause-order
p_maximal-requires-clause-order g c = subst
    (λ p. IsOrderLattice (g.K.SmallField.field c.args.k.now) p c.in_ok-start.start) (sym c.inf-p.ensures)
    c.in_ok-start.ensures.order

pub p_maximal-requires-clause-pi_in : goal.p_maximal-requires-clause-pi_in
p_maximal-requires-clause-pi_in g c = variable_over (g.K.SmallField.field c.args.k.now) c.in_ok-t.t c.in_ok-t.ensures

pub p_maximal-requires-clause-irreducible : goal.p_maximal-requires-clause-irreducible
p_maximal-requires-clause-irreducible g c = variable_irreducible (g.K.SmallField.field c.args.k.now) c.in_ok-t.t
    c.in_ok-t.ensures

pub returns : goal.returns
returns g c =
    infinite_answer (g.K.SmallField.field c.args.k.now) c.args.curve.now c.requires c.inf-p.result.now c.inf-p.ensures
    c.in_ok-t.t c.in_ok-t.ensures
    c.in_ok-start.start c.in_ok-start.ensures.members c.p_maximal.result c.p_maximal.ensures.order
    c.p_maximal.ensures.members
