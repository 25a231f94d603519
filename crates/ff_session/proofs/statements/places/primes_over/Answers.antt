use Rattle.place_lists_theory.proofs.IntegralOrders.{integral_maximal}
use Rattle.ff_rr.specs.Frames.{order_on}
use Rattle.ff_rr.proofs.PrimeProducts.{integral_at}
use Rattle.ff_session.proofs.PlaceAnswers.{primes_of_equals}
use Rattle.ff_session.proofs.statements.places.primes_over.Goals as goal

pub places_above-requires-clause-order : goal.places_above-requires-clause-order
places_above-requires-clause-order g c =
    let k = g.K.SmallField.field c.args.k.now in
    let f = c.args.frame.now in
    rw (c.order-o.ensures, c.curve.ensures)
    (integral_maximal k f.curve c.requires.frame.curve (order_on f c.args.base.now.side) c.args.base.now.side
    c.args.base.now.p (integral_at k f c.requires.frame c.args.base.now.side) c.requires.codes c.requires.irreducible
    c.requires.infinite)

pub returns : goal.returns
returns g c =
    let k = g.K.SmallField.field c.args.k.now in
    let f = c.args.frame.now in
    let h = c.places_above.ensures in
    primes_of_equals k f.curve c.args.base.now.side c.args.base.now.p (order_on f c.args.base.now.side)
    (integral_at k f c.requires.frame c.args.base.now.side) c.curve.result.now c.curve.ensures c.order-o.result.now
    c.order-o.ensures c.places_above.result h.primes h.sides h.order h.numbers
