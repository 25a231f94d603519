use Rattle.ff_lattice.proofs.Results.{ok_through}
use Rattle.ff_order.proofs.NilpotentClasses.{rows_in, nilpotent_basis}
use Rattle.ff_order.proofs.radicals.nilpotent_lifts.Goals as goal

pub lift_rows-requires-clause-rows_in : goal.lift_rows-requires-clause-rows_in
lift_rows-requires-clause-rows_in g c =
    rows_in (g.K.SmallField.field c.args.k.now) c.args.q.now c.requires.over.quotient c.in_ok-basis.basis
    c.in_ok-basis.ensures

pub returns : goal.returns
returns g c =
    let k = g.K.SmallField.field c.args.k.now in
    ok_through c.lift_rows.result
    (λ zs h. nilpotent_basis k c.args.q.now c.requires.over.quotient c.in_ok-basis.basis c.in_ok-basis.ensures zs.items h)
    c.lift_rows.ensures
