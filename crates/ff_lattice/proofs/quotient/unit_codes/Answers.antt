use Rattle.std.proofs.Common.{sym, subst}
use Rattle.ff_poly.specs.Popov.{rows_of}
use Rattle.ff_lattice.specs.Lattices.{Contains}
use Rattle.ff_lattice.specs.Quotients.{AreCodesOf}
use Rattle.ff_lattice.proofs.Results.{ok_through}
use Rattle.ff_lattice.proofs.quotient.unit_codes.Goals as goal

pub codes_of-requires-clause-member : goal.codes_of-requires-clause-member
codes_of-requires-clause-member g c =
    subst (Contains (g.K.SmallField.field c.args.k.now) c.args.p.now c.args.l.now)
    (sym (c.in_ok-unit.ensures.one c.args.p.now (sym c.n.ensures.n))) c.requires.order.one_in

pub returns-clause-codes : goal.returns-clause-codes
returns-clause-codes g c =
    let k = g.K.SmallField.field c.args.k.now in
    ok_through c.codes_of.result
    (λ v h. subst (λ x. AreCodesOf k c.args.p.now c.args.l.now (rows_of c.args.rows.now) c.args.depth x v.items)
    (c.in_ok-unit.ensures.one c.args.p.now (sym c.n.ensures.n)) h)
    c.codes_of.ensures
