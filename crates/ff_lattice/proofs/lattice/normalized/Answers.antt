use Rattle.ff_poly.specs.Popov.{rows_of}
use Rattle.ff_lattice.proofs.Normal.{monic_poly, popov_poly, h_divides, g_some, g_divides, normal_lattice, normal_reduced, form_of}
use Rattle.ff_lattice.proofs.lattice.normalized.Goals as goal

pub exact_quotient-requires-clause-a_poly : goal.exact_quotient-requires-clause-a_poly
exact_quotient-requires-clause-a_poly g c = monic_poly c.args.e.now c.requires.e_monic

pub exact_quotient-requires-clause-divides : goal.exact_quotient-requires-clause-divides
exact_quotient-requires-clause-divides g c =
    h_divides (g.K.SmallField.field c.args.k.now) c.args.n (rows_of c.args.rows.now) c.args.e.now c.in_ok-den.den
    c.requires.rows_in c.requires.popov c.requires.e_in c.requires.e_monic c.in_ok-den.ensures

pub quotient_rows-requires-clause-g_some : goal.quotient_rows-requires-clause-g_some
quotient_rows-requires-clause-g_some g c =
    g_some (g.K.SmallField.field c.args.k.now) c.args.n (rows_of c.args.rows.now) c.args.e.now c.in_ok-den.den
    c.requires.rows_in c.requires.popov c.requires.e_in c.requires.e_monic c.in_ok-den.ensures
    c.in_ok-factor.factor c.in_ok-factor.ensures.over c.in_ok-factor.ensures.poly c.in_ok-factor.ensures.product

pub quotient_rows-requires-clause-rows_poly : goal.quotient_rows-requires-clause-rows_poly
quotient_rows-requires-clause-rows_poly g c = popov_poly c.args.n (rows_of c.args.rows.now) c.requires.popov

pub quotient_rows-requires-clause-divides : goal.quotient_rows-requires-clause-divides
quotient_rows-requires-clause-divides g c =
    g_divides (g.K.SmallField.field c.args.k.now) c.args.n (rows_of c.args.rows.now) c.args.e.now c.in_ok-den.den
    c.requires.rows_in c.requires.popov c.requires.e_in c.requires.e_monic c.in_ok-den.ensures
    c.in_ok-factor.factor c.in_ok-factor.ensures.over c.in_ok-factor.ensures.poly c.in_ok-factor.ensures.product

pub returns-clause-form : goal.returns-clause-form
returns-clause-form g c =
    normal_lattice (g.K.SmallField.field c.args.k.now) c.args.n (rows_of c.args.rows.now) c.args.e.now c.in_ok-den.den
    c.requires.rows_in c.requires.popov c.requires.e_in c.requires.e_monic c.in_ok-den.ensures
    c.in_ok-factor.factor c.in_ok-factor.ensures.over c.in_ok-factor.ensures.poly c.in_ok-factor.ensures.product
    (rows_of c.in_ok-rows.rows.items) c.in_ok-rows.ensures

pub returns-clause-reduced : goal.returns-clause-reduced
returns-clause-reduced g c =
    normal_reduced (g.K.SmallField.field c.args.k.now) c.args.n (rows_of c.args.rows.now) c.args.e.now c.in_ok-den.den
    c.requires.rows_in c.requires.popov c.requires.e_in c.requires.e_monic c.in_ok-den.ensures
    c.in_ok-factor.factor c.in_ok-factor.ensures.over c.in_ok-factor.ensures.poly c.in_ok-factor.ensures.product
    (rows_of c.in_ok-rows.rows.items) c.in_ok-rows.ensures

pub invariant_of-result : goal.invariant_of-result
invariant_of-result g c =
    let k = g.K.SmallField.field c.args.k.now in
    form_of k c.args.n (record { rows = rows_of c.in_ok-rows.rows.items; den = c.in_ok-den.den })
    (normal_lattice k c.args.n (rows_of c.args.rows.now) c.args.e.now c.in_ok-den.den c.requires.rows_in
    c.requires.popov c.requires.e_in c.requires.e_monic c.in_ok-den.ensures
    c.in_ok-factor.factor c.in_ok-factor.ensures.over c.in_ok-factor.ensures.poly c.in_ok-factor.ensures.product
    (rows_of c.in_ok-rows.rows.items) c.in_ok-rows.ensures)
