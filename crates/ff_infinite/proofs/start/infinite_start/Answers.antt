use Rattle.std.proofs.Common.{◌↔◌, sym, subst}
use Rattle.ff_poly.specs.Polynomials.{x_poly}
use Rattle.function_field.specs.Values.{Functions, equation_of}
use Rattle.trace_theory.specs.Traces.{HasPolynomialCoordinates}
use Rattle.infinite_theory.specs.Supported.{IsSupportedAt}
use Rattle.ff_lattice.specs.Lattices.{Contains}
use Rattle.ff_lattice.specs.Orders.{IsOrderLattice}
use Rattle.ff_infinite.proofs.Starts.{started}
use Rattle.ff_infinite.proofs.start.infinite_start.Goals as goal

pub of-requires : goal.of-requires
of-requires g c =
    let k = g.K.SmallField.field c.args.k.now in
    let q = c.args.c.now.inf in
    subst (λ q. IsOrderLattice k q c.in_ok-l.l) (sym c.inf-p.ensures)
    (started k q c.inf-p.result.now c.n.result c.in_ok-l.l c.inf-p.ensures c.n.ensures.n c.n.ensures.range.positive
    c.in_ok-l.ensures.form c.in_ok-l.ensures.members).order

pub returns-clause-order : goal.returns-clause-order
returns-clause-order g c =
    let k = g.K.SmallField.field c.args.k.now in
    let q = c.args.c.now.inf in
    subst (IsOrderLattice k q) (sym c.of.ensures)
    (started k q c.inf-p.result.now c.n.result c.in_ok-l.l c.inf-p.ensures c.n.ensures.n c.n.ensures.range.positive
    c.in_ok-l.ensures.form c.in_ok-l.ensures.members).order

pub returns-clause-members : goal.returns-clause-members
returns-clause-members g c =
    let k = g.K.SmallField.field c.args.k.now in
    let q = c.args.c.now.inf in
    subst (λ o. (z : Functions k q) → Contains k q o z ↔ HasPolynomialCoordinates (equation_of k q) z)
    (sym c.of.ensures)
    (started k q c.inf-p.result.now c.n.result c.in_ok-l.l c.inf-p.ensures c.n.ensures.n c.n.ensures.range.positive
    c.in_ok-l.ensures.form c.in_ok-l.ensures.members).members

pub returns-clause-tame : goal.returns-clause-tame
returns-clause-tame g c =
    let k = g.K.SmallField.field c.args.k.now in
    let q = c.args.c.now.inf in
    subst (λ o. IsSupportedAt (equation_of k q) (x_poly k) (Contains k q o)) (sym c.of.ensures)
    (started k q c.inf-p.result.now c.n.result c.in_ok-l.l c.inf-p.ensures c.n.ensures.n c.n.ensures.range.positive
    c.in_ok-l.ensures.form c.in_ok-l.ensures.members).tame
