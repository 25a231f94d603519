use Rattle.std.proofs.Common.{[], ◌∷◌, sym, subst, ◌↔◌}
use Rattle.function_field.specs.Values.{Functions, equation_of}
use Rattle.trace_theory.specs.Traces.{HasPolynomialCoordinates}
use Rattle.ff_lattice.specs.Lattices.{IsLatticeValue, IsSpannedBy, Contains, elems_over}
use Rattle.ff_lattice.specs.Orders.{IsOrderLattice}
use Rattle.ff_lattice.specs.Units.{unit_rows}
use Rattle.value_theory.proofs.UnitRows.{coordinate_lattice, coordinate_order}
use Rattle.ff_order.proofs.start.equation_order.Goals as goal

pub of-requires : goal.of-requires
of-requires g c =
    let k = g.K.SmallField.field c.args.k.now in
    let l = c.in_ok-l.l in
    coordinate_order k c.args.p.now c.n.ensures.range.positive l
    (subst (λ n. IsLatticeValue k.ops n l) c.n.ensures.n c.in_ok-l.ensures.form)
    (subst (λ n. IsSpannedBy k n (elems_over (unit_rows n n) (1 ∷ [])) l) c.n.ensures.n c.in_ok-l.ensures.members)

pub returns-clause-order : goal.returns-clause-order
returns-clause-order g c =
    let k = g.K.SmallField.field c.args.k.now in
    let l = c.in_ok-l.l in
    subst (IsOrderLattice k c.args.p.now) (sym c.of.ensures)
    (coordinate_order k c.args.p.now c.n.ensures.range.positive l
    (subst (λ n. IsLatticeValue k.ops n l) c.n.ensures.n c.in_ok-l.ensures.form)
    (subst (λ n. IsSpannedBy k n (elems_over (unit_rows n n) (1 ∷ [])) l) c.n.ensures.n c.in_ok-l.ensures.members))

pub returns-clause-members : goal.returns-clause-members
returns-clause-members g c =
    let k = g.K.SmallField.field c.args.k.now in
    let p = c.args.p.now in
    let l = c.in_ok-l.l in
    subst (λ o. (z : Functions k p) → Contains k p o z ↔ HasPolynomialCoordinates (equation_of k p) z)
    (sym c.of.ensures)
    (coordinate_lattice k p c.n.ensures.range.positive l
    (subst (λ n. IsSpannedBy k n (elems_over (unit_rows n n) (1 ∷ [])) l) c.n.ensures.n c.in_ok-l.ensures.members))
