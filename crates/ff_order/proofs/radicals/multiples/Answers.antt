use Rattle.std.proofs.Common.{◌≤◌, length, sym, subst}
use Rattle.ff_lattice.specs.Lattices.{LatticeValue, IsLatticeValue}
use Rattle.ff_lattice.proofs.Results.{ok_through, ok_from_both}
use Rattle.ff_order.proofs.RadicalSets.{multiples_members, multiples_are_ideal}
use Rattle.ff_order.proofs.radicals.multiples.Goals as goal

pub scale-requires-clause-some : goal.scale-requires-clause-some
scale-requires-clause-some g c =
    subst (λ (l : LatticeValue). 1 ≤ length l.rows) (sym c.lattice.ensures)
    (subst (λ n. 1 ≤ n) (sym c.requires.order.lattice.popov.size) c.n-degree.ensures.range.positive)

pub scale-requires-clause-a_form : goal.scale-requires-clause-a_form
scale-requires-clause-a_form g c =
    let k = g.K.SmallField.field c.args.k.now in
    subst (λ (l : LatticeValue). IsLatticeValue k.ops (length l.rows) l) (sym c.lattice.ensures)
    (subst (λ n. IsLatticeValue k.ops n c.args.o.now) (sym c.requires.order.lattice.popov.size) c.requires.order.lattice)

pub returns-clause-ideal : goal.returns-clause-ideal
returns-clause-ideal g c =
    let k = g.K.SmallField.field c.args.k.now in
    let p = c.args.p.now in
    let o = c.args.o.now in
    let a = c.args.a.now in
    let size = c.requires.order.lattice.popov.size in
    ok_from_both c.scale.result
    (λ l form h.
    multiples_are_ideal k p c.n-degree.ensures.range.positive o c.requires.order a l
    (subst (λ n. IsLatticeValue k.ops n l) size
    (subst (λ (x : LatticeValue). IsLatticeValue k.ops (length x.rows) l) c.lattice.ensures form))
    (multiples_members k p l o c.lattice.result.now a c.in_ok-one.one c.lattice.ensures c.in_ok-one.ensures (sym size)
    h))
    c.scale.ensures.form c.scale.ensures.members

pub returns-clause-members : goal.returns-clause-members
returns-clause-members g c =
    let k = g.K.SmallField.field c.args.k.now in
    let p = c.args.p.now in
    let o = c.args.o.now in
    ok_through c.scale.result
    (λ l h. multiples_members k p l o c.lattice.result.now c.args.a.now c.in_ok-one.one c.lattice.ensures
    c.in_ok-one.ensures (sym c.requires.order.lattice.popov.size) h)
    c.scale.ensures.members
