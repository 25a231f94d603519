use Rattle.std.proofs.Common.{rules, ◌≡◌, length, sym, ◌∙◌, ap, subst, true}
use Rattle.function_field.specs.Values.{IsElem, function_of}
use Rattle.ff_lattice.specs.Lattices.{LatticeValue, IsLatticeValue, Contains}
use Rattle.cases_lattice.proofs.quotients.class.Goals as goal

pub contains-requires-clause-a_form : goal.contains-requires-clause-a_form
contains-requires-clause-a_form g c =
    let k = g.K.SmallField.field c.args.k.now in
    let q = c.args.q.now in
    let lattice = c.requires.over.quotient.frame.order.lattice in
    let is : c.lattice.result.now ≡ q.order = c.lattice.ensures ∙ c.order.ensures in
    subst (λ (l : LatticeValue). IsLatticeValue k.ops (length l.rows) l) (sym is)
    (subst (λ n. IsLatticeValue k.ops n q.order) (sym lattice.popov.size) lattice)

pub contains-requires-clause-z_in : goal.contains-requires-clause-z_in
contains-requires-clause-z_in g c =
    let k = g.K.SmallField.field c.args.k.now in
    let q = c.args.q.now in
    let lattice = c.requires.over.quotient.frame.order.lattice in
    let is : c.lattice.result.now ≡ q.order = c.lattice.ensures ∙ c.order.ensures in
    let size : length c.lattice.result.now.rows ≡ c.args.q.now.p.n = ap (λ (l : LatticeValue). length l.rows) is
    ∙ lattice.popov.size in
    subst (λ n. IsElem k.ops n c.args.z.now) (sym size) c.requires.z_in

pub reduce-requires-clause-member : goal.reduce-requires-clause-member
reduce-requires-clause-member g c =
    let k = g.K.SmallField.field c.args.k.now in
    let q = c.args.q.now in
    let frame = c.requires.over.quotient.frame in
    let is : c.lattice.result.now ≡ q.order = c.lattice.ensures ∙ c.order.ensures in
    let size : q.p.n ≡ length c.lattice.result.now.rows = sym
    (ap (λ (l : LatticeValue). length l.rows) is ∙ frame.order.lattice.popov.size) in
    let yes : c.in_ok-contains.field-0 ≡ true = search rules in
    subst (λ l. Contains k q.p l (function_of k q.p c.args.z.now)) is
    ((c.in_ok-contains.ensures q.p frame.positive size).0 yes)
