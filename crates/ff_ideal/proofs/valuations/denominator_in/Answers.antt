use Rattle.std.proofs.Common.{rules, ◌≡◌, ap, ◌∙◌, subst, sym, length, true}
use Rattle.function_field.specs.Values.{function_of}
use Rattle.ff_lattice.specs.Lattices.{LatticeValue, Contains}
use Rattle.ff_lattice.proofs.Results.{ok_through}
use Rattle.ff_ideal.proofs.Denominators.{one_takes}
use Rattle.ff_ideal.proofs.valuations.denominator_in.Goals as goal

pub returns-then-branch-clause-inside : goal.returns-then-branch-clause-inside
returns-then-branch-clause-inside g c =
    let k = g.K.SmallField.field c.args.k.now in
    let p = c.args.p.now in
    let z = function_of k p c.args.z.now in
    let yes : c.in_ok-contains.field-0 ≡ true = search rules in
    let size : p.n ≡ length c.lattice.result.now.rows
    = sym (ap (λ (x : LatticeValue). length x.rows) c.lattice.ensures ∙ c.requires.order.lattice.popov.size) in
    let member = subst (λ (x : LatticeValue). Contains k p x z) c.lattice.ensures
    ((c.in_ok-contains.ensures p c.n-degree.ensures.range.positive size).0 yes) in
    ok_through c.one.result (λ h e. one_takes k p c.args.o.now z h e member) c.one.ensures
