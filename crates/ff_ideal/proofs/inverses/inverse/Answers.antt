use Rattle.std.proofs.Common.{◌↔◌, subst}
use Rattle.std.specs.Prelude.{IfOk}
use Rattle.function_field.specs.Values.{Functions}
use Rattle.ff_lattice.specs.Lattices.{LatticeValue, Contains}
use Rattle.ff_lattice.specs.Colons.{IsColon}
use Rattle.ff_lattice.proofs.Results.{ok_through}
use Rattle.ff_ideal.proofs.LatticeIdeals.{inverse_product}
use Rattle.ff_ideal.proofs.inverses.inverse.Goals as goal

pub returns-clause-product : goal.returns-clause-product
returns-clause-product g c =
    let k = g.K.SmallField.field c.args.k.now in
    let p = c.args.p.now in
    let i = c.args.i.now in
    ok_through c.colon.result
    (inverse_product k p c.n-degree.ensures.range.positive c.args.o.now c.requires.order i c.requires.closed
    c.requires.i_form c.requires.admitted)
    (subst (λ (a : LatticeValue). IfOk c.colon.result (λ l. (z : Functions k p) → Contains k p l z ↔ IsColon k p a i z))
    c.lattice.ensures c.colon.ensures.members)
