use Rattle.std.proofs.Common.{◌<◌, length, subst, sym, All, arith}
use Rattle.function_field.specs.Values.{IsElem}
use Rattle.ff_lattice.proofs.RowElems.{elems_length}
use Rattle.ff_lattice.specs.Lattices.{row_elems}
use Rattle.ff_lattice.proofs.Quotients.{all_push}
use Rattle.ff_lattice.proofs.SumsAndProducts.{product_more}
use Rattle.ff_lattice.proofs.operations.push_products.Goals as goal

pub loop-j-preserved : goal.loop-j-preserved
loop-j-preserved g c =
    let k = g.K.SmallField.field c.args.k.now in
    let p = c.args.p.now in
    let b = c.args.b.now in
    let less : c.loop-j.j < length (row_elems b) = omega (arith, elems_length b) in
    record {
      in_range =
          subst (All (IsElem k.ops p.n)) (sym c.in_ok-push.ensures.items)
          (all_push (IsElem k.ops p.n) c.loop-j.gens.items c.in_ok-mul.field-0 c.loop-j.invariant.in_range
          c.in_ok-mul.ensures.in_range);
      products =
          product_more k p c.loop-j.gens.items c.push.new.self.items c.args.gens.now.items c.args.z.now (row_elems b)
          c.loop-j.j c.in_ok-row.row c.in_ok-mul.field-0 less
          c.in_ok-row.ensures.row c.in_ok-mul.ensures.product c.in_ok-push.ensures.items c.loop-j.invariant.products;
    }

pub mul-requires-clause-b_in : goal.mul-requires-clause-b_in
mul-requires-clause-b_in g c = c.in_ok-row.ensures.in_range (g.K.SmallField.field c.args.k.now).ops c.args.p.now.n
    c.requires.b_form
