use Rattle.std.proofs.Common.{◌≤◌, ◌<◌, length, map, subst, sym, ap, ◌∙◌, arith, All}
use Rattle.std.proofs.lemmas.List.{take_all}
use Rattle.std.proofs.lemmas.Option.{get_or_from_slice_get}
use Rattle.function_field.specs.declared.side.Side.TheVariants.{Infinite}
use Rattle.function_field.specs.Values.{IsElem, function_of}
use Rattle.function_field.specs.Infinity.{function_on}
use Rattle.ff_lattice.specs.Lattices.{row_elems}
use Rattle.ff_lattice.proofs.RowElems.{elems_length}
use Rattle.ff_lattice.proofs.Quotients.{all_push}
use Rattle.ff_split.proofs.Elements.{images_more}
use Rattle.ff_split.proofs.basis.infinite_elements.Goals as goal

pub to_fin-requires-clause-z_in : goal.to_fin-requires-clause-z_in
to_fin-requires-clause-z_in g c =
    let k = g.K.SmallField.field c.args.k.now in
    c.in_ok-row.ensures.in_range k.ops c.args.c.now.inf.n c.requires.infinite

pub loop-i-preserved : goal.loop-i-preserved
loop-i-preserved g c =
    let k = g.K.SmallField.field c.args.k.now in
    let curve = c.args.c.now in
    let rs = row_elems c.args.inf.now in
    let r = c.in_ok-row.row in
    let end = c.len-i-end.ensures in
    let test = c.loop-i-test.true in
    let less : c.loop-i.i < length rs = omega (arith, elems_length c.args.inf.now, end, test) in
    record {
      functions =
          images_more (function_of k curve.fin) (function_on k curve.fin curve.c Infinite) c.loop-i.elems.items
          c.push.new.self.items rs c.loop-i.i c.in_ok-to_fin.field-0 r r c.loop-i.invariant.functions less
          (sym (get_or_from_slice_get rs c.loop-i.i r r c.in_ok-row.ensures.row))
          c.in_ok-to_fin.ensures.same_function c.in_ok-push.ensures.items;
      in_range =
          subst (All (IsElem k.ops curve.fin.n)) (sym c.in_ok-push.ensures.items)
          (all_push (IsElem k.ops curve.fin.n) c.loop-i.elems.items c.in_ok-to_fin.field-0
          c.loop-i.invariant.in_range c.in_ok-to_fin.ensures.in_range);
    }

pub returns-clause-functions : goal.returns-clause-functions
returns-clause-functions g c =
    let k = g.K.SmallField.field c.args.k.now in
    let curve = c.args.c.now in
    let rs = row_elems c.args.inf.now in
    let end = c.len-i-end.ensures in
    let size : length rs ≤ c.loop-i.i = omega (arith, elems_length c.args.inf.now, end) in
    c.loop-i.invariant.functions
    ∙ ap (map (function_on k curve.fin curve.c Infinite)) (take_all c.loop-i.i rs size)
