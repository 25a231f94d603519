use Rattle.std.proofs.Common.{◌≡◌, ◌++◌, map, take, All}
use Rattle.function_field.specs.Values.{IsElem, functions, function_of}
use Rattle.ff_lattice.specs.Lattices.{row_elems}
use Rattle.ff_lattice.proofs.operations.push_products.Given as goal

abbrev pub invariant-loop-j : goal.invariant-loop-j
invariant-loop-j g l =
    let k = g.K.SmallField.field l.k in
    let f = function_of k l.p in
    record {
      in_range : All (IsElem k.ops l.p.n) l.gens.items;
      products : map f l.gens.items ≡ map f l.fn.gens.items
          ++ map ((functions k l.p).◌⊗◌ (f l.z)) (map f (take l.j (row_elems l.b)));
    }
