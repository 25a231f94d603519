use Rattle.std.proofs.Common.{◌≡◌, map, take, All}
use Rattle.ring_theory.specs.Subsets.{products}
use Rattle.function_field.specs.Values.{IsElem, functions, function_of}
use Rattle.ff_lattice.specs.Lattices.{row_elems}
use Rattle.ff_lattice.proofs.operations.product.Given as goal

abbrev pub invariant-loop-i : goal.invariant-loop-i
invariant-loop-i g l =
    let k = g.K.SmallField.field l.k in
    let f = function_of k l.p in
    record {
      in_range : All (IsElem k.ops l.p.n) l.gens.items;
      products : map f l.gens.items ≡ products (functions k l.p).ops (map f (take l.i (row_elems l.a)))
          (map f (row_elems l.b));
    }
