use Rattle.std.proofs.Common.{◌≡◌, ◌≤◌, map, take}
use Rattle.ff_poly.specs.Value.{value}
use Rattle.ff_poly.specs.Popov.{entry_at}
use Rattle.function_field.specs.Values.{IsElem, function_of, equation_of}
use Rattle.lattice_theory.specs.Lattices.{polynomial_ops}
use Rattle.linear_theory.specs.Module.{combine}
use Rattle.ff_split.proofs.basis.combined.Given as goal

-- the sum of the first products
abbrev pub invariant-loop-j : goal.invariant-loop-j
invariant-loop-j g l =
    let k = g.K.SmallField.field l.k in
    let f = function_of k l.p in
    record {
      some : 1 ≤ l.j;
      sum : f l.sum ≡ combine (polynomial_ops (equation_of k l.p)) (λ j. value k (entry_at l.row j))
          (take l.j (map f l.elems));
      in_range : IsElem k.ops l.p.n l.sum;
    }
