use Rattle.std.proofs.Common.{◌≡◌, map, take, All}
use Rattle.ff_poly.specs.Value.{value}
use Rattle.ff_poly.specs.Popov.{rows_of, entry_at}
use Rattle.function_field.specs.Functions.{of_poly}
use Rattle.function_field.specs.Values.{functions, function_of, equation_of}
use Rattle.lattice_theory.specs.Lattices.{polynomial_ops}
use Rattle.linear_theory.specs.Module.{combine}
use Rattle.ff_split.specs.Splits.{IsLowestElem}
use Rattle.ff_split.proofs.basis.combinations.Given as goal

-- the elements so far
abbrev pub invariant-loop-row : goal.invariant-loop-row
invariant-loop-row g l =
    let k = g.K.SmallField.field l.k in
    record {
      quotients : map (λ w. (functions k l.p).◌⊗◌ (of_poly (equation_of k l.p) (value k l.u)) (function_of k l.p w))
          l.out.items
          ≡ map (λ row. combine (polynomial_ops (equation_of k l.p)) (λ j. value k (entry_at row j))
          (map (function_of k l.p) l.elems)) (take l.row-index (rows_of l.rows));
      lowest : All (IsLowestElem k.ops l.p.n) l.out.items;
    }
