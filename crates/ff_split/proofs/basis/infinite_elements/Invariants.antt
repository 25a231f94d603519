use Rattle.std.proofs.Common.{◌≡◌, map, take, All}
use Rattle.function_field.specs.declared.side.Side.TheVariants.{Infinite}
use Rattle.function_field.specs.Values.{IsElem, function_of}
use Rattle.function_field.specs.Infinity.{function_on}
use Rattle.ff_lattice.specs.Lattices.{row_elems}
use Rattle.ff_split.proofs.basis.infinite_elements.Given as goal

-- the elements so far have the functions of the rows so far
abbrev pub invariant-loop-i : goal.invariant-loop-i
invariant-loop-i g l =
    let k = g.K.SmallField.field l.k in
    record {
      functions : map (function_of k l.c.fin) l.elems.items
          ≡ map (function_on k l.c.fin l.c.c Infinite) (take l.i (row_elems l.inf));
      in_range : All (IsElem k.ops l.c.fin.n) l.elems.items;
    }
