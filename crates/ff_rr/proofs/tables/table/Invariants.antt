use Rattle.std.proofs.Common.{map, take}
use Rattle.ring_theory.specs.Subsets.{products}
use Rattle.function_field.specs.Values.{functions, function_of}
use Rattle.ff_falg.specs.Idempotents.{elements_of}
use Rattle.ff_rr.specs.Listings.{AreVectorsOf}
use Rattle.ff_rr.proofs.tables.table.Given as goal

-- the products so far
abbrev pub invariant-loop-a : goal.invariant-loop-a
invariant-loop-a g l =
    let k = g.K.SmallField.field l.k in
    AreVectorsOf k l.p l.s.functions
    (products (functions k l.p).ops (map (function_of k l.p) (take l.a-index l.functions))
    (map (function_of k l.p) l.s.functions))
    (elements_of l.table.items)
