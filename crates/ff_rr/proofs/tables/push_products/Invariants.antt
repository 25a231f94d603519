use Rattle.std.proofs.Common.{List, ◌++◌, map, take}
use Rattle.function_field.specs.Values.{Functions, functions, function_of}
use Rattle.ff_falg.specs.Idempotents.{elements_of}
use Rattle.ff_rr.specs.Listings.{AreVectorsOf}
use Rattle.ff_rr.proofs.tables.push_products.Given as goal

-- the products so far
abbrev pub invariant-loop-b : goal.invariant-loop-b
invariant-loop-b g l =
    let k = g.K.SmallField.field l.k in
    (gs : List (Functions k l.p)) → AreVectorsOf k l.p l.s.functions gs (elements_of l.initial.table.items)
    → AreVectorsOf k l.p l.s.functions
    (gs ++ map ((functions k l.p).◌⊗◌ (function_of k l.p l.a)) (map (function_of k l.p) (take l.b-index l.functions)))
    (elements_of l.table.items)
