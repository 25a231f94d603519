use Rattle.std.proofs.Common.{◌≡◌, take}
use Rattle.ff_structure.specs.Structures.{entry_products}
use Rattle.ff_structure.proofs.structure.products.Given as goal

abbrev pub invariant-loop-x : goal.invariant-loop-x
invariant-loop-x g l = l.out.items ≡ entry_products (g.K.SmallField.field l.k).ops (take l.x-index l.a) l.b
