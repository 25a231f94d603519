use Rattle.std.proofs.Common.{◌≡◌, ◌++◌, drop}
use Rattle.ff_order.specs.Enlargements.{repeated}
use Rattle.ff_maximal.proofs.orders.repeated.Given as goal

-- the polynomials so far and those to come
abbrev pub invariant-loop-part : goal.invariant-loop-part
invariant-loop-part l = l.polys.items ++ repeated (drop l.part-index l.parts) ≡ repeated l.parts
