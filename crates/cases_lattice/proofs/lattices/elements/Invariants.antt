use Rattle.std.proofs.Common.{All}
use Rattle.function_field.specs.Values.{IsElem}
use Rattle.cases_lattice.proofs.lattices.elements.Given as goal

abbrev pub invariant-loop-part : goal.invariant-loop-part
invariant-loop-part g l = All (IsElem (g.K.SmallField.field l.k).ops l.n) l.found.items
