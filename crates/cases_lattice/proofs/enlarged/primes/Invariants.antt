use Rattle.std.proofs.Common.{All}
use Rattle.ff_fields.specs.Over.{IsOver}
use Rattle.ff_poly.specs.Words.{IsIrreducibleList}
use Rattle.cases_lattice.proofs.enlarged.primes.Given as goal

abbrev pub invariant-loop-part : goal.invariant-loop-part
invariant-loop-part g l = All (IsOver (g.K.SmallField.field l.k).ops) l.found.items
    × All (IsIrreducibleList (g.K.SmallField.field l.k).ops) l.found.items
