use Rattle.std.proofs.Common.{take}
use Rattle.ff_meaning.specs.Elements.{AreSumsOf}
use Rattle.ff_meaning.proofs.EntrySums.{IsFoundFrom}
use Rattle.ff_meaning.proofs.elements.sums.Given as goal

-- the entries so far are added up, and none of their codes is too great
abbrev pub invariant-loop-entry : goal.invariant-loop-entry
invariant-loop-entry g l =
    let ops = (g.K.SmallField.field l.k).ops in
    record {
      sums : AreSumsOf ops (take l.entry-index l.entries) l.sums.items;
      found : IsFoundFrom ops.size l.entries l.entry-index;
    }
