use Rattle.std.proofs.Common.{◌≡◌, take}
use Rattle.split_theory.specs.Splits.{turned_row}
use Rattle.ff_split.proofs.turned.turned_row.Given as goal

abbrev pub invariant-loop-a : goal.invariant-loop-a
invariant-loop-a l = l.out.items ≡ turned_row l.m l.e (take l.a-index l.row)
