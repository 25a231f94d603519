use Rattle.std.proofs.Common.{◌≡◌, take}
use Rattle.ff_poly.specs.Popov.{rows_of}
use Rattle.split_theory.specs.Splits.{turned_from}
use Rattle.ff_split.proofs.turned.turned_rows.Given as goal

abbrev pub invariant-loop-j : goal.invariant-loop-j
invariant-loop-j l = rows_of l.out.items ≡ turned_from l.c l.m 0 (take l.j (rows_of l.rows))
