use Rattle.ff_linalg.proofs.relations.write_column.Given as goal
use Rattle.ff_linalg.specs.Relations.{IsColumnWritten}

abbrev pub invariant-loop-j : goal.invariant-loop-j
invariant-loop-j l = IsColumnWritten l.fn.m l.c l.codes l.j l.m
