use Rattle.std.proofs.Common.{ℕ, ◌<◌, get_or}
use Rattle.ff_fields.proofs.residue.first_outside.Given as goal

abbrev pub invariant-loop-c : goal.invariant-loop-c
invariant-loop-c l = (i : ℕ) → i < l.c-index → get_or l.modulus i 0 < l.p
