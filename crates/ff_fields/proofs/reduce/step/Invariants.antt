use Rattle.std.proofs.Common.{◌≡◌, ℕ, ◌<◌, ◌≤◌, ◌∷◌, get_or}
use Rattle.ff_fields.specs.Modulus.{stepped}
use Rattle.ff_fields.proofs.reduce.step.Given as goal

abbrev pub invariant-loop-j : goal.invariant-loop-j
invariant-loop-j l = record {
  done : (n : ℕ) → n < l.j → get_or l.rest n 0 ≡ stepped l.p l.fn.rest l.c l.row l.lost l.modulus n;
  left : (n : ℕ) → l.j ≤ n → get_or l.rest n 0 ≡ get_or l.fn.rest n 0;
  below_is : l.below ≡ get_or (0 ∷ l.fn.rest) l.j 0;
}
