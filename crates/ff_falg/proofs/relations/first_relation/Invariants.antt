use Rattle.std.proofs.Common.{◌<◌, ◌≤◌, ◌-◌, length}
use Rattle.ff_falg.specs.Relations.{IsPowers}
use Rattle.ff_falg.proofs.relations.first_relation.Given as goal

abbrev pub invariant-grow : goal.invariant-grow
invariant-grow g l = record {
  some : 0 < length l.powers.rows;
  within : length l.powers.rows ≤ l.bound;
  powers : IsPowers (g.K.SmallField.field l.k).ops (g.A.FiniteAlgebra.algebra l.a) l.x l.e l.powers;
}

abbrev pub decreases-grow : goal.decreases-grow
decreases-grow g l = l.bound - length l.powers.rows
