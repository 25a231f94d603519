use Rattle.std.proofs.Common.{take}
use Rattle.ff_lattice.specs.Lattices.{IsLatticeValue}
use Rattle.value_theory.specs.IntegralLattices.{presentation}
use Rattle.ff_rr.specs.Frames.{order_on}
use Rattle.ff_rr.specs.Products.{IsProductOfPowers}
use Rattle.ff_rr.proofs.pairs.lattice_on.Given as goal

-- the product of the powers of the primes so far
abbrev pub invariant-loop-i : goal.invariant-loop-i
invariant-loop-i g l = record {
  form : IsLatticeValue (g.K.SmallField.field l.k).ops (presentation l.f.curve l.side).n l.l;
  product : IsProductOfPowers (g.K.SmallField.field l.k) (presentation l.f.curve l.side) (order_on l.f l.side) l.side
      (take l.i l.primes) (take l.i l.mult) l.l;
}
