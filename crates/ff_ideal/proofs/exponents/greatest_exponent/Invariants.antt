use Rattle.ff_ideal.proofs.LatticePrimes.{IsLowered}
use Rattle.ff_ideal.proofs.exponents.greatest_exponent.Given as goal

abbrev pub invariant-loop-m : goal.invariant-loop-m
invariant-loop-m g l = IsLowered (g.K.SmallField.field l.k) l.p l.o l.rows l.w l.m l.cur
