use Rattle.std.proofs.Common.{subst, All, arith}
use Rattle.std.proofs.lemmas.List.{take_all}
use Rattle.ff_poly.specs.Words.{DividesList}
use Rattle.ff_lattice.specs.Steps.{IsCommonMultiple}
use Rattle.ff_lattice.proofs.CommonDenominators.{denominators_more}
use Rattle.ff_space.proofs.denominators.common_denominator.Goals as goal

pub loop-z-preserved : goal.loop-z-preserved
loop-z-preserved g c =
    let k = g.K.SmallField.field c.args.k.now in
    let common = subst (λ d. IsCommonMultiple k.ops c.loop-z.e d c.in_ok-e-2.e) c.den.ensures.den c.in_ok-e-2.ensures in
    record {
      over = common.over;
      monic = common.monic;
      divides = denominators_more k c.args.n c.args.zs.now c.loop-z.z-index c.z-item.result c.loop-z.e c.in_ok-e-2.e
          c.requires c.loop-z-test.true c.z-item.is c.loop-z.invariant.over c.loop-z.invariant.divides common;
    }

pub returns-clause-divides : goal.returns-clause-divides
returns-clause-divides g c =
    let k = g.K.SmallField.field c.args.k.now in
    subst (All (λ z. DividesList k.ops z.den c.loop-z.e)) (take_all c.loop-z.z-index c.args.zs.now (omega arith))
    c.loop-z.invariant.divides
