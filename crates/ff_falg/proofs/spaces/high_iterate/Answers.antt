use Rattle.std.proofs.Common.{arith, sym, subst}
use Rattle.ff_falg.specs.Spaces.{IsFrobenius}
use Rattle.ff_falg.specs.Steps.{IsIterate}
use Rattle.ff_falg.proofs.spaces.high_iterate.Goals as goal
use Rattle.ff_falg.proofs.SpaceLaws.{iterate_start, iterate_step, square_low, square_high}

pub loop-reach-init : goal.loop-reach-init
loop-reach-init g c =
    let k = g.K.SmallField.field c.args.k.now in
    let A = g.A.FiniteAlgebra.algebra c.args.a.now in
    let law = g.A.FiniteAlgebra.laws c.args.a.now k c.requires.over in
    record {
      some = let l = k.laws.one_below in let e = c.size-reach.ensures in omega arith;
      iterate = subst (λ n. IsIterate k.ops A n c.in_ok-iterate.iterate) (sym c.size-reach.ensures)
          (iterate_start k A law _ (subst (IsFrobenius k.ops A) (sym c.in_ok-iterate.ensures) c.requires.map));
    }

pub loop-reach-preserved : goal.loop-reach-preserved
loop-reach-preserved g c =
    let k = g.K.SmallField.field c.args.k.now in
    let A = g.A.FiniteAlgebra.algebra c.args.a.now in
    let law = g.A.FiniteAlgebra.laws c.args.a.now k c.requires.over in
    record {
      some = square_low c.loop-reach.reach _ c.loop-reach.invariant.some c.saturating_mul-reach.ensures;
      iterate = iterate_step k A law c.loop-reach.reach _ c.loop-reach.iterate _ c.loop-reach.invariant.iterate
          c.in_ok-iterate-2.ensures
          (square_high c.loop-reach.reach _ c.saturating_mul-reach.ensures);
    }
