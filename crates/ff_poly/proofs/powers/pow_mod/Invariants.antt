use Rattle.std.proofs.Common.{◌<◌, length}
use Rattle.ring_lemmas.specs.Ring.{pow}
use Rattle.ring_lemmas.specs.Congruence.{IsCongruent}
use Rattle.ff_fields.specs.Over.{IsOver}
use Rattle.ff_poly.specs.Words.{IsPoly}
use Rattle.ff_poly.specs.Value.{value}
use Rattle.ff_poly.specs.Polynomials.{polynomials}
use Rattle.ff_poly.proofs.powers.pow_mod.Given as goal

abbrev pub invariant-loop-left : goal.invariant-loop-left
invariant-loop-left g l =
    let k = g.K.SmallField.field l.k in
    record {
      power_in : IsOver k.ops l.power;
      power_poly : IsPoly l.power;
      shorter : length l.power < length l.m;
      square_in : IsOver k.ops l.square;
      kept : IsCongruent (polynomials k).ops (value k l.m)
          ((polynomials k).◌⊗◌ (value k l.power) (pow (polynomials k).ops (value k l.square) l.left))
          (pow (polynomials k).ops (value k l.fn.a) l.fn.e);
    }

abbrev pub decreases-loop-left : goal.decreases-loop-left
decreases-loop-left g l = l.left
