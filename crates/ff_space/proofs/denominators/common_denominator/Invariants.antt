use Rattle.std.proofs.Common.{take, All}
use Rattle.ff_fields.specs.Over.{IsOver}
use Rattle.ff_poly.specs.Words.{IsMonicList, DividesList}
use Rattle.ff_space.proofs.denominators.common_denominator.Given as goal

abbrev pub invariant-loop-z : goal.invariant-loop-z
invariant-loop-z g l =
    let k = (g.K.SmallField.field l.k).ops in
    record {
      over : IsOver k l.e;
      monic : IsMonicList l.e;
      divides : All (λ z. DividesList k z.den l.e)
          (take l.z-index l.zs);
    }
