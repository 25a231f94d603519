use Rattle.std.proofs.Common.{refl, sym, subst}
use Rattle.ring_lemmas.proofs.Lists.{IsTrimmed_push}
use Rattle.ff_fields.specs.Code.{is_zero_code}
use Rattle.ff_poly.specs.Words.{IsPoly}
use Rattle.ff_algebra.proofs.elem.Elem.over_monic.Goals as goal

pub invariant_of-result : goal.invariant_of-result
invariant_of-result c = record {
  num_poly = c.requires.num_poly;
  den_poly = subst IsPoly (sym c.requires.monic.1)
      (record { trimmed = IsTrimmed_push is_zero_code c.requires.monic.0 1 refl });
  monic = c.requires.monic;
}

pub returns-clause-monic : goal.returns-clause-monic
returns-clause-monic c = invariant_of-result c
