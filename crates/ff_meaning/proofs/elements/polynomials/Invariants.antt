use Rattle.std.proofs.Common.{take, All}
use Rattle.ff_fields.specs.Over.{IsOver}
use Rattle.ff_meaning.specs.Elements.{AreCoefficients}
use Rattle.ff_meaning.proofs.elements.polynomials.Given as goal

-- the polynomials of the sums so far are made
abbrev pub invariant-loop-terms : goal.invariant-loop-terms
invariant-loop-terms g l =
    let ops = (g.K.SmallField.field l.k).ops in
    record {
      coefficients : AreCoefficients ops (take l.terms-index l.sums) l.polys.items;
      over : All (IsOver ops) l.polys.items;
    }
