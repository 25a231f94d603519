use Rattle.std.proofs.Common.{ap, arith}
use Rattle.std.proofs.lemmas.List.Elements.{All-push}
use Rattle.ff_fields.specs.Over.{IsOver}
use Rattle.ff_algebra.specs.CurveTerms.{degree_in_x}
use Rattle.ff_meaning.proofs.EntrySums.{low_each, coefficients_more}
use Rattle.ff_meaning.proofs.elements.polynomials.Goals as goal

pub polynomial-requires-clause-low : goal.polynomial-requires-clause-low
polynomial-requires-clause-low g c =
    let low = low_each c.args.sums.now c.loop-terms.terms-index c.terms-item.result c.loop-terms-test.true
    c.terms-item.is in
    omega (arith, low, ap degree_in_x c.list.ensures.list, c.requires.low)

pub loop-terms-preserved : goal.loop-terms-preserved
loop-terms-preserved g c =
    let ops = (g.K.SmallField.field c.args.k.now).ops in
    record {
      coefficients = coefficients_more ops c.args.sums.now c.loop-terms.terms-index c.loop-terms.polys.items
          c.push.new.self.items c.terms-item.result _ c.loop-terms-test.true c.terms-item.is
          c.loop-terms.invariant.coefficients (rw c.list.ensures.list at c.in_ok-polynomial.ensures.coefficient)
          c.in_ok-push.ensures.items;
      over = rw c.in_ok-push.ensures.items
          (All-push (IsOver ops) c.loop-terms.polys.items _ c.loop-terms.invariant.over
          c.in_ok-polynomial.ensures.over);
    }
