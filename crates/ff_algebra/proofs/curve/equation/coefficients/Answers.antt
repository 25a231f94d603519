use Rattle.std.proofs.Common.{[], length, ◌≤◌, arith}
use Rattle.std.proofs.lemmas.List.Elements.{All-push}
use Rattle.ff_fields.specs.Over.{IsOver}
use Rattle.ff_algebra.specs.CurveTerms.{IsCoefficient}
use Rattle.ff_algebra.proofs.CurveTerms.{pushed_each}
use Rattle.ff_algebra.proofs.curve.equation.coefficients.Goals as goal

pub loop-i-preserved : goal.loop-i-preserved
loop-i-preserved g c =
    let k = g.K.SmallField.field c.args.k.now in
    let old = c.loop-i.coeffs.items in
    let p = c.in_ok-coefficient.field-0 in
    record {
      size = omega (arith, c.in_ok-push.ensures.len, c.loop-i.invariant.size);
      each = pushed_each (IsCoefficient k.ops c.args.terms.now) old c.push.new.self.items p [] c.loop-i.i
          c.loop-i.invariant.size c.loop-i.invariant.each c.in_ok-coefficient.ensures.coefficient
          c.in_ok-push.ensures.items;
      over = rw c.in_ok-push.ensures.items
          (All-push (IsOver k.ops) old p c.loop-i.invariant.over c.in_ok-coefficient.ensures.over);
      short = rw c.in_ok-push.ensures.items
          (All-push (λ p. length p ≤ 33) old p c.loop-i.invariant.short c.in_ok-coefficient.ensures.short);
    }
