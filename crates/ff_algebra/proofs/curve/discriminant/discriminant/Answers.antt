use Rattle.std.proofs.Common.{◌≡◌, length, take, ◌∙◌}
use Rattle.ring_theory.specs.Determinant.{determinant}
use Rattle.ff_fields.specs.Over.{IsOver}
use Rattle.ff_poly.specs.Words.{IsPoly}
use Rattle.ff_poly.specs.Value.{value}
use Rattle.ff_poly.specs.Polynomials.{polynomials}
use Rattle.function_field.specs.Curves.{IsDiscriminant}
use Rattle.ff_algebra.specs.CurveTerms.{matrix_of}
use Rattle.ff_algebra.proofs.PowerTraces.{four_rows, IfOk_three, discriminant_is}
use Rattle.ff_algebra.proofs.curve.discriminant.discriminant.Goals as goal

pub returns : goal.returns
returns g c =
    let k = g.K.SmallField.field c.args.k.now in
    let p = c.args.p.now in
    let rows = take c.n.result four_rows in
    let traces = c.in_ok-traces.traces.items in
    let h = c.in_ok-traces.ensures in
    IfOk_three c.determinant.result
    (λ d. value k d ≡ determinant (polynomials k).ops (length rows) (matrix_of k c.as_slice.result.now rows 0))
    (IsOver k.ops) IsPoly (IsDiscriminant k p)
    (λ d is in_k poly. record {
      poly = poly;
      over = in_k;
      value = is ∙ discriminant_is k p traces c.as_slice.result.now c.n.result c.n.ensures.n c.n.ensures.range.positive
          c.n.ensures.range.at_most_four h.count c.as_slice.ensures.value h.traces;
    })
    c.determinant.ensures.value c.determinant.ensures.over c.determinant.ensures.poly
