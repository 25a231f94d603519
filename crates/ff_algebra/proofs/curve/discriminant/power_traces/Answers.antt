use Rattle.std.proofs.Common.{◌≡◌, [], ◌∷◌, ◌-◌, replicate, ap, ap₂, ◌∙◌}
use Rattle.ring_lemmas.specs.Rows.{row_trace}
use Rattle.ff_poly.specs.Polynomials.{polynomials}
use Rattle.function_field.specs.Values.{equation_of}
use Rattle.ff_algebra.specs.RowProducts.{row_at}
use Rattle.ff_algebra.proofs.PowerTraces.{traces_none, traces_more}
use Rattle.ff_algebra.proofs.curve.discriminant.power_traces.Goals as goal

pub loop-init : goal.loop-init
loop-init g c =
    let zeros : c.in_ok-power.power.items ≡ replicate (c.args.p.now.n - 1) [] = c.in_ok-power.ensures
    ∙ ap (λ n. replicate (n - 1) []) c.n.ensures.n in
    traces_none (g.K.SmallField.field c.args.k.now) c.args.p.now c.insert.new.self.items c.new-traces.result.items
    c.n.ensures.range.positive
    (c.in_ok-insert.ensures.items ∙ ap₂ (λ x xs. x ∷ xs) c.in_ok-one.ensures zeros) c.new-traces.ensures.items

pub loop-preserved : goal.loop-preserved
loop-preserved g c =
    let k = g.K.SmallField.field c.args.k.now in
    let p = c.args.p.now in
    traces_more k p c.loop.counter c.loop.power.items c.multiply_by_y.new.row.items c.loop.traces.items
    c.push.new.self.items c.in_ok-row_trace.field-0 c.loop.invariant
    (c.in_ok-row_trace.ensures.trace ∙ ap
    (λ w. row_trace (polynomials k).ops (p.n - 1) (equation_of k p).coefficients (row_at k p w))
    c.as_slice.ensures.value)
    c.in_ok-row_trace.ensures.over c.in_ok-push.ensures.items c.in_ok-multiply_by_y.ensures.product
    c.in_ok-multiply_by_y.ensures.in_range
