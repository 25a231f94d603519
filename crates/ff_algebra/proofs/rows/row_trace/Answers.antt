use Rattle.std.proofs.Common.{◌≡◌, suc, ◌-◌, ◌<◌, [], length, arith, ap, ◌∙◌}
use Rattle.std.proofs.lemmas.List.{get_or_read}
use Rattle.std.proofs.lemmas.List.Elements.{All-get_or}
use Rattle.ff_fields.specs.Over.{IsOver, IsOver_nil}
use Rattle.ff_poly.specs.Value.{value}
use Rattle.ff_algebra.specs.RowProducts.{row_at}
use Rattle.ff_algebra.proofs.Traces.{trace_start, sum_start, trace_more, sum_more, trace_end}
use Rattle.ff_algebra.proofs.rows.row_trace.Goals as goal

pub loop-i-init : goal.loop-i-init
loop-i-init g c =
    let k = g.K.SmallField.field c.args.k.now in
    let p = c.args.p.now in
    let v = row_at k p c.args.v.now in
    record {
      row = rw c.in_ok-row.ensures c.requires.v_in;
      power = ap (row_at k p) c.in_ok-row.ensures ∙ trace_start k p v;
      sum_in = rw c.zero-sum.ensures IsOver_nil;
      sum = ap (value k) c.zero-sum.ensures ∙ sum_start k p v;
    }

pub add-requires-clause-b_in : goal.add-requires-clause-b_in
add-requires-clause-b_in g c =
    let k = g.K.SmallField.field c.args.k.now in
    let size = c.loop-i.invariant.row.one_each in
    rw c.index.ensures (All-get_or (IsOver k.ops) c.loop-i.row.items c.loop-i.i c.index.result.now
    (omega (arith, size, c.n-i-end.ensures.n)) c.loop-i.invariant.row.over)

pub loop-i-preserved : goal.loop-i-preserved
loop-i-preserved g c =
    let k = g.K.SmallField.field c.args.k.now in
    let p = c.args.p.now in
    let v = row_at k p c.args.v.now in
    let size = c.loop-i.invariant.row.one_each in
    let inside : c.loop-i.i < length c.loop-i.row.items = omega (arith, size, c.n-i-end.ensures.n) in
    let less : c.loop-i.i < suc (p.n - 1) = omega (arith, c.n-i-end.ensures.n, c.n-i-end.ensures.range.positive) in
    let a_in : IsOver k.ops c.index.result.now = rw c.index.ensures
    (All-get_or (IsOver k.ops) c.loop-i.row.items c.loop-i.i c.index.result.now inside
    c.loop-i.invariant.row.over) in
    record {
      row = c.in_ok-multiply_by_y.ensures.in_range;
      power = trace_more k p v c.loop-i.i c.loop-i.row.items c.multiply_by_y.new.row.items c.loop-i.invariant.power
          c.in_ok-multiply_by_y.ensures.product;
      sum_in = c.in_ok-sum.ensures.over;
      sum = sum_more k p v c.loop-i.i c.loop-i.row.items c.loop-i.sum c.index.result.now c.in_ok-sum.sum less
          c.loop-i.invariant.power c.loop-i.invariant.sum
          (get_or_read c.loop-i.row.items c.loop-i.i c.index.result.now inside c.index.ensures [])
          c.loop-i.invariant.sum_in a_in c.in_ok-sum.ensures.sum;
    }

pub returns-clause-trace : goal.returns-clause-trace
returns-clause-trace g c =
    let k = g.K.SmallField.field c.args.k.now in
    let p = c.args.p.now in
    let v = row_at k p c.args.v.now in
    let all : c.loop-i.i ≡ suc (p.n - 1) = omega (arith, c.n-i-end.ensures.n, c.n-i-end.ensures.range.positive) in
    c.loop-i.invariant.sum ∙ trace_end k p v c.loop-i.i all
