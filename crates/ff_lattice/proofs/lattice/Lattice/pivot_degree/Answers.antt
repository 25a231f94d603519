use Rattle.std.proofs.Common.{◌≡◌, ◌+◌, ◌-◌, ◌<◌, ◌*◌, ◌^◌, length, ap, ap₂, sym, subst, ◌∙◌, arith, pos, ◌-ℤ◌}
use Rattle.std.proofs.lemmas.List.{length-map}
use Rattle.ff_poly.specs.Popov.{rows_of, IsPopovMatrix, pivot_degree}
use Rattle.ff_lattice.specs.Steps.{pivot_sum}
use Rattle.ff_lattice.proofs.PivotSums.{whole_sum, next_sum, added, reduced, entry_inside, pivot_is}
use Rattle.ff_lattice.proofs.lattice.Lattice.pivot_degree.Goals as goal

pub index-requires : goal.index-requires
index-requires c =
    let vs = c.rows-rows.result.now in
    let size = length-map vs (λ v. v.items) in
    let popov : IsPopovMatrix (length (rows_of vs)) (rows_of vs) = subst (λ rows. IsPopovMatrix (length rows) rows)
    (sym c.rows-rows.ensures.rows) c.rows-rows.ensures.form.popov in
    omega (
      arith,
      c.index-rows-i.result.ok,
      entry_inside (length (rows_of vs)) vs popov c.loop-i.i (omega arith)
          (sym size) c.index-rows-i.result c.index-rows-i.is,
    )

pub overflow_sub-sum : goal.overflow_sub-sum
overflow_sub-sum c =
    let vs = c.rows-rows.result.now in
    let size = length-map vs (λ v. v.items) in
    let popov : IsPopovMatrix (length (rows_of vs)) (rows_of vs) = subst (λ rows. IsPopovMatrix (length rows) rows)
    (sym c.rows-rows.ensures.rows) c.rows-rows.ensures.form.popov in
    let is = pivot_is (length (rows_of vs)) vs popov c.loop-i.i (omega arith) (sym size) c.index-rows-i.result
    c.index-rows-i.is c.index.result.now c.index.ensures in
    omega (arith, c.len.ensures.length, ap length is, (popov.pivot_at c.loop-i.i (omega (arith, size))).some)

pub loop-i-preserved : goal.loop-i-preserved
loop-i-preserved c =
    let vs = c.rows-rows.result.now in
    let size = length-map vs (λ v. v.items) in
    let popov : IsPopovMatrix (length (rows_of vs)) (rows_of vs) = subst (λ rows. IsPopovMatrix (length rows) rows)
    (sym c.rows-rows.ensures.rows) c.rows-rows.ensures.form.popov in
    let is = pivot_is (length (rows_of vs)) vs popov c.loop-i.i (omega arith) (sym size) c.index-rows-i.result
    c.index-rows-i.is c.index.result.now c.index.ensures in
    let d_is = c.len.ensures.length ∙ ap length is in
    let (sum_is, low) = c.loop-i.invariant in
    let small : c.len.result - 1 < 2 ^ 64 = omega arith in (
      added c.loop-i.sum-bits (pivot_sum (rows_of vs) c.loop-i.i) c.loop-i.i (c.len.result - 1) sum_is low
          (omega (arith, c.requires.few, ap length c.rows-rows.ensures.rows, size)) (omega arith)
          ∙ ap (λ d. pos (pivot_sum (rows_of vs) c.loop-i.i + (d - 1))) d_is
          ∙ ap pos (sym (next_sum (rows_of vs) c.loop-i.i)),
      omega (arith, low, d_is, small, next_sum (rows_of vs) c.loop-i.i),
    )

pub returns : goal.returns
returns c =
    let vs = c.rows-rows.result.now in
    let size = length-map vs (λ v. v.items) in
    let (sum_is, low) = c.loop-i.invariant in
    let end : c.loop-i.i ≡ length vs = omega arith in
    let end' : c.loop-i.i ≡ length (rows_of vs) = omega (arith, end, size) in
    let rows_length = ap length c.rows-rows.ensures.rows in
    reduced c.loop-i.sum-bits (pivot_sum (rows_of vs) c.loop-i.i) (length vs) (c.len-degree.result - 1)
    sum_is (omega (arith, c.requires.few, rows_length, size)) (omega arith) (omega (arith, low, end))
    ∙ ap₂ (λ s m. pos s -ℤ pos m)
    (ap (pivot_sum (rows_of vs)) end' ∙ whole_sum (rows_of vs) ∙ ap pivot_degree c.rows-rows.ensures.rows)
    (ap₂ (λ n d. n * (d - 1)) (sym size ∙ rows_length) (c.len-degree.ensures.length ∙ ap length c.den.ensures.den))
