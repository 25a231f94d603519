use Rattle.std.proofs.Common.{length, ap, sym, subst, ◌∙◌, arith}
use Rattle.std.proofs.lemmas.List.{length-map}
use Rattle.ff_poly.specs.Popov.{rows_of, IsPopovMatrix}
use Rattle.ff_lattice.proofs.PivotSums.{next_sum, entry_inside, pivot_is}
use Rattle.ff_lattice.proofs.preimage.multiples_bound.Goals as goal

pub index-requires : goal.index-requires
index-requires c =
    let vs = c.args.rows.now in
    let size = length-map vs (λ v. v.items) in
    let popov : IsPopovMatrix (length (rows_of vs)) (rows_of vs) = subst (λ n. IsPopovMatrix n (rows_of vs)) (sym size) c.requires
    in
    omega (
      arith,
      c.index-rows-i.result.ok,
      entry_inside (length (rows_of vs)) vs popov c.loop-i.i (omega arith)
          (sym size) c.index-rows-i.result c.index-rows-i.is,
    )

pub overflow_sub-len : goal.overflow_sub-len
overflow_sub-len c =
    let vs = c.args.rows.now in
    let size = length-map vs (λ v. v.items) in
    let popov : IsPopovMatrix (length (rows_of vs)) (rows_of vs) = subst (λ n. IsPopovMatrix n (rows_of vs)) (sym size) c.requires
    in
    let is = pivot_is (length (rows_of vs)) vs popov c.loop-i.i (omega arith) (sym size) c.index-rows-i.result
    c.index-rows-i.is c.index.result.now c.index.ensures in
    omega (arith, c.len.ensures.length, ap length is, (popov.pivot_at c.loop-i.i (omega (arith, size))).some)

pub loop-i-preserved : goal.loop-i-preserved
loop-i-preserved c =
    let vs = c.args.rows.now in
    let size = length-map vs (λ v. v.items) in
    let popov : IsPopovMatrix (length (rows_of vs)) (rows_of vs) = subst (λ n. IsPopovMatrix n (rows_of vs)) (sym size) c.requires
    in
    let is = pivot_is (length (rows_of vs)) vs popov c.loop-i.i (omega arith) (sym size) c.index-rows-i.result
    c.index-rows-i.is c.index.result.now c.index.ensures in
    let d_is = c.len.ensures.length ∙ ap length is in
    let sum = (rw c.in_ok-bound.ensures.ok_part at c.checked_add.ensures).1 in
    omega (arith, sum, c.loop-i.invariant, d_is, next_sum (rows_of vs) c.loop-i.i)
