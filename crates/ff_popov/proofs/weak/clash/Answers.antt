use Rattle.std.proofs.Common.{◌<◌, length, sym, arith, subst, below_more}
use Rattle.ff_poly.specs.Popov.{rows_of, row_at, IsPivot}
use Rattle.ff_popov.proofs.weak.clash.Goals as goal
use Rattle.ff_popov.proofs.weak.clash.Goals.{in-Some+else-other-column, in_default}
use Rattle.ff_popov.proofs.Entries.{read_row_of}
use Rattle.ff_popov.proofs.Pivots.{one_pivot, zero_no_pivot}

pub loop-j-preserved : goal.loop-j-preserved
loop-j-preserved c =
    let less : c.loop-j.j < length c.args.rows.now = omega arith in
    let read = read_row_of c.args.rows.now c.loop-j.j c.index-rows-j.result c.deref-in-loop-j.result.now less
    c.index-rows-j.is c.deref-in-loop-j.ensures.value in
    below_more _ _ c.loop-j.invariant
    (elim c.match-pivot.branch as (λ _. ¬ IsPivot (row_at (rows_of c.args.rows.now) c.loop-j.j) c.in_ok-column.column) [
      | in-Some+else-other-column w ↦ λ p. w.if-other-column.false
          (one_pivot _ _ _ w.in-Some.ensures.column (subst (λ r. IsPivot r c.in_ok-column.column) (sym read) p))
      | in_default w ↦ λ p. zero_no_pivot _ _ w.in_default.ensures.column
          (subst (λ r. IsPivot r c.in_ok-column.column) (sym read) p)
    ])
