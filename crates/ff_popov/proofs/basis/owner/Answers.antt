use Rattle.std.proofs.Common.{◌<◌, length, sym, arith, subst, below_more}
use Rattle.std.specs.Prelude.{All}
use Rattle.ff_poly.specs.Words.{IsPoly}
use Rattle.ff_poly.specs.Popov.{rows_of, row_at, IsPivot}
use Rattle.ff_popov.proofs.basis.owner.Goals as goal
use Rattle.ff_popov.proofs.basis.owner.Goals.{in-Some+else-other-column, in_default}
use Rattle.ff_popov.proofs.Entries.{read_row_of}
use Rattle.ff_popov.proofs.Pivots.{one_pivot, zero_no_pivot}

pub loop-i-preserved : goal.loop-i-preserved
loop-i-preserved c =
    let less : c.loop-i.i < length c.args.rows.now = omega arith in
    let read = read_row_of c.args.rows.now c.loop-i.i c.index-rows-i.result c.deref.result.now less c.index-rows-i.is
    c.deref.ensures.value in
    record {
      none = below_more _ _ c.loop-i.invariant.none
          (elim c.match-pivot.branch as (λ _. ¬ IsPivot (row_at (rows_of c.args.rows.now) c.loop-i.i) c.args.column) [
            | in-Some+else-other-column w ↦ λ p. w.if-other-column.false
                (one_pivot _ _ _ w.in-Some.ensures.column (subst (λ r. IsPivot r c.args.column) (sym read) p))
            | in_default w ↦ λ p. zero_no_pivot _ _ w.in_default.ensures.column
                (subst (λ r. IsPivot r c.args.column) (sym read) p)
          ]);
      trimmed = below_more _ _ c.loop-i.invariant.trimmed (subst (All IsPoly) read c.pivot.ensures.trimmed);
    }
