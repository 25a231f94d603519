use Rattle.std.proofs.Common.{arith}
use Rattle.ff_split.proofs.TurnedRows.{longest_more, all_short}
use Rattle.ff_split.proofs.turned.longest.Goals as goal

pub loop-row-preserved : goal.loop-row-preserved
loop-row-preserved c = record {
  least = omega arith;
  each = longest_more c.args.rows.now c.loop-row.row-index c.row-item.result c.loop-row.longest
      c.longest_entry-longest.result c.deref.result.now c.loop-row-test.true c.row-item.is c.deref.ensures.value
      c.loop-row.invariant.each c.longest_entry-longest.ensures.least c.longest_entry-longest.ensures.each;
}

pub returns-clause-short : goal.returns-clause-short
returns-clause-short c =
    all_short c.args.rows.now c.loop-row.row-index c.loop-row.longest (omega arith) c.loop-row.invariant.each
