use Rattle.std.proofs.lemmas.Result.{err_from_is_err_and}
use Rattle.ff_meaning.proofs.EntrySums.{sums_more, found_more, row_of_entry}
use Rattle.ff_meaning.proofs.elements.sums.Goals as goal

pub returns-in_err-sum-clause-refused : goal.returns-in_err-sum-clause-refused
returns-in_err-sum-clause-refused g c =
    let e = err_from_is_err_and c.from_residual.result c.from_residual.ensures.1 in
    rw (e.1, e.2) (λ some. row_of_entry (g.K.SmallField.field c.args.k.now).size c.args.entries.now
    c.loop-entry.entry-index c.entry-item.result c.in_err-sum.field-0.0 c.loop-entry-test.true c.entry-item.is
    c.loop-entry.invariant.found (c.in_err-sum.ensures.refused some))

pub loop-entry-preserved : goal.loop-entry-preserved
loop-entry-preserved g c =
    let ops = (g.K.SmallField.field c.args.k.now).ops in
    record {
      sums = sums_more ops c.args.entries.now c.loop-entry.entry-index c.loop-entry.sums.items c.push.new.self.items
          c.entry-item.result _ c.loop-entry-test.true c.entry-item.is c.loop-entry.invariant.sums
          c.in_ok-sum.ensures.sum c.in_ok-push.ensures.items;
      found = found_more ops.size c.args.entries.now c.loop-entry.entry-index c.entry-item.result c.loop-entry-test.true
          c.entry-item.is c.in_ok-sum.ensures.sum.written c.loop-entry.invariant.found;
    }
