use Rattle.std.proofs.Common.{◌<◌, [], length, take, sym, ap, ◌∙◌, arith}
use Rattle.std.proofs.lemmas.List.{length-take-le}
use Rattle.ff_lattice.proofs.Pushes.{read_row, pushed_rows}
use Rattle.ff_lattice.proofs.preimage.corner.Goals as goal

pub slice_bounds-copy_row-end : goal.slice_bounds-copy_row-end
slice_bounds-copy_row-end c =
    let less : c.loop-i.i < length c.args.rows.now = omega arith in
    let is = c.deref.ensures.value ∙ read_row c.args.rows.now c.loop-i.i c.index-rows-i.result less c.index-rows-i.is in
    sym (length-take-le c.args.n c.deref.result.now
    (omega (arith, ap length is, c.requires.entries_fit c.loop-i.i c.loop-i-test.true)))

pub loop-i-preserved : goal.loop-i-preserved
loop-i-preserved c =
    let less : c.loop-i.i < length c.args.rows.now = omega arith in
    pushed_rows (take c.args.n) c.loop-i.out.items c.push.new.self.items [] c.args.rows.now c.loop-i.i
    c.index-rows-i.result c.in_ok-copy_row.field-0
    c.loop-i.invariant less c.index-rows-i.is (c.in_ok-copy_row.ensures ∙ ap (take c.args.n) c.deref.ensures.value)
    c.in_ok-push.ensures.items
