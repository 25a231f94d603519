use Rattle.std.proofs.Common.{ap, arith, length, length-drop}
use Rattle.std.proofs.lemmas.List.{take_rest}
use Rattle.ff_io.proofs.Writing.{appends_take, fills_more}
use Rattle.ff_io.proofs.sink.write_all.Goals as goal

pub loop-at-preserved : goal.loop-at-preserved
loop-at-preserved g c =
    let bytes = c.args.bytes.now in
    let at = c.loop-at.at in
    let n = c.in_ok-n.n in
    let old = c.loop-at.invariant in
    let rest = take_rest bytes at in record {
      within = omega (arith, c.in_ok-n.ensures.fits, length-drop at bytes);
      front = appends_take _ _ _ bytes _ at n rest old.front c.in_ok-n.ensures.bytes;
      count = omega (arith, old.count, c.in_ok-n.ensures.count);
      room = fills_more _ _ _ _ _ at n _ _ _ (omega (arith, ap length rest, length-drop at bytes)) old.room
          c.in_ok-n.ensures.room;
    }
