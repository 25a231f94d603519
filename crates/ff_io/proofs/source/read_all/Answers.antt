use Rattle.std.proofs.Common.{◌++◌, ◌∙◌, drop, take, arith, rules}
use Rattle.std.proofs.lemmas.List.{take-append-le}
use Rattle.ff_io.proofs.Reading.{took_next, took_whole, grown_length}
use Rattle.ff_io.proofs.source.read_all.Goals as goal

pub returns-then-n-eq0-clause-whole : goal.returns-then-n-eq0-clause-whole
returns-then-n-eq0-clause-whole g c =
    let read = c.in_ok-n.ensures in
    took_whole _ _ _ c.loop-asked.bytes.items _ _ c.if-n-eq0.true c.loop-asked.invariant.front read.bytes
    (read.end c.if-n-eq0.true (search rules))

pub loop-asked-preserved : goal.loop-asked-preserved
loop-asked-preserved g c =
    let old = c.loop-asked.invariant in
    let read = c.in_ok-n.ensures in
    let n = c.in_ok-n.n in
    let bytes = c.loop-asked.bytes.items in
    let whole = c.read.new.buf ++ drop c.if-room-lt-PIECE.asked c.loop-asked.buffer in
    let grown = c.in_ok-extend_from_slice.ensures.items in
    record {
      within = omega (arith, grown_length _ _ _ _ grown);
      front = rw grown (took_next _ _ _ bytes c.read.new.buf (take n whole) n read.fits (take-append-le n _ _ read.fits)
          old.front read.bytes);
      count = omega (arith, old.count, read.count);
      steady = λ s. let was = old.steady s in let is = read.stays_steady was.1 in (is.0 ∙ was.0, is.1);
    }
