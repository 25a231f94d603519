use Rattle.std.proofs.Common.{◌≡◌, ◌≢◌, ◌<◌, [], length, sym, ◌∙◌, arith}
use Rattle.ff_poly.specs.Popov.{rows_of}
use Rattle.ff_algebra.specs.Inverses.{line_entry}
use Rattle.ff_algebra.proofs.LineReads.{entry_read, all_read, no_degree, found_more}
use Rattle.ff_algebra.proofs.inverse.elimination.shortest_at.Goals as goal

pub index-requires : goal.index-requires
index-requires c =
    let less : c.args.column < length c.index-lines-i.result.items = all_read (λ line. c.args.column < length line)
    c.args.lines.now c.loop-i.i c.index-lines-i.result c.requires c.loop-i-test.true c.index-lines-i.is in
    omega arith

pub loop-i-preserved-in_default : goal.loop-i-preserved-in_default
loop-i-preserved-in_default c =
    let less : c.args.column < length c.index-lines-i.result.items = all_read (λ line. c.args.column < length line)
    c.args.lines.now c.loop-i.i c.index-lines-i.result c.requires c.loop-i-test.true c.index-lines-i.is in
    let read = entry_read c.args.lines.now c.loop-i.i c.args.column c.index-lines-i.result c.index.result.now
    c.loop-i-test.true c.index-lines-i.is less c.index.ensures in
    found_more (λ j. line_entry (rows_of c.args.lines.now) j c.args.column ≡ [])
    (λ f. (f.0 < length c.args.lines.now) × (line_entry (rows_of c.args.lines.now) f.0 c.args.column ≢ []))
    c.loop-i.i c.loop-i.found c.loop-i.invariant
    (sym read ∙ no_degree c.index.result.now (sym c.in_default.is ∙ c.degree.ensures))
