use Rattle.std.proofs.Common.{◌≡◌, ◌+◌, ◌*◌, ◌<◌, length, take, ap, ap₂, ◌∙◌, arith, subst}
use Rattle.std.proofs.lemmas.List.{length-map}
use Rattle.ff_poly.specs.Popov.{rows_of}
use Rattle.ff_algebra.specs.Inverses.{AreEliminatedLines}
use Rattle.ff_algebra.proofs.EliminatedLines.{rows_in, eliminated_more, factors_of_line}
use Rattle.ff_algebra.proofs.Inverting.{split}
use Rattle.ff_algebra.proofs.LineReads.{line_read}
use Rattle.ff_algebra.proofs.inverse.elimination.relation.Goals as goal

pub clear_column-requires-clause-lines_in : goal.clear_column-requires-clause-lines_in
clear_column-requires-clause-lines_in g c =
    let k = g.K.SmallField.field c.args.k.now in
    rows_in k c.args.p.now c.args.v.now (c.n.result + (c.n-first.result + 1)) c.loop-column.column
    (rows_of c.loop-column.lines.items)
    (omega (arith, c.n.ensures.n, c.n-first.ensures.n)) c.loop-column.invariant.lines

pub loop-column-preserved : goal.loop-column-preserved
loop-column-preserved g c =
    let k = g.K.SmallField.field c.args.k.now in
    let start : c.args.p.now.n < c.loop-column.column = omega (arith, c.n-first.ensures.n, c.loop-column.auto.column) in
    let more = eliminated_more k c.args.p.now c.args.v.now c.loop-column.column (rows_of c.loop-column.lines.items)
    (rows_of c.in_ok-lines-2.lines.items) start c.loop-column.invariant.lines c.in_ok-lines-2.ensures in
    let old_size = length-map c.loop-column.lines.items (λ r. r.items) in
    let new_size = length-map c.in_ok-lines-2.lines.items (λ r. r.items) in
    record { lines = more.0; enough = omega (arith, more.1, old_size, new_size, c.loop-column.invariant.enough) }

pub returns : goal.returns
returns g c =
    let k = g.K.SmallField.field c.args.k.now in
    let p = c.args.p.now in
    let lines = c.loop-column.lines.items in
    let column_is : c.loop-column.column
    ≡ 2 * p.n + 1 = omega (arith, c.n.ensures.n, c.n-first.ensures.n, c.loop-column.auto.column-end) in
    let some : 0 < length lines = omega (arith, c.loop-column.invariant.enough) in
    let size = length-map lines (λ r. r.items) in
    let factors = factors_of_line k p c.args.v.now (rows_of lines) c.truncate.new.self.items
    c.n-first.ensures.range.positive (omega (arith, size))
    (subst (λ j. AreEliminatedLines k p c.args.v.now j (rows_of lines)) column_is c.loop-column.invariant.lines)
    (c.truncate.ensures.items ∙ ap₂ take (ap (λ n. n + 1) c.n-first.ensures.n)
    (line_read lines 0 c.remove-factors.result some c.remove-factors.ensures.value)) in
    split k p c.args.v.now c.truncate.new.self.items c.pop.new.self.items c.in-Some.d c.n-first.ensures.range.positive
    c.in-Some.ensures.items factors
