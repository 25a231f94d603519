use Rattle.std.proofs.Common.{◌*◌, ◌≤◌, ◌∙◌, length, ap, subst, sym}
use Rattle.ff_poly.specs.Popov.{entry_at}
use Rattle.ff_lattice.proofs.Pushes.{read_row}
use Rattle.split_theory.specs.Splits.{turned_row}
use Rattle.ff_split.proofs.TurnedRows.{turned_more}
use Rattle.ff_split.proofs.turned.turned_rows.Goals as goal

pub loop-j-preserved : goal.loop-j-preserved
loop-j-preserved c =
    turned_more c.args.c c.args.m c.loop-j.out.items c.push.new.self.items c.args.rows.now c.loop-j.j
    c.index-rows-j.result c.in_ok-turned_row.field-0 c.loop-j.invariant c.loop-j-test.true c.index-rows-j.is
    (c.in_ok-turned_row.ensures ∙ ap (turned_row c.args.m (c.args.c * c.loop-j.j)) c.deref.ensures.value)
    c.in_ok-push.ensures.items

pub turned_row-requires : goal.turned_row-requires
turned_row-requires c = λ i.
    subst (λ row. length (entry_at row i) ≤ c.args.m)
    (sym (c.deref.ensures.value
    ∙ read_row c.args.rows.now c.loop-j.j c.index-rows-j.result c.loop-j-test.true c.index-rows-j.is))
    (c.requires.short.each c.loop-j.j i)
