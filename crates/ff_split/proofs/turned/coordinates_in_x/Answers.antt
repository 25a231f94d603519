use Rattle.std.proofs.Common.{◌≡◌, ◌+◌, ◌≤◌, length, subst, sym, ap, ap₂, ◌∙◌, arith}
use Rattle.std.proofs.lemmas.List.{length-map}
use Rattle.ff_poly.specs.Popov.{rows_of}
use Rattle.split_theory.specs.Splits.{turned_from}
use Rattle.ff_split.specs.Steps.{HaveEntriesWithin}
use Rattle.ff_split.proofs.TurnedRows.{turned_are}
use Rattle.ff_split.proofs.turned.coordinates_in_x.Goals as goal

pub turned_rows-requires-clause-few : goal.turned_rows-requires-clause-few
turned_rows-requires-clause-few g c =
    let rows = c.in_ok-exponent.rows.items in
    let size = length-map rows (λ v. v.items) in
    let count = c.in_ok-exponent.ensures.count in
    let four : c.args.c.now.fin.n ≤ 4 = c.requires.curve.at_most_four in
    omega (arith, ap length c.deref-2.ensures.value, size, count, four)

pub turned_rows-requires-clause-short : goal.turned_rows-requires-clause-short
turned_rows-requires-clause-short g c =
    subst (λ rows. HaveEntriesWithin c.longest-m.result (rows_of rows))
    (c.deref.ensures.value ∙ sym c.deref-2.ensures.value) c.longest-m.ensures.short

pub returns : goal.returns
returns g c =
    let k = g.K.SmallField.field c.args.k.now in
    let curve = c.args.c.now in
    let m = c.longest-m.result in
    let least : c.in_ok-least.least ≡ c.in_ok-exponent.exponent + 1
    = (rw c.in_ok-least.ensures.ok_part at c.checked_add.ensures).1 in
    turned_are k curve c.args.inf.now c.requires.curve c.requires.form c.in_ok-exponent.exponent c.in_ok-least.least m
    (rows_of c.in_ok-exponent.rows.items) (rows_of c.in_ok-turned.turned.items) c.in_ok-exponent.ensures least
    c.longest-m.ensures.least
    (subst (λ rows. HaveEntriesWithin m (rows_of rows)) c.deref.ensures.value c.longest-m.ensures.short)
    (c.in_ok-turned.ensures
    ∙ ap₂ (λ n rows. turned_from n m 0 (rows_of rows)) c.c.ensures c.deref-2.ensures.value)
