use Rattle.std.proofs.Common.{rules, ◌≡◌, true, false}
use Rattle.ff_lattice.proofs.IdealRows.{not_inside, inside_decided}
use Rattle.ff_lattice.proofs.ideals.is_ideal.Goals as goal

pub returns-then-not-branch : goal.returns-then-not-branch
returns-then-not-branch g c =
    let k = g.K.SmallField.field c.args.k.now in
    let no : c.in_ok-has_rows.field-0 ≡ false = search rules in
    not_inside k c.args.p.now c.args.o.now c.lattice-l.result.now c.args.i.now c.lattice-l.ensures
    c.in_ok-has_rows.field-0 c.in_ok-has_rows.ensures no

pub returns : goal.returns
returns g c =
    let k = g.K.SmallField.field c.args.k.now in
    let yes : c.in_ok-has_rows.field-0 ≡ true = search rules in
    inside_decided k c.args.p.now c.args.o.now c.lattice-l.result.now c.args.i.now c.lattice-l.ensures c.requires.i_form
    c.in_ok-has_rows.field-0 c.in_ok-has_rows.ensures yes c.takes_rows.result
    c.takes_rows.ensures
