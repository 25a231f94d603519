use Rattle.std.proofs.Common.{suc, ◌-◌, [], length, get_or, sym, ap, ◌∙◌, arith, subst}
use Rattle.ff_fields.specs.Over.{get_or_below}
use Rattle.ff_poly.specs.Popov.{rows_of, row_at, entry_at, IsRow}
use Rattle.ff_popov.proofs.Entries.{any_default}
use Rattle.ff_popov.proofs.ReadRows.{over_at}
use Rattle.ff_lattice.specs.PositionLists.{pivot_length}
use Rattle.ff_lattice.proofs.PositionSteps.{read_outside, read_ideal, read_kept, row_less_row}
use Rattle.ff_lattice.proofs.positions.read_position.Goals as goal

pub returns-then-t-pivot_len : goal.returns-then-t-pivot_len
returns-then-t-pivot_len g c =
    let k = g.K.SmallField.field c.args.k.now in
    read_outside k.ops (length c.args.row.now) (rows_of c.args.order.now) (rows_of c.args.ideal.now) c.args.t c.args.j
    c.requires.j_in c.args.row.now c.args.codes.now.items c.requires.row_in
    (omega (arith, c.if-t-pivot_len.true, c.pivot_len.ensures))

pub returns-then-pivot_len-t : goal.returns-then-pivot_len-t
returns-then-pivot_len-t g c =
    let k = g.K.SmallField.field c.args.k.now in
    let row = c.args.row.now in
    let J = rows_of c.args.ideal.now in
    let code_in = get_or_below k (entry_at row c.args.j) c.args.t (over_at k row c.requires.row_in.over c.args.j) in
    let b_in = c.requires.ideal_in c.args.j [] (omega (arith, c.requires.j_in, c.requires.ideal_popov.size)) in
    read_ideal k.ops (length row) (rows_of c.args.order.now) J c.args.t c.args.j c.requires.j_in row c.clear.new.row
    c.args.codes.now.items
    (subst (IsRow k.ops (length row)) (sym c.in_ok-clear.ensures)
    (row_less_row k (length row) row (row_at J c.args.j) (get_or (entry_at row c.args.j) c.args.t 0)
    (suc c.args.t - pivot_length J c.args.j) c.requires.row_in b_in code_in))
    (omega (arith, c.if-t-pivot_len.false, c.pivot_len.ensures))
    (omega (arith, c.if-pivot_len-t.true, c.pivot_len-2.ensures)) c.in_ok-clear.ensures

pub returns : goal.returns
returns g c =
    let k = g.K.SmallField.field c.args.k.now in
    let row = c.args.row.now in
    let W = rows_of c.args.order.now in
    let code_in = get_or_below k (entry_at row c.args.j) c.args.t (over_at k row c.requires.row_in.over c.args.j) in
    let b_in = c.requires.order_in c.args.j [] (omega (arith, c.requires.j_in, c.requires.order_popov.size)) in
    read_kept k.ops (length row) W (rows_of c.args.ideal.now) c.args.t c.args.j c.requires.j_in row c.clear-2.new.row
    c.args.codes.now.items c.push.new.self.items c.coeff.result
    (subst (IsRow k.ops (length row)) (sym c.in_ok-clear-2.ensures)
    (row_less_row k (length row) row (row_at W c.args.j) (get_or (entry_at row c.args.j) c.args.t 0)
    (suc c.args.t - pivot_length W c.args.j) c.requires.row_in b_in code_in))
    (omega (arith, c.if-t-pivot_len.false, c.pivot_len.ensures))
    (omega (arith, c.if-pivot_len-t.false, c.pivot_len-2.ensures))
    (c.coeff.ensures ∙ ap (λ v. get_or v c.args.t 0) (any_default row c.args.j c.index-row-j.result [] c.requires.j_in))
    c.in_ok-push.ensures.items c.in_ok-clear-2.ensures
