use Rattle.std.proofs.Common.{◌≡◌, ◌<◌, suc, ◌+◌, ◌-◌, [], length, get_or, sym, ap, ap₂, ◌∙◌, arith, subst}
use Rattle.std.proofs.lemmas.List.{length-map}
use Rattle.ff_fields.specs.Over.{get_or_below}
use Rattle.ff_poly.specs.Popov.{rows_of, entry_at, IsRow}
use Rattle.ff_popov.proofs.Entries.{read_row_of, any_default}
use Rattle.ff_popov.proofs.ReadRows.{over_at}
use Rattle.ff_lattice.specs.PositionLists.{pivot_length, row_less}
use Rattle.ff_lattice.proofs.positions.clear.Goals as goal

pub subtract-requires-clause-c_in : goal.subtract-requires-clause-c_in
subtract-requires-clause-c_in g c =
    let k = g.K.SmallField.field c.args.k.now in
    let row = c.args.row.now in
    let code = c.coeff-code.ensures ∙ ap (λ v. get_or v c.args.t 0)
    (any_default row c.args.j c.index-row-j.result [] c.requires.j_in) in
    subst (λ x. x < k.size) (sym code) (get_or_below k (entry_at row c.args.j) c.args.t
    (over_at k row c.requires.row_in.over c.args.j))

pub subtract-requires-clause-other_in : goal.subtract-requires-clause-other_in
subtract-requires-clause-other_in g c =
    let k = g.K.SmallField.field c.args.k.now in
    let in_rows : c.args.j < length c.args.rows.now = omega
    (arith, c.requires.j_in, c.requires.popov.size, length-map c.args.rows.now (λ x. x.items)) in
    let is = read_row_of c.args.rows.now c.args.j c.index-rows-j.result c.deref.result.now in_rows c.index-rows-j.is
    c.deref.ensures.value in
    subst (IsRow k.ops (length c.args.row.now)) (sym is)
    (c.requires.rows_in c.args.j [] (omega (arith, c.requires.j_in, c.requires.popov.size)))

pub returns : goal.returns
returns g c =
    let k = g.K.SmallField.field c.args.k.now in
    let row = c.args.row.now in
    let j = c.args.j in
    let code = c.coeff-code.ensures ∙ ap (λ v. get_or v c.args.t 0)
    (any_default row j c.index-row-j.result [] c.requires.j_in) in
    let in_rows : j < length c.args.rows.now = omega
    (arith, c.requires.j_in, c.requires.popov.size, length-map c.args.rows.now (λ x. x.items)) in
    let is = read_row_of c.args.rows.now j c.index-rows-j.result c.deref.result.now in_rows c.index-rows-j.is
    c.deref.ensures.value in
    let power : c.args.t + 1 - c.pivot_len.result
    ≡ suc c.args.t - pivot_length (rows_of c.args.rows.now) j = omega (arith, c.pivot_len.ensures) in
    c.in_ok-subtract.ensures
    ∙ ap₂ (λ x s. row_less k.ops row x s c.deref.result.now) code power
    ∙ ap (row_less k.ops row (get_or (entry_at row j) c.args.t 0)
    (suc c.args.t - pivot_length (rows_of c.args.rows.now) j)) is
