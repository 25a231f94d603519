use Rattle.std.proofs.Common.{◌<◌, [], length, refl, ap, ◌∙◌, arith}
use Rattle.std.proofs.lemmas.List.{length-map}
use Rattle.ff_poly.specs.Popov.{rows_of, entry_at}
use Rattle.ff_popov.proofs.Entries.{read_row_of, any_default}
use Rattle.ff_lattice.proofs.positions.pivot_len.Goals as goal

pub index-requires : goal.index-requires
index-requires g c =
    let v = c.index-rows-j.result in
    let row = read_row_of c.args.rows.now c.args.j v v.items c.requires.j_in c.index-rows-j.is refl in
    let in_rows : c.args.j < length (rows_of c.args.rows.now) = omega
    (arith, c.requires.j_in, length-map c.args.rows.now (λ x. x.items)) in
    omega (arith, c.requires.j_in, ap length row, (c.requires.rows_in c.args.j [] in_rows).size)

pub returns : goal.returns
returns g c =
    let v = c.index-rows-j.result in
    let row = read_row_of c.args.rows.now c.args.j v v.items c.requires.j_in c.index-rows-j.is refl in
    let in_rows : c.args.j < length (rows_of c.args.rows.now) = omega
    (arith, c.requires.j_in, length-map c.args.rows.now (λ x. x.items)) in
    let in_row : c.args.j < length v.items = omega
    (arith, c.requires.j_in, ap length row, (c.requires.rows_in c.args.j [] in_rows).size) in
    c.len.ensures.length ∙ ap length (c.index.ensures ∙ any_default v.items c.args.j c.index.result.now [] in_row
    ∙ ap (λ r. entry_at r c.args.j) row)
