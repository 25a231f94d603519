use Rattle.std.proofs.Common.{◌∷◌, [], ◌+◌, ◌-◌, ◌<◌, ◌≤◌, ℕ, length, refl, sym, ap, ◌∙◌, arith, subst}
use Rattle.std.specs.Prelude.{All}
use Rattle.ff_fields.specs.Over.{IsOver}
use Rattle.ff_poly.specs.Popov.{rows_of, entry_at}
use Rattle.ff_popov.specs.Rows.{IsCongruentRow, owner_length}
use Rattle.ff_popov.proofs.basis.popov_row.Goals as goal
use Rattle.ff_popov.proofs.Entries.{any_default, read_default}
use Rattle.ff_popov.proofs.Clearing.{written_row}
use Rattle.ff_popov.proofs.DivisionSteps.{one_over}
use Rattle.ff_popov.proofs.Lowering.{owner_row}
use Rattle.ff_popov.proofs.SpikeRows.{spike_bounded, spike_is, spike_length, popov_row_out}

pub reduce_row-requires-clause-bounded : goal.reduce_row-requires-clause-bounded
reduce_row-requires-clause-bounded g c =
    let k = g.K.SmallField.field c.args.k.now in
    let w = length c.args.owners.now in
    let d = c.len-degree.result - 1 in
    let spike = spike_is k w c.args.i d c.in_ok-row.row.items c.as_mut_slice.result.now c.index_mut.result.now
    c.sub_multiple.new.self c.in_ok-one.one c.requires.i_in c.in_ok-row.ensures c.index_mut.ensures.value
    c.in_ok-sub_multiple.ensures.difference c.in_ok-one.ensures c.as_mut_slice.ensures.value in
    subst (λ v. (j : ℕ) → length (entry_at v j) ≤ d + 1) (sym spike)
    (spike_bounded k w c.args.i d (1 ∷ []) (omega arith) (one_over k) c.requires.i_in)

pub sub_multiple-requires-2-clause-self_in : goal.sub_multiple-requires-2-clause-self_in
sub_multiple-requires-2-clause-self_in g c =
    let k = g.K.SmallField.field c.args.k.now in
    let w = length c.args.owners.now in
    let d = c.len-degree.result - 1 in
    let spike = spike_is k w c.args.i d c.in_ok-row.row.items c.as_mut_slice.result.now c.index_mut.result.now
    c.sub_multiple.new.self c.in_ok-one.one c.requires.i_in c.in_ok-row.ensures c.index_mut.ensures.value
    c.in_ok-sub_multiple.ensures.difference c.in_ok-one.ensures c.as_mut_slice.ensures.value in
    let size = spike_length w c.args.i c.as_mut_slice.result.now _ spike in
    let congruent = subst (λ n. IsCongruentRow k n (rows_of c.args.rows.now) c.as_mut_slice.result.now
    c.reduce_row.new.row) size c.in_ok-reduce_row.ensures.congruent in
    let written = written_row c.reduce_row.new.row _ c.in_ok-row.row.len
    (omega (arith, congruent.row.size, size, ap length c.as_mut_slice.ensures.value)) in
    read_default (IsOver k.ops) _ c.args.i c.index_mut-2.result.now
    (subst (All (IsOver k.ops)) written congruent.row.over)
    (omega (arith, ap length written, congruent.row.size, c.requires.i_in)) c.index_mut-2.ensures.value

pub returns : goal.returns
returns g c =
    let k = g.K.SmallField.field c.args.k.now in
    let w = length c.args.owners.now in
    let d = c.len-degree.result - 1 in
    let spike = spike_is k w c.args.i d c.in_ok-row.row.items c.as_mut_slice.result.now c.index_mut.result.now
    c.sub_multiple.new.self c.in_ok-one.one c.requires.i_in c.in_ok-row.ensures c.index_mut.ensures.value
    c.in_ok-sub_multiple.ensures.difference c.in_ok-one.ensures c.as_mut_slice.ensures.value in
    let size = spike_length w c.args.i c.as_mut_slice.result.now _ spike in
    let congruent = subst (λ n. IsCongruentRow k n (rows_of c.args.rows.now) c.as_mut_slice.result.now
    c.reduce_row.new.row) size c.in_ok-reduce_row.ensures.congruent in
    let written = written_row c.reduce_row.new.row _ c.in_ok-row.row.len
    (omega (arith, congruent.row.size, size, ap length c.as_mut_slice.ensures.value)) in
    let o = owner_row k.ops w c.args.rows.now c.args.owners.now c.args.i _ c.index-rows-owners.result
    c.index-rows-owners.result.items c.requires.rows_in c.requires.owners c.requires.i_in refl
    c.index-rows-owners.is refl in
    popov_row_out k w (rows_of c.args.rows.now) c.args.owners.now c.args.i d c.reduce_row.new.row c.requires.i_in
    c.requires.owners
    (omega (
      arith,
      c.len-degree.ensures.length,
      ap length (c.index.ensures ∙ any_default c.index-rows-owners.result.items c.args.i c.index.result.now []
          (omega (arith, c.requires.i_in, o.1.size))),
      ap (λ r. length (entry_at r c.args.i)) o.0,
      (c.requires.owners.owner_at c.args.i c.requires.i_in).pivot.some,
    ))
    (subst (λ v. IsCongruentRow k w (rows_of c.args.rows.now) v c.reduce_row.new.row) spike congruent)
    (subst (λ n. (j : ℕ) → j < n → length (entry_at c.reduce_row.new.row j) < owner_length (rows_of c.args.rows.now)
    c.args.owners.now j) size c.in_ok-reduce_row.ensures.shorter)
    _ c.index_mut-2.result.now c.sub_multiple-2.new.self c.in_ok-minus.minus written c.index_mut-2.ensures.value
    c.in_ok-sub_multiple-2.ensures.difference c.in_ok-minus.ensures
