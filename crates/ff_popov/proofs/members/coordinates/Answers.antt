use Rattle.std.proofs.Common.{◌<◌, [], length, get_or, replicate, refl, sym, ap, ◌∙◌, arith, subst}
use Rattle.std.specs.Prelude.{All}
use Rattle.std.proofs.lemmas.List.{length-map}
use Rattle.ff_poly.specs.Words.{IsPoly}
use Rattle.ff_poly.specs.Popov.{rows_of, row_at, entry_at, IsPivot, IsZeroRow}
use Rattle.ff_popov.proofs.members.coordinates.Goals as goal
use Rattle.ff_fields.specs.Over.{IsOver}
use Rattle.ff_popov.proofs.Entries.{any_default, read_default}
use Rattle.ff_popov.proofs.Clearing.{written_row}
use Rattle.ff_popov.proofs.Pivots.{pivot_below}
use Rattle.ff_popov.proofs.DivisionSteps.{IsRest, rest_start, rest_done, rest_not, step_kept, step_falls, basis_row_read, self_row, other_row, minus_fits, minus_over}

pub loop-column-init : goal.loop-column-init
loop-column-init g c =
    let k = g.K.SmallField.field c.args.k.now in
    let w = length c.args.v.now in
    subst (λ r. IsRest k w (rows_of c.args.basis.now) c.args.v.now c.in_ok-coefficients.coefficients.items r)
    (sym c.in_ok-rest.ensures)
    (subst (λ cs. IsRest k w (rows_of c.args.basis.now) c.args.v.now cs c.args.v.now)
    (sym (c.in_ok-coefficients.ensures ∙ ap (λ n. replicate n []) (sym (length-map c.args.basis.now (λ x. x.items)))))
    (rest_start k w (rows_of c.args.basis.now) c.requires.basis_in c.requires.popov c.args.v.now
    (record { size = refl; over = c.requires.v_in })))

pub index-requires-in-Some : goal.index-requires-in-Some
index-requires-in-Some g c =
    let k = g.K.SmallField.field c.args.k.now in
    let w = length c.args.v.now in
    let is = c.deref.ensures.value in
    let p = subst (λ r. IsPivot r c.in-Some.column) is c.in-Some.ensures.column in
    let poly = subst (All IsPoly) is c.in-Some.ensures.trimmed in
    let less : c.in-Some.column < w = omega
    (arith, pivot_below c.loop-column.rest.items c.in-Some.column p, c.loop-column.invariant.row.size) in
    omega (
      arith,
      less,
      ap length (basis_row_read k c.args.basis.now w c.in-Some.column c.index-basis-column.result
          c.index-basis-column.result.items c.requires.popov less c.index-basis-column.is refl),
      (c.requires.basis_in c.in-Some.column [] (omega (arith, less, c.requires.popov.size))).size,
    )

pub returns-then-len : goal.returns-then-len
returns-then-len g c =
    let k = g.K.SmallField.field c.args.k.now in
    let w = length c.args.v.now in
    let is = c.deref.ensures.value in
    let p = subst (λ r. IsPivot r c.in-Some.column) is c.in-Some.ensures.column in
    let poly = subst (All IsPoly) is c.in-Some.ensures.trimmed in
    let less : c.in-Some.column < w = omega
    (arith, pivot_below c.loop-column.rest.items c.in-Some.column p, c.loop-column.invariant.row.size) in
    let row_is = (basis_row_read k c.args.basis.now w c.in-Some.column c.index-basis-column.result
    c.index-basis-column.result.items c.requires.popov less c.index-basis-column.is refl) in
    let b_size = (c.requires.basis_in c.in-Some.column [] (omega (arith, less, c.requires.popov.size))).size in
    rest_not k w (rows_of c.args.basis.now) c.requires.basis_in c.requires.popov c.args.v.now
    (record { size = refl; over = c.requires.v_in })
    c.loop-column.coefficients.items c.loop-column.rest.items c.in-Some.column c.loop-column.invariant poly p
    (omega (
      arith,
      c.if-len.true,
      c.len.ensures.length,
      c.len-in-Some.ensures.length,
      ap length (c.index.ensures ∙ any_default c.loop-column.rest.items c.in-Some.column _ []
          (pivot_below c.loop-column.rest.items c.in-Some.column p)),
      ap length (c.index-in-Some.ensures ∙ ap (λ r. get_or r c.in-Some.column c.index-in-Some.result.now) row_is
          ∙ any_default (row_at (rows_of c.args.basis.now) c.in-Some.column) c.in-Some.column _ []
          (omega (arith, less, b_size))),
    ))

pub clear_pivot-requires-clause-row_in : goal.clear_pivot-requires-clause-row_in
clear_pivot-requires-clause-row_in g c =
    let k = g.K.SmallField.field c.args.k.now in
    let w = length c.args.v.now in
    self_row k.ops w c.loop-column.rest.items c.as_mut_slice.result.now c.loop-column.invariant.row
    c.as_mut_slice.ensures.value

pub clear_pivot-requires-clause-other_in : goal.clear_pivot-requires-clause-other_in
clear_pivot-requires-clause-other_in g c =
    let k = g.K.SmallField.field c.args.k.now in
    let w = length c.args.v.now in
    let is = c.deref.ensures.value in
    let p = subst (λ r. IsPivot r c.in-Some.column) is c.in-Some.ensures.column in
    let poly = subst (All IsPoly) is c.in-Some.ensures.trimmed in
    let less : c.in-Some.column < w = omega
    (arith, pivot_below c.loop-column.rest.items c.in-Some.column p, c.loop-column.invariant.row.size) in
    other_row k.ops w c.loop-column.rest.items c.as_mut_slice.result.now
    (row_at (rows_of c.args.basis.now) c.in-Some.column) c.deref-in-Some.result.now c.loop-column.invariant.row
    (c.requires.basis_in c.in-Some.column [] (omega (arith, less, c.requires.popov.size))) c.as_mut_slice.ensures.value
    (basis_row_read k c.args.basis.now w c.in-Some.column c.index-basis-column.result c.deref-in-Some.result.now
    c.requires.popov less c.index-basis-column.is c.deref-in-Some.ensures.value)

pub clear_pivot-requires-clause-row_pivot : goal.clear_pivot-requires-clause-row_pivot
clear_pivot-requires-clause-row_pivot g c =
    let k = g.K.SmallField.field c.args.k.now in
    let w = length c.args.v.now in
    let is = c.deref.ensures.value in
    let p = subst (λ r. IsPivot r c.in-Some.column) is c.in-Some.ensures.column in
    let poly = subst (All IsPoly) is c.in-Some.ensures.trimmed in
    let less : c.in-Some.column < w = omega
    (arith, pivot_below c.loop-column.rest.items c.in-Some.column p, c.loop-column.invariant.row.size) in
    subst (λ r. IsPivot r c.in-Some.column) (sym c.as_mut_slice.ensures.value) p

pub clear_pivot-requires-clause-other_pivot : goal.clear_pivot-requires-clause-other_pivot
clear_pivot-requires-clause-other_pivot g c =
    let k = g.K.SmallField.field c.args.k.now in
    let w = length c.args.v.now in
    let is = c.deref.ensures.value in
    let p = subst (λ r. IsPivot r c.in-Some.column) is c.in-Some.ensures.column in
    let poly = subst (All IsPoly) is c.in-Some.ensures.trimmed in
    let less : c.in-Some.column < w = omega
    (arith, pivot_below c.loop-column.rest.items c.in-Some.column p, c.loop-column.invariant.row.size) in
    subst (λ r. IsPivot r c.in-Some.column)
    (sym (basis_row_read k c.args.basis.now w c.in-Some.column c.index-basis-column.result
    c.deref-in-Some.result.now c.requires.popov less c.index-basis-column.is c.deref-in-Some.ensures.value))
    (c.requires.popov.pivot_at c.in-Some.column less)

pub clear_pivot-requires-clause-longer : goal.clear_pivot-requires-clause-longer
clear_pivot-requires-clause-longer g c =
    let k = g.K.SmallField.field c.args.k.now in
    let w = length c.args.v.now in
    let is = c.deref.ensures.value in
    let p = subst (λ r. IsPivot r c.in-Some.column) is c.in-Some.ensures.column in
    let poly = subst (All IsPoly) is c.in-Some.ensures.trimmed in
    let less : c.in-Some.column < w = omega
    (arith, pivot_below c.loop-column.rest.items c.in-Some.column p, c.loop-column.invariant.row.size) in
    let row_is = (basis_row_read k c.args.basis.now w c.in-Some.column c.index-basis-column.result
    c.index-basis-column.result.items c.requires.popov less c.index-basis-column.is refl) in
    let b_size = (c.requires.basis_in c.in-Some.column [] (omega (arith, less, c.requires.popov.size))).size in
    omega (
      arith,
      c.if-len.false,
      c.len.ensures.length,
      c.len-in-Some.ensures.length,
      ap length (c.index.ensures ∙ any_default c.loop-column.rest.items c.in-Some.column _ []
          (pivot_below c.loop-column.rest.items c.in-Some.column p)),
      ap length (c.index-in-Some.ensures ∙ ap (λ r. get_or r c.in-Some.column c.index-in-Some.result.now) row_is
          ∙ any_default (row_at (rows_of c.args.basis.now) c.in-Some.column) c.in-Some.column _ []
          (omega (arith, less, b_size))),
      ap (λ r. length (entry_at r c.in-Some.column)) c.as_mut_slice.ensures.value,
      ap (λ r. length (entry_at r c.in-Some.column))
          (basis_row_read k c.args.basis.now w c.in-Some.column c.index-basis-column.result c.deref-in-Some.result.now
          c.requires.popov less c.index-basis-column.is c.deref-in-Some.ensures.value),
    )

pub sub_multiple-requires-clause-self_in : goal.sub_multiple-requires-clause-self_in
sub_multiple-requires-clause-self_in g c =
    let k = g.K.SmallField.field c.args.k.now in
    let w = length c.args.v.now in
    let is = c.deref.ensures.value in
    let p = subst (λ r. IsPivot r c.in-Some.column) is c.in-Some.ensures.column in
    let poly = subst (All IsPoly) is c.in-Some.ensures.trimmed in
    let less : c.in-Some.column < w = omega
    (arith, pivot_below c.loop-column.rest.items c.in-Some.column p, c.loop-column.invariant.row.size) in
    read_default (IsOver k.ops) c.loop-column.coefficients.items c.in-Some.column c.index_mut.result.now
    c.loop-column.invariant.over
    (omega (arith, less, c.loop-column.invariant.size, c.requires.popov.size)) c.index_mut.ensures.value

pub sub_multiple-requires-clause-c_in : goal.sub_multiple-requires-clause-c_in
sub_multiple-requires-clause-c_in g c = c.in_ok-c.ensures.scalar_in

pub sub_multiple-requires-clause-other_in : goal.sub_multiple-requires-clause-other_in
sub_multiple-requires-clause-other_in g c =
    let k = g.K.SmallField.field c.args.k.now in
    rw c.in_ok-minus.ensures (minus_over k)

pub sub_multiple-requires-clause-fits : goal.sub_multiple-requires-clause-fits
sub_multiple-requires-clause-fits g c =
    let k = g.K.SmallField.field c.args.k.now in
    minus_fits k.ops c.in_ok-c.s c.in_ok-minus.minus c.in_ok-c.ensures.fits c.in_ok-minus.ensures

pub loop-column-smaller : goal.loop-column-smaller
loop-column-smaller g c =
    let k = g.K.SmallField.field c.args.k.now in
    let w = length c.args.v.now in
    let is = c.deref.ensures.value in
    let p = subst (λ r. IsPivot r c.in-Some.column) is c.in-Some.ensures.column in
    let poly = subst (All IsPoly) is c.in-Some.ensures.trimmed in
    let less : c.in-Some.column < w = omega
    (arith, pivot_below c.loop-column.rest.items c.in-Some.column p, c.loop-column.invariant.row.size) in
    step_falls k w (rows_of c.args.basis.now) c.requires.basis_in c.requires.popov c.args.v.now
    (record { size = refl; over = c.requires.v_in })
    c.loop-column.coefficients.items c.loop-column.rest.items c.as_mut_slice.result.now c.deref-in-Some.result.now
    c.clear_pivot.new.row _ c.in-Some.column c.in_ok-c.c c.in_ok-c.s
    c.loop-column.invariant p c.as_mut_slice.ensures.value c.in_ok-c.ensures
    (written_row c.clear_pivot.new.row _ c.loop-column.rest.len
    (omega (arith, c.in_ok-c.ensures.is.size, ap length c.as_mut_slice.ensures.value)))

pub loop-column-preserved : goal.loop-column-preserved
loop-column-preserved g c =
    let k = g.K.SmallField.field c.args.k.now in
    let w = length c.args.v.now in
    let is = c.deref.ensures.value in
    let p = subst (λ r. IsPivot r c.in-Some.column) is c.in-Some.ensures.column in
    let poly = subst (All IsPoly) is c.in-Some.ensures.trimmed in
    let less : c.in-Some.column < w = omega
    (arith, pivot_below c.loop-column.rest.items c.in-Some.column p, c.loop-column.invariant.row.size) in
    step_kept k w (rows_of c.args.basis.now) c.requires.basis_in c.requires.popov c.args.v.now
    (record { size = refl; over = c.requires.v_in })
    c.loop-column.coefficients.items c.loop-column.rest.items c.as_mut_slice.result.now c.deref-in-Some.result.now
    c.clear_pivot.new.row _
    c.index_mut.result.now c.sub_multiple.new.self c.in_ok-minus.minus c.in-Some.column c.in_ok-c.c c.in_ok-c.s
    c.loop-column.invariant poly p c.as_mut_slice.ensures.value
    (basis_row_read k c.args.basis.now w c.in-Some.column c.index-basis-column.result c.deref-in-Some.result.now
    c.requires.popov less c.index-basis-column.is c.deref-in-Some.ensures.value)
    c.in_ok-c.ensures c.index_mut.ensures.value c.in_ok-sub_multiple.ensures.difference c.in_ok-minus.ensures
    (written_row c.clear_pivot.new.row _ c.loop-column.rest.len
    (omega (arith, c.in_ok-c.ensures.is.size, ap length c.as_mut_slice.ensures.value)))

pub returns : goal.returns
returns g c =
    let k = g.K.SmallField.field c.args.k.now in
    let w = length c.args.v.now in
    let is = c.deref.ensures.value in
    rest_done k w (rows_of c.args.basis.now) c.requires.basis_in c.requires.popov c.args.v.now
    (record { size = refl; over = c.requires.v_in })
    c.loop-column.coefficients.items c.loop-column.rest.items c.loop-column.invariant
    (subst (All IsPoly) is c.in_default.ensures.trimmed) (subst IsZeroRow is c.in_default.ensures.column)
