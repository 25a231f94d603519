use Rattle.std.proofs.Common.{◌^◌, length, sym, ap, arith, subst, ◌∙◌}
use Rattle.ff_popov.proofs.weak.cleared.Goals as goal
use Rattle.std.specs.Prelude.{All}
use Rattle.ff_fields.specs.Over.{IsOver}
use Rattle.ff_popov.specs.Rows.{IsRowLess, IsCleared}
use Rattle.ff_popov.proofs.Entries.{read_default}
use Rattle.ff_popov.proofs.Pivots.{pivot_below}
use Rattle.ff_popov.proofs.Clearing.{cleared_is, multiple_fits, written_row}

pub quotient_term-c-requires-clause-a_in : goal.quotient_term-c-requires-clause-a_in
quotient_term-c-requires-clause-a_in g c =
    let k = g.K.SmallField.field c.args.k.now in
    read_default (IsOver k.ops) c.args.a.now c.args.column c.index-a-column.result c.requires.a_in.over
    (pivot_below c.args.a.now c.args.column c.requires.a_pivot) c.index-a-column.is

pub quotient_term-c-requires-clause-b_in : goal.quotient_term-c-requires-clause-b_in
quotient_term-c-requires-clause-b_in g c =
    let k = g.K.SmallField.field c.args.k.now in
    read_default (IsOver k.ops) c.args.b.now c.args.column c.index-b-column.result c.requires.b_in.over
    (pivot_below c.args.b.now c.args.column c.requires.b_pivot) c.index-b-column.is

pub subtract-requires-clause-row_in : goal.subtract-requires-clause-row_in
subtract-requires-clause-row_in g c =
    let k = g.K.SmallField.field c.args.k.now in
    subst (All (IsOver k.ops)) (sym (c.as_mut_slice.ensures.value ∙ c.in_ok-row.ensures)) c.requires.a_in.over

pub subtract-requires-clause-fits : goal.subtract-requires-clause-fits
subtract-requires-clause-fits g c =
    let k = g.K.SmallField.field c.args.k.now in
    multiple_fits k c.args.a.now c.args.b.now c.args.a.now c.args.column c.quotient_term-c.result.0
    c.quotient_term-c.result.1
    c.requires.a_in c.requires.b_in c.requires.a_pivot c.requires.b_pivot c.quotient_term-c.ensures.below
    c.index-a-column.result c.index-b-column.result c.index-a-column.is c.index-b-column.is
    c.quotient_term-c.ensures.degrees
    (2 ^ 64) c.quotient_term-c.ensures.fits

pub returns : goal.returns
returns g c =
    let k = g.K.SmallField.field c.args.k.now in
    let size = ap length (c.as_mut_slice.ensures.value ∙ c.in_ok-row.ensures) in
    let less =
    subst (λ w. IsRowLess k.ops w c.quotient_term-c.result.0 c.quotient_term-c.result.1 c.args.b.now c.subtract.new.row)
    (c.as_mut_slice.ensures.value ∙ c.in_ok-row.ensures) c.in_ok-subtract.ensures in
    subst (IsCleared k.ops c.args.a.now c.args.b.now c.args.column)
    (written_row c.subtract.new.row _ _ (omega (arith, less.size, size)))
    (cleared_is k c.args.a.now c.args.b.now c.subtract.new.row c.args.column c.quotient_term-c.result.0
    c.quotient_term-c.result.1
    c.requires.a_in c.requires.b_in c.requires.a_pivot c.requires.b_pivot c.quotient_term-c.ensures.below
    c.index-a-column.result c.index-b-column.result c.index-a-column.is c.index-b-column.is
    c.quotient_term-c.ensures.degrees c.quotient_term-c.ensures.shorter less)
