use Rattle.std.proofs.Common.{◌∙◌, get_or, arith}
use Rattle.ff_fields.specs.Over.{IsOver}
use Rattle.ff_popov.proofs.basis.clear_entry.Goals as goal
use Rattle.ff_popov.proofs.Entries.{read_default, any_default}
use Rattle.ff_popov.proofs.Pivots.{pivot_below}
use Rattle.ff_popov.proofs.Lowering.{shortened}

pub quotient_term-c-requires-clause-a_in : goal.quotient_term-c-requires-clause-a_in
quotient_term-c-requires-clause-a_in g c =
    let k = g.K.SmallField.field c.args.k.now in
    c.requires.row_in.over c.args.column c.index-row-column.result
    (omega (arith, pivot_below c.args.other.now c.args.column c.requires.other_pivot, c.requires.other_in.size))

pub quotient_term-c-requires-clause-b_in : goal.quotient_term-c-requires-clause-b_in
quotient_term-c-requires-clause-b_in g c =
    let k = g.K.SmallField.field c.args.k.now in
    read_default (IsOver k.ops) c.args.other.now c.args.column c.index-other-column.result c.requires.other_in.over
    (pivot_below c.args.other.now c.args.column c.requires.other_pivot) c.index-other-column.is

pub returns : goal.returns
returns g c =
    let k = g.K.SmallField.field c.args.k.now in
    shortened k c.args.row.now c.args.other.now c.subtract.new.row c.args.column c.quotient_term-c.result.0
    c.quotient_term-c.result.1
    c.requires.row_in c.requires.other_in c.requires.other_pivot c.quotient_term-c.ensures.below
    (get_or c.args.row.now c.args.column c.index-row-column.result) c.index-other-column.result
    (any_default c.args.row.now c.args.column _ _
    (omega (arith, pivot_below c.args.other.now c.args.column c.requires.other_pivot, c.requires.other_in.size)))
    (c.index-other-column.is ∙ any_default c.args.other.now c.args.column _ _
    (pivot_below c.args.other.now c.args.column c.requires.other_pivot))
    c.quotient_term-c.ensures.degrees c.quotient_term-c.ensures.shorter c.in_ok-subtract.ensures
