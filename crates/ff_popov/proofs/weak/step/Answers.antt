use Rattle.std.proofs.Common.{arith}
use Rattle.ff_poly.specs.Popov.{rows_of, width_of}
use Rattle.ff_popov.proofs.weak.step.Goals as goal
use Rattle.ff_popov.proofs.StepSteps.{ordered, a_row, b_row, a_pivot, b_pivot, longer, stepped_from}

pub cleared-requires-clause-a_in : goal.cleared-requires-clause-a_in
cleared-requires-clause-a_in g c =
    let k = g.K.SmallField.field c.args.k.now in
    let w = width_of (rows_of c.args.rows.now) in
    a_row k w c.args.rows.now c.args.i c.args.j c.args.column c.requires.i_in c.requires.rows_in c.requires.pair
    c.requires.apart
    c.order.new.rows c.order.ensures.rows c.index-rows-i.result c.index-rows-j.result c.deref.result.now
    c.deref-2.result.now c.index-rows-i.is c.index-rows-j.is c.deref.ensures.value c.deref-2.ensures.value

pub cleared-requires-clause-b_in : goal.cleared-requires-clause-b_in
cleared-requires-clause-b_in g c =
    let k = g.K.SmallField.field c.args.k.now in
    let w = width_of (rows_of c.args.rows.now) in
    b_row k w c.args.rows.now c.args.i c.args.j c.args.column c.requires.i_in c.requires.rows_in c.requires.pair
    c.requires.apart
    c.order.new.rows c.order.ensures.rows c.index-rows-i.result c.index-rows-j.result c.deref.result.now
    c.deref-2.result.now c.index-rows-i.is c.index-rows-j.is c.deref.ensures.value c.deref-2.ensures.value

pub cleared-requires-clause-a_pivot : goal.cleared-requires-clause-a_pivot
cleared-requires-clause-a_pivot g c =
    let k = g.K.SmallField.field c.args.k.now in
    let w = width_of (rows_of c.args.rows.now) in
    a_pivot k w c.args.rows.now c.args.i c.args.j c.args.column c.requires.i_in c.requires.rows_in c.requires.pair
    c.requires.apart
    c.order.new.rows c.order.ensures.rows c.index-rows-i.result c.index-rows-j.result c.deref.result.now
    c.deref-2.result.now c.index-rows-i.is c.index-rows-j.is c.deref.ensures.value c.deref-2.ensures.value

pub cleared-requires-clause-b_pivot : goal.cleared-requires-clause-b_pivot
cleared-requires-clause-b_pivot g c =
    let k = g.K.SmallField.field c.args.k.now in
    let w = width_of (rows_of c.args.rows.now) in
    b_pivot k w c.args.rows.now c.args.i c.args.j c.args.column c.requires.i_in c.requires.rows_in c.requires.pair
    c.requires.apart
    c.order.new.rows c.order.ensures.rows c.index-rows-i.result c.index-rows-j.result c.deref.result.now
    c.deref-2.result.now c.index-rows-i.is c.index-rows-j.is c.deref.ensures.value c.deref-2.ensures.value

pub cleared-requires-clause-longer : goal.cleared-requires-clause-longer
cleared-requires-clause-longer g c =
    let k = g.K.SmallField.field c.args.k.now in
    let w = width_of (rows_of c.args.rows.now) in
    longer k w c.args.rows.now c.args.i c.args.j c.args.column c.requires.i_in c.requires.rows_in c.requires.pair
    c.requires.apart
    c.order.new.rows c.order.ensures.rows c.index-rows-i.result c.index-rows-j.result c.deref.result.now
    c.deref-2.result.now c.index-rows-i.is c.index-rows-j.is c.deref.ensures.value c.deref-2.ensures.value
    c.order.ensures.longer

pub returns-in_err-row-clause-keeps : goal.returns-in_err-row-clause-keeps
returns-in_err-row-clause-keeps g c =
    let k = g.K.SmallField.field c.args.k.now in
    let w = width_of (rows_of c.args.rows.now) in
    (ordered k w c.args.rows.now c.args.i c.args.j c.args.column c.requires.i_in c.requires.rows_in c.requires.pair
    c.requires.apart c.order.new.rows c.order.ensures.rows).keeps

pub returns-in_err-row-clause-apart : goal.returns-in_err-row-clause-apart
returns-in_err-row-clause-apart g c =
    let k = g.K.SmallField.field c.args.k.now in
    let w = width_of (rows_of c.args.rows.now) in
    (ordered k w c.args.rows.now c.args.i c.args.j c.args.column c.requires.i_in c.requires.rows_in c.requires.pair
    c.requires.apart c.order.new.rows c.order.ensures.rows).apart

pub returns-in_err-row-clause-stays : goal.returns-in_err-row-clause-stays
returns-in_err-row-clause-stays g c =
    let k = g.K.SmallField.field c.args.k.now in
    let w = width_of (rows_of c.args.rows.now) in
    omega (
      arith,
      (ordered k w c.args.rows.now c.args.i c.args.j c.args.column c.requires.i_in c.requires.rows_in
          c.requires.pair c.requires.apart c.order.new.rows c.order.ensures.rows).total,
    )

pub returns-clause-keeps : goal.returns-clause-keeps
returns-clause-keeps g c =
    let k = g.K.SmallField.field c.args.k.now in
    let w = width_of (rows_of c.args.rows.now) in
    (stepped_from k w c.args.rows.now c.args.i c.args.j c.args.column c.requires.i_in c.requires.rows_in c.requires.pair
    c.requires.apart
    c.order.new.rows c.order.ensures.rows c.index-rows-i.result c.index-rows-j.result c.deref.result.now
    c.deref-2.result.now c.index-rows-i.is c.index-rows-j.is c.deref.ensures.value c.deref-2.ensures.value
    c.in_ok-row.row c.in_ok-row.ensures).keeps

pub returns-clause-apart : goal.returns-clause-apart
returns-clause-apart g c =
    let k = g.K.SmallField.field c.args.k.now in
    let w = width_of (rows_of c.args.rows.now) in
    (stepped_from k w c.args.rows.now c.args.i c.args.j c.args.column c.requires.i_in c.requires.rows_in c.requires.pair
    c.requires.apart
    c.order.new.rows c.order.ensures.rows c.index-rows-i.result c.index-rows-j.result c.deref.result.now
    c.deref-2.result.now c.index-rows-i.is c.index-rows-j.is c.deref.ensures.value c.deref-2.ensures.value
    c.in_ok-row.row c.in_ok-row.ensures).apart

pub returns-clause-falls : goal.returns-clause-falls
returns-clause-falls g c =
    let k = g.K.SmallField.field c.args.k.now in
    let w = width_of (rows_of c.args.rows.now) in
    (stepped_from k w c.args.rows.now c.args.i c.args.j c.args.column c.requires.i_in c.requires.rows_in c.requires.pair
    c.requires.apart
    c.order.new.rows c.order.ensures.rows c.index-rows-i.result c.index-rows-j.result c.deref.result.now
    c.deref-2.result.now c.index-rows-i.is c.index-rows-j.is c.deref.ensures.value c.deref-2.ensures.value
    c.in_ok-row.row c.in_ok-row.ensures).falls

pub returns-clause-stays : goal.returns-clause-stays
returns-clause-stays g c =
    let k = g.K.SmallField.field c.args.k.now in
    let w = width_of (rows_of c.args.rows.now) in
    omega (
      arith,
      (stepped_from k w c.args.rows.now c.args.i c.args.j c.args.column c.requires.i_in c.requires.rows_in
          c.requires.pair c.requires.apart
          c.order.new.rows c.order.ensures.rows c.index-rows-i.result c.index-rows-j.result c.deref.result.now
          c.deref-2.result.now c.index-rows-i.is c.index-rows-j.is c.deref.ensures.value c.deref-2.ensures.value
          c.in_ok-row.row c.in_ok-row.ensures).falls,
    )
