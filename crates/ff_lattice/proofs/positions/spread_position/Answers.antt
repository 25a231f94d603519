use Rattle.std.proofs.Common.{rules, ◌≡◌, ◌<◌, ◌≤◌, suc, ◌+◌, ◌-◌, [], length, get_or, drop, sym, ap, ap₂, ◌∙◌, arith, subst}
use Rattle.std.proofs.lemmas.List.{length-map}
use Rattle.ff_fields.specs.Over.{get_or_below}
use Rattle.ff_poly.specs.Popov.{rows_of, row_at, IsRow}
use Rattle.ff_popov.proofs.Entries.{read_row_of}
use Rattle.ff_lattice.specs.PositionLists.{pivot_length, row_less}
use Rattle.ff_lattice.proofs.PositionSteps.{spread_outside, spread_ideal, spread_some, spread_kept, drop_at, drop_next, drop_size, drop_some, row_less_row}
use Rattle.ff_lattice.proofs.positions.spread_position.Goals as goal

pub returns-then-t-first : goal.returns-then-t-first
returns-then-t-first g c =
    let k = g.K.SmallField.field c.args.k.now in
    let row = c.args.row.now in
    let n = length row in
    let W = rows_of c.args.order.now in
    let J = rows_of c.args.ideal.now in
    let rows = rows_of c.args.rows.now in
    let t = c.args.t in
    let j = c.args.j in
    let left = drop c.args.done c.args.codes.now in
    spread_outside k.ops n W J rows t j c.requires.j_in row left c.requires.row_in c.requires.left
    (omega (arith, c.if-t-first.true, c.pivot_len-first.ensures))

pub returns-then-pivot_len-t : goal.returns-then-pivot_len-t
returns-then-pivot_len-t g c =
    let k = g.K.SmallField.field c.args.k.now in
    let row = c.args.row.now in
    let n = length row in
    let W = rows_of c.args.order.now in
    let J = rows_of c.args.ideal.now in
    let rows = rows_of c.args.rows.now in
    let t = c.args.t in
    let j = c.args.j in
    let left = drop c.args.done c.args.codes.now in
    spread_ideal k.ops n W J rows t j c.requires.j_in row left c.requires.row_in c.requires.left
    (omega (arith, c.if-t-first.false, c.pivot_len-first.ensures))
    (omega (arith, c.if-pivot_len-t.true, c.pivot_len.ensures))

pub offset_bounds-codes-done : goal.offset_bounds-codes-done
offset_bounds-codes-done g c =
    let k = g.K.SmallField.field c.args.k.now in
    let row = c.args.row.now in
    let n = length row in
    let W = rows_of c.args.order.now in
    let J = rows_of c.args.ideal.now in
    let rows = rows_of c.args.rows.now in
    let t = c.args.t in
    let j = c.args.j in
    let left = drop c.args.done c.args.codes.now in
    let h : pivot_length W j ≤ suc t = omega (arith, c.if-t-first.false, c.pivot_len-first.ensures) in
    let q : suc t < pivot_length J j = omega (arith, c.if-pivot_len-t.false, c.pivot_len.ensures) in
    let less : c.args.done < length c.args.codes.now = drop_some c.args.codes.now c.args.done _
    (spread_some k.ops n W J rows t j c.requires.j_in left c.requires.left h q) in
    search rules

pub bounds-codes-done : goal.bounds-codes-done
bounds-codes-done g c =
    let k = g.K.SmallField.field c.args.k.now in
    let row = c.args.row.now in
    let n = length row in
    let W = rows_of c.args.order.now in
    let J = rows_of c.args.ideal.now in
    let rows = rows_of c.args.rows.now in
    let t = c.args.t in
    let j = c.args.j in
    let left = drop c.args.done c.args.codes.now in
    let h : pivot_length W j ≤ suc t = omega (arith, c.if-t-first.false, c.pivot_len-first.ensures) in
    let q : suc t < pivot_length J j = omega (arith, c.if-pivot_len-t.false, c.pivot_len.ensures) in
    let less : c.args.done < length c.args.codes.now = drop_some c.args.codes.now c.args.done _
    (spread_some k.ops n W J rows t j c.requires.j_in left c.requires.left h q) in
    less

pub neg-c-requires : goal.neg-c-requires
neg-c-requires g c = get_or_below (g.K.SmallField.field c.args.k.now) c.args.codes.now c.args.done c.requires.codes_in

pub subtract-requires-clause-c_in : goal.subtract-requires-clause-c_in
subtract-requires-clause-c_in g c =
    let k = g.K.SmallField.field c.args.k.now in
    subst (λ x. x < k.size) (sym c.neg-c.ensures)
    (k.laws.neg_below (get_or c.args.codes.now c.args.done 0)
    (get_or_below k c.args.codes.now c.args.done c.requires.codes_in))

pub subtract-requires-clause-other_in : goal.subtract-requires-clause-other_in
subtract-requires-clause-other_in g c =
    let k = g.K.SmallField.field c.args.k.now in
    let row = c.args.row.now in
    let n = length row in
    let W = rows_of c.args.order.now in
    let J = rows_of c.args.ideal.now in
    let rows = rows_of c.args.rows.now in
    let t = c.args.t in
    let j = c.args.j in
    let left = drop c.args.done c.args.codes.now in
    let in_rows : j < length c.args.rows.now = omega (arith, c.requires.j_in, c.requires.rows_size) in
    let is = read_row_of c.args.rows.now j c.index-rows-j.result c.deref.result.now in_rows c.index-rows-j.is
    c.deref.ensures.value in
    let b_in = c.requires.rows_in j [] (omega
    (arith, c.requires.j_in, c.requires.rows_size, length-map c.args.rows.now (λ x. x.items))) in
    subst (IsRow k.ops n) (sym is) b_in

pub overflow_add-result : goal.overflow_add-result
overflow_add-result g c =
    let k = g.K.SmallField.field c.args.k.now in
    let row = c.args.row.now in
    let n = length row in
    let W = rows_of c.args.order.now in
    let J = rows_of c.args.ideal.now in
    let rows = rows_of c.args.rows.now in
    let t = c.args.t in
    let j = c.args.j in
    let left = drop c.args.done c.args.codes.now in
    let h : pivot_length W j ≤ suc t = omega (arith, c.if-t-first.false, c.pivot_len-first.ensures) in
    let q : suc t < pivot_length J j = omega (arith, c.if-pivot_len-t.false, c.pivot_len.ensures) in
    let less : c.args.done < length c.args.codes.now = drop_some c.args.codes.now c.args.done _
    (spread_some k.ops n W J rows t j c.requires.j_in left c.requires.left h q) in
    search rules

pub returns : goal.returns
returns g c =
    let k = g.K.SmallField.field c.args.k.now in
    let row = c.args.row.now in
    let n = length row in
    let W = rows_of c.args.order.now in
    let J = rows_of c.args.ideal.now in
    let rows = rows_of c.args.rows.now in
    let t = c.args.t in
    let j = c.args.j in
    let left = drop c.args.done c.args.codes.now in
    let h : pivot_length W j ≤ suc t = omega (arith, c.if-t-first.false, c.pivot_len-first.ensures) in
    let q : suc t < pivot_length J j = omega (arith, c.if-pivot_len-t.false, c.pivot_len.ensures) in
    let less : c.args.done < length c.args.codes.now = drop_some c.args.codes.now c.args.done _
    (spread_some k.ops n W J rows t j c.requires.j_in left c.requires.left h q) in
    let in_rows : j < length c.args.rows.now = omega (arith, c.requires.j_in, c.requires.rows_size) in
    let is = read_row_of c.args.rows.now j c.index-rows-j.result c.deref.result.now in_rows c.index-rows-j.is
    c.deref.ensures.value in
    let b_in = c.requires.rows_in j [] (omega
    (arith, c.requires.j_in, c.requires.rows_size, length-map c.args.rows.now (λ x. x.items))) in
    let code_in = get_or_below k c.args.codes.now c.args.done c.requires.codes_in in
    let neg_in = k.laws.neg_below (get_or c.args.codes.now c.args.done 0) code_in in
    let power : t + 1 - c.pivot_len-first.result
    ≡ suc t - pivot_length W j = omega (arith, c.pivot_len-first.ensures) in
    let made = c.in_ok-subtract.ensures ∙ ap₂ (λ x s. row_less k.ops row x s c.deref.result.now) c.neg-c.ensures power
    ∙ ap (row_less k.ops row (k.neg (get_or c.args.codes.now c.args.done 0)) (suc t - pivot_length W j)) is in
    spread_kept k.ops n W J rows t j c.requires.j_in row c.subtract.new.row left
    (drop (c.args.done + 1) c.args.codes.now)
    (subst (IsRow k.ops n) (sym made) (row_less_row k n row (row_at rows j)
    (k.neg (get_or c.args.codes.now c.args.done 0)) (suc t - pivot_length W j) c.requires.row_in b_in neg_in))
    c.requires.left h q (drop_next c.args.codes.now c.args.done) (drop_size c.args.codes.now c.args.done less)
    (made ∙ ap (λ x. row_less k.ops row (k.neg x) (suc t - pivot_length W j) (row_at rows j))
    (sym (drop_at c.args.codes.now c.args.done 0)))
