use Rattle.std.proofs.Common.{◌≡◌, ◌*◌, [], suc, length, get_or, sym, ap, ◌∙◌, subst, add-one, arith}
use Rattle.std.specs.Prelude.{All}
use Rattle.ff_linalg.proofs.elimination.eliminate_next.Goals as goal
use Rattle.ff_fields.specs.Over.{IsOver}
use Rattle.ff_linalg.specs.Matrix.{rows_in}
use Rattle.ff_linalg.specs.Steps.{eliminated}
use Rattle.ff_linalg.specs.Forms.{IsEliminationStep}
use Rattle.ff_linalg.proofs.Flat.{length_rows_in, rows_in_wide, rows_in_over, over_from_rows}
use Rattle.ff_linalg.proofs.Reduction.{swap_here, all_swap, left_zero_at, pivot_step, skip_step}

pub returns-then-not-raise_pivot-clause-over : goal.returns-then-not-raise_pivot-clause-over
returns-then-not-raise_pivot-clause-over g c = let h = c.if-not-raise_pivot.ensures in subst
    (IsOver (g.K.SmallField.field c.args.k.now).ops) (sym h.1) c.requires.entries_in

pub returns-then-not-raise_pivot-clause-step : goal.returns-then-not-raise_pivot-clause-step
returns-then-not-raise_pivot-clause-step g c =
    let k = g.K.SmallField.field c.args.k.now in
    let rows = rows_in c.args.cols c.args.rows in
    let h = c.if-not-raise_pivot.ensures in
    subst (λ xs. IsEliminationStep k c.args.cols c.args.c (rows c.args.entries.now) (rows xs) c.args.rank) (sym h.1)
    (skip_step k c.args.cols (rows c.args.entries.now) c.args.c c.args.rank c.requires.reduced h.0)

pub clear_column-requires-clause-row_in : goal.clear_column-requires-clause-row_in
clear_column-requires-clause-row_in g c =
    let h = c.if-not-raise_pivot.ensures in omega
    (arith, h.late, h.within, length_rows_in c.args.cols c.args.rows c.args.entries.now)

pub clear_column-requires-clause-nonzero : goal.clear_column-requires-clause-nonzero
clear_column-requires-clause-nonzero g c =
    let h = c.if-not-raise_pivot.ensures in
    let old = rows_in c.args.cols c.args.rows c.args.entries.now in
    λ e. h.nonzero (ap (λ r. get_or r c.args.c 0)
    (sym (ap (λ rows. get_or rows c.args.rank []) h.is
    ∙ swap_here old c.args.rank h.position (omega (arith, h.late, h.within)) h.within)) ∙ e)

pub clear_column-requires-clause-left_zero : goal.clear_column-requires-clause-left_zero
clear_column-requires-clause-left_zero g c j less =
    let k = g.K.SmallField.field c.args.k.now in
    let h = c.if-not-raise_pivot.ensures in
    let old = rows_in c.args.cols c.args.rows c.args.entries.now in
    ap (λ r. get_or r j 0) (ap (λ rows. get_or rows c.args.rank []) h.is
    ∙ swap_here old c.args.rank h.position (omega (arith, h.late, h.within)) h.within)
    ∙ left_zero_at k c.args.c c.args.rank old
    (rows_in_over k.ops c.args.cols c.args.rows c.args.entries.now c.requires.entries_in) c.requires.reduced
    h.position j h.late h.within less

pub clear_column-requires-clause-entries_in : goal.clear_column-requires-clause-entries_in
clear_column-requires-clause-entries_in g c =
    let k = g.K.SmallField.field c.args.k.now in
    let h = c.if-not-raise_pivot.ensures in
    let old = rows_in c.args.cols c.args.rows c.args.entries.now in
    let long : length c.raise_pivot.new.entries ≡ c.args.rows * c.args.cols = omega (arith, c.requires.shape) in
    over_from_rows k.ops c.args.cols c.args.rows c.raise_pivot.new.entries long
    (subst (All (IsOver k.ops)) (sym h.is)
    (all_swap (IsOver k.ops) old c.args.rank h.position (omega (arith, h.late, h.within)) h.within
    (rows_in_over k.ops c.args.cols c.args.rows c.args.entries.now c.requires.entries_in)))

pub overflow_add-result : goal.overflow_add-result
overflow_add-result g c =
    let h = c.if-not-raise_pivot.ensures in omega
    (arith, h.late, h.within, length_rows_in c.args.cols c.args.rows c.args.entries.now)

pub returns-clause-step : goal.returns-clause-step
returns-clause-step g c =
    let k = g.K.SmallField.field c.args.k.now in
    let h = c.if-not-raise_pivot.ensures in
    let old = rows_in c.args.cols c.args.rows c.args.entries.now in
    let new_is = c.clear_column.ensures.eliminated ∙ ap (eliminated k.ops c.args.rank c.args.c) h.is in
    subst (λ n. IsEliminationStep k c.args.cols c.args.c old
    (rows_in c.args.cols c.args.rows c.clear_column.new.entries) n) (sym (add-one c.args.rank))
    (subst (λ rows. IsEliminationStep k c.args.cols c.args.c old rows (suc c.args.rank)) (sym new_is)
    (pivot_step k c.args.cols old (rows_in_wide c.args.cols c.args.rows c.args.entries.now c.requires.shape)
    (rows_in_over k.ops c.args.cols c.args.rows c.args.entries.now c.requires.entries_in) c.args.c c.requires.col_in
    c.args.rank c.requires.reduced
    h.position h.late h.within h.nonzero))
