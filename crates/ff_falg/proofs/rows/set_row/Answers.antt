use Rattle.std.proofs.Common.{ap, ◌∙◌, arith, length, refl, sym, subst, ◌<◌}
use Rattle.std.proofs.lemmas.List.{length-set}
use Rattle.ff_falg.proofs.rows.set_row.Goals as goal
use Rattle.ff_falg.proofs.RowSteps.{overwritten_start, overwritten_step, overwritten_end}

pub loop-j-init : goal.loop-j-init
loop-j-init c = overwritten_start c.args.row.now c.args.m.now c.args.i

pub set-requires-clause-row_in : goal.set-requires-clause-row_in
set-requires-clause-row_in c =
    subst (λ n. c.args.i < n) (sym (ap (λ m. length m.rows) c.loop-j.invariant
    ∙ length-set c.args.m.now.rows c.args.i _)) c.requires.row_in

pub set-requires-clause-col_in : goal.set-requires-clause-col_in
set-requires-clause-col_in c =
    subst (λ n. c.loop-j.j < n) (c.requires.width ∙ sym (ap (λ m. m.cols) c.loop-j.invariant)) c.loop-j-test.true

pub loop-j-preserved : goal.loop-j-preserved
loop-j-preserved c =
    c.set.ensures
    ∙ overwritten_step c.args.row.now c.args.m.now c.loop-j.m c.args.i c.loop-j.j _ c.requires.row_in c.requires.width
    c.requires.shape
    c.loop-j-test.true refl c.loop-j.invariant

pub returns : goal.returns
returns c =
    overwritten_end c.args.row.now c.args.m.now c.loop-j.m c.args.i c.loop-j.j c.requires.row_in c.requires.width
    c.requires.shape
    (omega arith) c.loop-j.invariant
