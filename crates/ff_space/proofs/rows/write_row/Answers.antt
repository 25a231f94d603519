use Rattle.std.proofs.Common.{ap, ◌∙◌, arith, length, refl, sym, subst, ◌<◌}
use Rattle.std.proofs.lemmas.List.{length-set}
use Rattle.ff_lattice.proofs.ResidueSteps.{written_start, written_step, written_end}
use Rattle.ff_space.proofs.RowLists.{whole_row}
use Rattle.ff_space.proofs.rows.write_row.Goals as goal

pub loop-j-init : goal.loop-j-init
loop-j-init c = written_start c.args.codes.now c.args.m.now c.args.i

pub set-requires-clause-row_in : goal.set-requires-clause-row_in
set-requires-clause-row_in c =
    subst (λ n. c.args.i < n) (sym (ap (λ m. length m.rows) c.loop-j.invariant
    ∙ length-set c.args.m.now.rows c.args.i _)) c.requires.row_in

pub set-requires-clause-col_in : goal.set-requires-clause-col_in
set-requires-clause-col_in c =
    let less = c.loop-j-test.true in let fits = c.requires.fits in
    subst (λ n. c.loop-j.j < n) (sym (ap (λ m. m.cols) c.loop-j.invariant)) (omega arith)

pub loop-j-preserved : goal.loop-j-preserved
loop-j-preserved c =
    let fits = c.requires.fits in
    c.set.ensures
    ∙ written_step c.args.codes.now c.args.m.now c.loop-j.m c.args.i c.loop-j.j _ c.requires.row_in (omega arith)
    c.requires.shape c.loop-j-test.true refl c.loop-j.invariant

pub returns : goal.returns
returns c =
    written_end c.args.codes.now c.args.m.now c.loop-j.m c.args.i c.loop-j.j (omega arith) (omega arith)
    c.loop-j.invariant
    ∙ whole_row c.args.m.now c.args.i c.args.codes.now c.requires.row_in c.requires.fits c.requires.shape
