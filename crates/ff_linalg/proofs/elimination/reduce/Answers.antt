use Rattle.std.proofs.Common.{◌≡◌, sym, subst, add-one, arith}
use Rattle.ff_fields.specs.Code.{code_ring}
use Rattle.linear_theory.proofs.Elimination.{same_refl, same_trans}
use Rattle.ff_linalg.proofs.elimination.reduce.Goals as goal
use Rattle.ff_linalg.specs.Matrix.{rows_in}
use Rattle.ff_linalg.specs.Forms.{sequences_of, IsReducedBelow}

pub loop-c-init : goal.loop-c-init
loop-c-init g c =
    let k = g.K.SmallField.field c.args.k.now in
    record {
      over = c.requires.entries_in;
      reduced = c.requires.reduced;
      same = same_refl (code_ring k).ring c.args.cols
          (sequences_of k (rows_in c.args.cols c.args.rows c.args.entries.now));
    }

pub eliminate_next-pivots-requires-clause-entries_in : goal.eliminate_next-pivots-requires-clause-entries_in
eliminate_next-pivots-requires-clause-entries_in g c = c.loop-c.invariant.over

pub eliminate_next-pivots-requires-clause-reduced : goal.eliminate_next-pivots-requires-clause-reduced
eliminate_next-pivots-requires-clause-reduced g c = c.loop-c.invariant.reduced

pub loop-c-preserved : goal.loop-c-preserved
loop-c-preserved g c =
    let k = g.K.SmallField.field c.args.k.now in
    let rows = rows_in c.args.cols c.args.rows in
    record {
      over = c.eliminate_next-pivots.ensures.over;
      reduced = subst (λ n. IsReducedBelow k n (rows c.eliminate_next-pivots.new.entries)
          c.eliminate_next-pivots.result) (sym (add-one c.loop-c.c)) c.eliminate_next-pivots.ensures.step.reduced;
      same = same_trans (code_ring k).ring c.args.cols (sequences_of k (rows c.eliminate_next-pivots.new.entries))
          (sequences_of k (rows c.loop-c.entries))
          (sequences_of k (rows c.args.entries.now)) c.eliminate_next-pivots.ensures.step.same c.loop-c.invariant.same;
    }

pub returns-clause-over : goal.returns-clause-over
returns-clause-over g c = c.loop-c.invariant.over

pub returns-clause-reduced : goal.returns-clause-reduced
returns-clause-reduced g c =
    let k = g.K.SmallField.field c.args.k.now in
    let done : c.loop-c.c ≡ c.args.to = omega arith in
    subst (λ n. IsReducedBelow k n (rows_in c.args.cols c.args.rows c.loop-c.entries) c.loop-c.pivots) done
    c.loop-c.invariant.reduced

pub returns-clause-same : goal.returns-clause-same
returns-clause-same g c = c.loop-c.invariant.same
