use Rattle.std.proofs.Common.{◌≡◌, refl, sym, ap, ◌∙◌, arith}
use Rattle.ff_linalg.proofs.elimination.raise_pivot.Goals as goal
use Rattle.ff_linalg.specs.Matrix.{rows_in}
use Rattle.ff_linalg.specs.Steps.{matrix_entry}
use Rattle.ff_linalg.proofs.Flat.{length_rows_in}
use Rattle.ff_linalg.proofs.Reduction.{swap_self}

pub returns-else-rank-i : goal.returns-else-rank-i
returns-else-rank-i c =
    let rows = rows_in c.args.cols c.args.rows c.args.entries.now in
    let late = c.in-Some.ensures.0 in
    let here : c.in-Some.i ≡ c.args.rank = omega (arith, c.in-Some.ensures.0) in
    record {
      position = c.args.rank;
      late = omega arith;
      within = omega (arith, c.in-Some.ensures.1, length_rows_in c.args.cols c.args.rows c.args.entries.now);
      nonzero = λ e. c.in-Some.ensures.2 (ap (λ n. matrix_entry rows n c.args.c) here ∙ e);
      is = sym (swap_self rows c.args.rank
          (omega (arith, c.in-Some.ensures.1, length_rows_in c.args.cols c.args.rows c.args.entries.now)));
    }

pub returns-in-None : goal.returns-in-None
returns-in-None c = (
  λ l a b. c.in-None.ensures l a (omega (arith, b, length_rows_in c.args.cols c.args.rows c.args.entries.now)),
  refl,
)
