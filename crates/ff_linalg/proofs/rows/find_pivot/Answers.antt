use Rattle.std.proofs.Common.{◌≡◌, arith, inl, inr, sym, subst, ◌∙◌, ◌<◌, ◌≤◌, ◌+◌, ◌⊎◌, ℕ}
use Rattle.ff_linalg.proofs.rows.find_pivot.Goals as goal
use Rattle.ff_linalg.specs.Matrix.{rows_in}
use Rattle.ff_linalg.specs.Steps.{matrix_entry}
use Rattle.ff_linalg.proofs.Flat.{rows_in_entry}

pub loop-i-init : goal.loop-i-init
loop-i-init c = λ j l m. absurd (omega arith)

pub returns-then-entries-i-ne0 : goal.returns-then-entries-i-ne0
returns-then-entries-i-ne0 c = (
  omega arith,
  c.loop-i-test.true,
  λ e. c.if-entries-i-ne0.true (sym (rows_in_entry c.args.cols c.args.rows c.loop-i.i c.args.entries.now
      c.requires.shape c.loop-i-test.true c.args.c c.requires.col_in) ∙ e),
)

pub loop-i-preserved : goal.loop-i-preserved
loop-i-preserved c = λ j l m. go j l (last j m)
  where
    last : (j : ℕ) → j < c.loop-i.i + 1 → (j ≡ c.loop-i.i) ⊎ (j < c.loop-i.i)
    last j m = grind arith

    go : (j : ℕ) → c.args.rank ≤ j → (j ≡ c.loop-i.i) ⊎ (j < c.loop-i.i)
        → matrix_entry (rows_in c.args.cols c.args.rows c.args.entries.now) j c.args.c ≡ 0
    go j l (inr m) = c.loop-i.invariant j l m
    go j l (inl e) =
        let here = rows_in_entry c.args.cols c.args.rows c.loop-i.i c.args.entries.now c.requires.shape
        c.loop-i-test.true c.args.c c.requires.col_in ∙ c.if-entries-i-ne0.false in
        subst (λ n. matrix_entry (rows_in c.args.cols c.args.rows c.args.entries.now) n c.args.c ≡ 0) (sym e) here

pub returns : goal.returns
returns c = λ l a b. c.loop-i.invariant l a (omega arith)
