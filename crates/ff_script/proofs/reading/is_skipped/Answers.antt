use Rattle.std.proofs.Common.{refl}
use Rattle.ff_script.proofs.Steps.{skipped_blank, skipped_mark, skipped_marked}
use Rattle.ff_script.proofs.reading.is_skipped.Goals as goal

pub returns-in-empty : goal.returns-in-empty
returns-in-empty c = (
  λ _. skipped_blank c.args.line.now c.behind_blanks.result.now c.behind_blanks.ensures
      c.in-empty.len_below,
  λ _. refl,
)

pub returns-in-len1-up : goal.returns-in-len1-up
returns-in-len1-up c = (
  skipped_mark c.args.line.now c.behind_blanks.result.now c.behind_blanks.ensures c.in-len1-up.len_at_least,
  skipped_marked c.args.line.now c.behind_blanks.result.now c.behind_blanks.ensures c.in-len1-up.len_at_least,
)
