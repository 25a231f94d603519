use Rattle.std.proofs.Common.{ap, ◌∙◌, codes, string_bytes}
use Rattle.std.specs.Prelude.{nat_eq}
use lib.Pointwise.{pointwise}
use Rattle.ff_program.proofs.WordLists.{one_word}
use Rattle.ff_program.proofs.program.is_run.Goals as goal

pub returns-in-len1 : goal.returns-in-len1
returns-in-len1 c =
    one_word string_bytes (codes "run") c.args.words.now c.word-item.result c.eq.result c.in-len1.len_at_least
    c.in-len1.len_below c.word-item.is
    (c.eq.ensures ∙ ap (λ t. pointwise nat_eq t (codes "run")) c.as_str.ensures.value)
