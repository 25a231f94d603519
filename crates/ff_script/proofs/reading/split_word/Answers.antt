use Rattle.std.proofs.Common.{sym, ◌∙◌}
use Rattle.ff_script.proofs.Spans.{word_before, no_word_behind, word_whole}
use Rattle.ff_script.proofs.reading.split_word.Goals as goal

pub returns-in-Some-clause-word : goal.returns-in-Some-clause-word
returns-in-Some-clause-word c = word_before c.args.bytes.now c.in-Some.end (sym c.word_end.ensures ∙ c.in-Some.is)

pub returns-in-Some-clause-end : goal.returns-in-Some-clause-end
returns-in-Some-clause-end c = no_word_behind c.args.bytes.now c.in-Some.end (sym c.word_end.ensures ∙ c.in-Some.is)

pub returns-in-None-clause-word : goal.returns-in-None-clause-word
returns-in-None-clause-word c = word_whole c.args.bytes.now (sym c.word_end.ensures ∙ c.in-None.is)
