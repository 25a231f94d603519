use Rattle.std.proofs.Common.{true, false, sym, ◌∙◌, ap, subst}
use Rattle.ff_text.specs.Spelling.{SpellsTerms}
use Rattle.ff_script.specs.Grammar.{begins_with_word}
use Rattle.ff_script.specs.Reading.{IsTermsFront}
use Rattle.ff_script.proofs.Steps.{no_spelling, word_behind, passed_behind}
use Rattle.ff_script.proofs.TermFronts.{no_terms_front, none_goes_on, none_behind, longest_terms_front}
use Rattle.ff_script.proofs.reading.next_terms.Goals as goal

pub returns-in-Err-Syntax : goal.returns-in-Err-Syntax
returns-in-Err-Syntax c = no_terms_front c.args.bytes.now
    (no_spelling (SpellsTerms false) c.args.bytes.now c.in-Err-Syntax.field-0 c.in-Err-Syntax.field-0-0
    c.in-Err-Syntax.field-0-is c.in-Err-Syntax.ensures.fault)

pub returns-then-begins_with_word : goal.returns-then-begins_with_word
returns-then-begins_with_word c = none_goes_on c.args.bytes.now c.in-Ok.read.0 c.in-Ok.read.1 c.in-Ok.ensures.found
    (word_behind c.args.bytes.now c.in-Ok.read.1 c.begins_with_word.result true c.begins_with_word.ensures
    c.if-begins_with_word.true)

pub returns-then-begins_with_word-2 : goal.returns-then-begins_with_word-2
returns-then-begins_with_word-2 c =
    let passed = passed_behind c.args.bytes.now c.behind_blanks-rest.result.now c.in-Ok.read.1
    c.behind_blanks-rest.ensures in
    subst (IsTermsFront c.in-Ok.read.0 c.args.bytes.now) passed
    (longest_terms_front c.args.bytes.now c.in-Ok.read.0 c.in-Ok.read.1 c.in-Ok.ensures.found
    (word_behind c.args.bytes.now c.in-Ok.read.1 c.begins_with_word.result false c.begins_with_word.ensures
    c.if-begins_with_word.false)
    (ap begins_with_word passed ∙ sym c.begins_with_word-2.ensures ∙ c.if-begins_with_word-2.true))

pub returns : goal.returns
returns c =
    let passed = passed_behind c.args.bytes.now c.behind_blanks-rest.result.now c.in-Ok.read.1
    c.behind_blanks-rest.ensures in
    none_behind c.args.bytes.now c.in-Ok.read.0 c.in-Ok.read.1 c.in-Ok.ensures.found
    (ap begins_with_word passed ∙ sym c.begins_with_word-2.ensures ∙ c.if-begins_with_word-2.false)
