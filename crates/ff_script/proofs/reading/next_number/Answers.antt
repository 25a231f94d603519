use Rattle.std.proofs.Common.{true, false, subst}
use Rattle.ff_text.specs.Spelling.{SpellsNumber}
use Rattle.ff_script.specs.Reading.{IsFront}
use Rattle.ff_script.proofs.Steps.{no_number, number_front_on, number_front, word_behind, passed_behind}
use Rattle.ff_script.proofs.reading.next_number.Goals as goal

pub returns-in-Err : goal.returns-in-Err
returns-in-Err c = no_number c.args.bytes.now c.read_number.result c.in-Err.field-0 c.in-Err.is c.in-Err.ensures.fault
    c.read_number.ensures.no_memory

pub returns-then-begins_with_word : goal.returns-then-begins_with_word
returns-then-begins_with_word c = number_front_on c.args.bytes.now c.in-Ok.read.0 c.in-Ok.read.1 c.in-Ok.ensures.found
    (word_behind c.args.bytes.now c.in-Ok.read.1 c.begins_with_word.result true c.begins_with_word.ensures
    c.if-begins_with_word.true)

pub returns : goal.returns
returns c =
    subst (IsFront (SpellsNumber c.in-Ok.read.0) c.args.bytes.now)
    (passed_behind c.args.bytes.now c.behind_blanks.result.now c.in-Ok.read.1 c.behind_blanks.ensures)
    (number_front c.args.bytes.now c.in-Ok.read.0 c.in-Ok.read.1 c.in-Ok.ensures.found
    (word_behind c.args.bytes.now c.in-Ok.read.1 c.begins_with_word.result false c.begins_with_word.ensures
    c.if-begins_with_word.false))
