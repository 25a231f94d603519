use Rattle.std.proofs.Common.{sym, subst, ◌∙◌, ap}
use Rattle.ff_text.specs.Spelling.{SpellsElement}
use Rattle.ff_script.specs.Reading.{is_behind_element, IsElementFront}
use Rattle.ff_script.proofs.Steps.{no_spelling, passed_behind}
use Rattle.ff_script.proofs.Elements.{none_read_here, none_ends_here, longest_front}
use Rattle.ff_script.proofs.reading.next_element.Goals as goal

pub returns-in-Err-Syntax : goal.returns-in-Err-Syntax
returns-in-Err-Syntax c = none_read_here c.args.bytes.now
    (no_spelling SpellsElement c.args.bytes.now c.in-Err-Syntax.field-0 c.in-Err-Syntax.field-0-0
    c.in-Err-Syntax.field-0-is c.in-Err-Syntax.ensures.fault)

pub returns-then-is_behind_element : goal.returns-then-is_behind_element
returns-then-is_behind_element c =
    let passed = passed_behind c.args.bytes.now c.behind_blanks-rest.result.now c.in-Ok.read.1
    c.behind_blanks-rest.ensures in
    subst (IsElementFront c.in-Ok.read.0 c.args.bytes.now) passed
    (longest_front c.args.bytes.now c.in-Ok.read.0 c.in-Ok.read.1 c.in-Ok.ensures.found
    (ap is_behind_element passed ∙ sym c.is_behind_element.ensures ∙ c.if-is_behind_element.true))

pub returns : goal.returns
returns c =
    let passed = passed_behind c.args.bytes.now c.behind_blanks-rest.result.now c.in-Ok.read.1
    c.behind_blanks-rest.ensures in
    none_ends_here c.args.bytes.now c.in-Ok.read.0 c.in-Ok.read.1 c.is_behind_element.result c.in-Ok.ensures.found
    (c.is_behind_element.ensures ∙ ap is_behind_element (sym passed)) c.if-is_behind_element.false
