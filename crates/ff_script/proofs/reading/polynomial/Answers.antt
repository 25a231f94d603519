use Rattle.ff_text.specs.Spelling.{SpellsTerms}
use Rattle.ff_script.proofs.Steps.{no_spelling, terms_front, terms_front_on, blank_behind, not_blank_behind}
use Rattle.ff_script.proofs.Behind.{no_terms_here}
use Rattle.ff_script.proofs.reading.polynomial.Goals as goal

pub returns-in-Err-Syntax : goal.returns-in-Err-Syntax
returns-in-Err-Syntax c = no_terms_here c.args.y c.args.bytes.now
    (no_spelling (SpellsTerms c.args.y) c.args.bytes.now c.in-Err-Syntax.field-0 c.in-Err-Syntax.field-0-0
    c.in-Err-Syntax.field-0-is c.in-Err-Syntax.ensures.fault)

pub returns-then-is_empty : goal.returns-then-is_empty
returns-then-is_empty c = terms_front c.args.y c.args.bytes.now c.in-Ok.read.0 c.in-Ok.read.1 c.in-Ok.ensures.found
    (blank_behind c.args.bytes.now c.behind_blanks.result.now c.in-Ok.read.1 c.is_empty.result c.behind_blanks.ensures
    c.is_empty.ensures c.if-is_empty.true)

pub returns : goal.returns
returns c = terms_front_on c.args.y c.args.bytes.now c.in-Ok.read.0 c.in-Ok.read.1 c.in-Ok.ensures.found
    (not_blank_behind c.args.bytes.now c.behind_blanks.result.now c.in-Ok.read.1 c.is_empty.result
    c.behind_blanks.ensures c.is_empty.ensures c.if-is_empty.false)
