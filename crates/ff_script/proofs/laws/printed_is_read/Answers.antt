use Rattle.ff_script.proofs.Printed.{text_spells, printed_script, same_text}
use Rattle.ff_script.proofs.TextLaws.{one_line, are_spelled}
use Rattle.ff_script.proofs.laws.printed_is_read.Goals as goal

pub returns-clause-line : goal.returns-clause-line
returns-clause-line c = text_spells are_spelled

pub returns-clause-script : goal.returns-clause-script
returns-clause-script c = printed_script are_spelled

pub returns-clause-one_text : goal.returns-clause-one_text
returns-clause-one_text c = same_text are_spelled one_line
