use Rattle.ff_script.proofs.OneScript.{same_syntax, same_misplaced, misplaced_no_syntax, script_no_syntax, script_no_misplaced}
use Rattle.ff_script.proofs.TextLaws.{one_line}
use Rattle.ff_script.proofs.laws.one_fault.Goals as goal

pub returns-clause-syntax : goal.returns-clause-syntax
returns-clause-syntax c = same_syntax

pub returns-clause-misplaced : goal.returns-clause-misplaced
returns-clause-misplaced c = same_misplaced one_line

pub returns-clause-not_both : goal.returns-clause-not_both
returns-clause-not_both c = misplaced_no_syntax

pub returns-clause-no_syntax : goal.returns-clause-no_syntax
returns-clause-no_syntax c = script_no_syntax

pub returns-clause-no_misplaced : goal.returns-clause-no_misplaced
returns-clause-no_misplaced c = script_no_misplaced one_line
