use Rattle.ff_script.proofs.OneLine.{skipped_none}
use Rattle.ff_script.proofs.TextLaws.{one_line}
use Rattle.ff_script.proofs.laws.one_statement.Goals as goal

pub returns-clause-same : goal.returns-clause-same
returns-clause-same c = one_line

pub returns-clause-none : goal.returns-clause-none
returns-clause-none c = skipped_none
