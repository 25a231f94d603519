use Rattle.ff_meaning.proofs.OneRefusal.{one_row, row_some, row_moves}
use Rattle.ff_meaning.proofs.laws.one_refusal.Goals as goal

pub returns-clause-same : goal.returns-clause-same
returns-clause-same c = one_row

pub returns-clause-not_memory : goal.returns-clause-not_memory
returns-clause-not_memory c = row_some

pub returns-clause-moved : goal.returns-clause-moved
returns-clause-moved c = row_moves
