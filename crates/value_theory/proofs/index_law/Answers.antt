use Rattle.value_theory.proofs.Laws.{indices_by_degrees}
use Rattle.value_theory.proofs.index_law.Goals as goal

pub returns : goal.returns
returns c = λ k p positive. indices_by_degrees k p positive
