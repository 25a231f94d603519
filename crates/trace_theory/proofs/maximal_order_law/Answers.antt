-- The theorem of `MaximalOrder`.
use Rattle.trace_theory.proofs.MaximalOrder.{maximal_order}
use Rattle.trace_theory.proofs.maximal_order_law.Goals as goal

pub returns : goal.returns
returns g c = λ ps ring contains. maximal_order g.C.Overring.equation g.C.Overring.members ring contains ps
