-- The theorems of `RecordOrders`.
use Rattle.ideal_theory.proofs.RecordOrders.{maximal_everywhere, recorded_everywhere}
use Rattle.ideal_theory.proofs.recorded_order_law.Goals as goal

pub returns-clause-maximal : goal.returns-clause-maximal
returns-clause-maximal g c =
    λ 𝓞 has some at. maximal_everywhere g.S.FunctionSets.equation g.S.FunctionSets.first 𝓞 has some at

pub returns-clause-recorded : goal.returns-clause-recorded
returns-clause-recorded g c =
    λ 𝓞 has some records. recorded_everywhere g.S.FunctionSets.equation g.S.FunctionSets.first 𝓞 has some records
