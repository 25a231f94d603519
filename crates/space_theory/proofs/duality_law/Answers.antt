-- The theorems of `TraceDuals` on dual bases.
use Rattle.space_theory.proofs.TraceDuals.{duality, dual_colon, canonical_colon}
use Rattle.space_theory.proofs.duality_law.Goals as goal

pub returns-clause-dual : goal.returns-clause-dual
returns-clause-dual g c = λ some b d reduced.
    let r = duality g.S.FunctionSets.equation some g.S.FunctionSets.first g.S.FunctionSets.second b d reduced in
    (r.basis, r.traces, r.dual, r.canonical)

pub returns-clause-finite : goal.returns-clause-finite
returns-clause-finite g c = dual_colon g.S.FunctionSets.equation g.S.FunctionSets.first g.S.FunctionSets.second

pub returns-clause-infinite : goal.returns-clause-infinite
returns-clause-infinite g c = canonical_colon g.S.FunctionSets.equation g.S.FunctionSets.first g.S.FunctionSets.second
