-- The theorems of `TraceDuals` on dimensions and sums of degrees.
use Rattle.space_theory.proofs.TraceDuals.{riemann_roch, canonical_degrees}
use Rattle.space_theory.proofs.riemann_roch_law.Goals as goal

pub returns-clause-dimensions : goal.returns-clause-dimensions
returns-clause-dimensions g c = λ some b d reduced i j.
    riemann_roch g.S.FunctionSets.equation some g.S.FunctionSets.first g.S.FunctionSets.second b d reduced i j

pub returns-clause-canonical : goal.returns-clause-canonical
returns-clause-canonical g c = λ some b b' d d' reduced dual.
    canonical_degrees g.S.FunctionSets.equation some g.S.FunctionSets.first g.S.FunctionSets.second b d reduced b' d'
    dual
