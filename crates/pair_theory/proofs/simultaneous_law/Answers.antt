-- The theorems of `PairSpaces` and `BothReduced`.
use Rattle.pair_theory.proofs.BothReduced.{both_reduced}
use Rattle.pair_theory.proofs.PairSpaces.{simultaneous, simultaneous_reduced}
use Rattle.pair_theory.proofs.simultaneous_law.Goals as goal

pub returns-clause-lattices : goal.returns-clause-lattices
returns-clause-lattices g start = λ k c D fin inf bs ds curve finite infinite both.
    simultaneous k c curve D fin inf finite infinite bs ds both

pub returns-clause-reduced : goal.returns-clause-reduced
returns-clause-reduced g start = λ 𝓝 bs ds both.
    both_reduced g.S.FunctionSets.equation g.S.FunctionSets.first g.S.FunctionSets.second 𝓝 bs ds both

pub returns-clause-divisor : goal.returns-clause-divisor
returns-clause-divisor g start = λ k c D bs ds some is both. simultaneous_reduced c some D is bs ds both
