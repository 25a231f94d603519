-- The theorem of `InfiniteRecords`.
use Rattle.divisor_theory.proofs.InfiniteRecords.{infinite_record}
use Rattle.divisor_theory.proofs.infinite_record_law.Goals as goal

pub returns : goal.returns
returns g c = λ n f m some 𝓞 ps valid.
    infinite_record g.S.InfiniteSets.field g.S.InfiniteSets.presentation g.S.InfiniteSets.infinite n f m some
    g.S.InfiniteSets.members 𝓞 ps valid
