-- The theorem of `IndexProducts`.
use Rattle.order_theory.proofs.IndexProducts.{times_index}
use Rattle.order_theory.proofs.product_index_law.Goals as goal

pub returns : goal.returns
returns g c =
    λ 𝓞 𝓟 𝓧 inverse n i. times_index g.S.FunctionSets.equation g.S.FunctionSets.first 𝓞 g.S.FunctionSets.third 𝓟 n i
    g.S.FunctionSets.second 𝓧 inverse
