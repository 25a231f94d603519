-- The theorem of `InvertibleIdeals`.
use Rattle.order_theory.proofs.InvertibleIdeals.{lattice_invertible}
use Rattle.order_theory.proofs.inverse_law.Goals as goal

pub returns : goal.returns
returns g c =
    λ 𝓞 𝓜 closed admitted. lattice_invertible g.S.FunctionSets.equation g.S.FunctionSets.first 𝓞
    g.S.FunctionSets.second 𝓜 closed admitted
