-- The theorems of `Admitted`.
use Rattle.order_theory.proofs.InvertibleIdeals.{lattice_invertible}
use Rattle.ideal_theory.proofs.Admitted.{product_admitted, inverse_admitted}
use Rattle.ideal_theory.proofs.admitted_law.Goals as goal

pub returns-clause-product : goal.returns-clause-product
returns-clause-product g c =
    λ 𝓞. product_admitted g.S.FunctionSets.equation g.S.FunctionSets.first 𝓞 g.S.FunctionSets.second
    g.S.FunctionSets.third

pub returns-clause-inverse : goal.returns-clause-inverse
returns-clause-inverse g c =
    λ 𝓞. inverse_admitted g.S.FunctionSets.equation g.S.FunctionSets.first 𝓞 g.S.FunctionSets.second

pub returns-clause-invertible : goal.returns-clause-invertible
returns-clause-invertible g c =
    λ 𝓞 𝓜 closed admitted. lattice_invertible g.S.FunctionSets.equation g.S.FunctionSets.first 𝓞
    g.S.FunctionSets.second 𝓜 closed admitted
