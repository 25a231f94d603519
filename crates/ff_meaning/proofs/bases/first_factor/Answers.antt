use Rattle.std.proofs.Common.{◌≡◌}
use Rattle.std.proofs.lemmas.Result.{IfOk-weaker}
use Rattle.ff_meaning.specs.Refusals.{IsReducible}
use Rattle.ff_meaning.proofs.BaseRows.{factor_told}
use Rattle.ff_meaning.proofs.bases.first_factor.Goals as goal

pub returns : goal.returns
returns g c =
    let k = (g.K.SmallField.field c.args.k.now).ops in
    IfOk-weaker c.copy.result (λ h. h ≡ c.first-item.result.0) (IsReducible k c.args.p.now)
    (factor_told k c.args.p.now c.requires.long c.requires.monic c.requires.not c.in_ok-factors.factors
    c.in_ok-factors.ensures c.parts.result.now c.parts.ensures c.in-len1-up.len_at_least c.first-item.result
    c.first-item.is)
    c.copy.ensures
