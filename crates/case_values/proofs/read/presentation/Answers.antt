use Rattle.std.proofs.Common.{sym, subst}
use Rattle.function_field.specs.Values.{IsPresOver}
use Rattle.case_values.proofs.read.presentation.Goals as goal

pub returns : goal.returns
returns g c =
    let k = g.K.SmallField.field c.args.k.now in
    subst (IsPresOver k.ops) (sym c.new.ensures) (record { coeffs_over = c.in_ok-coeffs.ensures })
