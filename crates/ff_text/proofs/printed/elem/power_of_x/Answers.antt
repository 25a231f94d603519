use Rattle.std.proofs.Common.{◌++◌, ◌∷◌, [], replicate, ap, ◌∙◌}
use Rattle.ff_poly.specs.Words.{poly_of}
use Rattle.ff_text.proofs.PrintedDenominators.{power_trimmed}
use Rattle.ff_text.proofs.printed.elem.power_of_x.Goals as goal

pub returns : goal.returns
returns c =
    c.from_codes.ensures ∙ ap poly_of (c.in_ok-push.ensures.items ∙ ap (λ cs. cs ++ 1 ∷ []) c.in_ok-push_zeros.ensures
    ∙ ap (λ cs. (cs ++ replicate c.args.j 0) ++ 1 ∷ []) c.new-codes.ensures.items)
    ∙ power_trimmed c.args.j
