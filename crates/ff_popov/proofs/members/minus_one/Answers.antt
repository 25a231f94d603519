use Rattle.std.proofs.Common.{◌++◌, [], ◌∷◌, ap, ap₂, ◌∙◌}
use Rattle.ff_poly.specs.Words.{poly_of}
use Rattle.ff_popov.proofs.members.minus_one.Goals as goal

pub returns : goal.returns
returns g c = c.from_codes.ensures ∙ ap poly_of
    (c.in_ok-push.ensures.items ∙ ap₂ (λ x y. x ++ y ∷ []) c.new-codes.ensures.items c.neg.ensures)
