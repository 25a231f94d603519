use Rattle.std.proofs.Common.{map, All, ap, subst, sym, ◌∙◌}
use Rattle.ff_poly.specs.Words.{IsPoly, shifted}
use Rattle.ff_space.proofs.LayerLists.{shifted_polys}
use Rattle.ff_space.proofs.layers.x_times.Goals as goal

pub over_monic-requires-clause-num_poly : goal.over_monic-requires-clause-num_poly
over_monic-requires-clause-num_poly c =
    subst (All IsPoly) (sym (c.in_ok-num.ensures ∙ ap (map (λ v. shifted v 1)) c.num.ensures))
    (shifted_polys c.args.z.now.num)
