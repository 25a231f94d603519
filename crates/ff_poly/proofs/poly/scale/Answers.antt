use Rattle.std.proofs.Common.{arith, ap, ◌∙◌}
use Rattle.ff_poly.proofs.poly.scale.Goals as goal
use Rattle.ff_poly.specs.Words.{poly_of, multiple_of}
use Rattle.ff_poly.specs.PolyOver.{IsOver_multiple_of}
use Rattle.ff_poly.proofs.Results.{written_back}

pub returns-clause-multiple : goal.returns-clause-multiple
returns-clause-multiple g c =
    let k = g.K.SmallField.field c.args.k.now in
    c.from_codes.ensures
    ∙ written_back c.scale_all.new.codes _ _ (omega arith)
    ∙ ap poly_of c.scale_all.ensures
    ∙ ap (λ x. multiple_of k.ops x c.args.c)
    (c.as_mut_slice.ensures.value ∙ c.in_ok-codes.ensures.items_if_clones_equal (λ x y e. e)
    ∙ c.as_slice.ensures.value ∙ c.a.view_is)

pub returns-clause-over : goal.returns-clause-over
returns-clause-over g c =
    let k = g.K.SmallField.field c.args.k.now in
    rw (returns-clause-multiple g c) (IsOver_multiple_of k c.requires.a_in c.requires.c_in)
