use Rattle.std.proofs.Common.{arith, ap, ap₂, ◌∙◌}
use Rattle.ff_poly.proofs.poly.add.Goals as goal
use Rattle.ff_fields.specs.Code.{raw_ring}
use Rattle.ring_lemmas.specs.Lists.{add_lists}
use Rattle.ff_poly.specs.Words.{poly_of}
use Rattle.ff_poly.specs.PolyOver.{IsOver_sum_of}
use Rattle.ff_poly.proofs.Results.{written_back, sum_from_padded}

pub returns-clause-sum : goal.returns-clause-sum
returns-clause-sum g c =
    let k = g.K.SmallField.field c.args.k.now in
    c.from_codes.ensures
    ∙ written_back c.add_all.new.sum _ _ (omega arith)
    ∙ ap poly_of c.add_all.ensures
    ∙ ap₂ (λ x y. poly_of (add_lists (raw_ring k.ops) x y)) (c.as_mut_slice.ensures.value ∙ c.in_ok-codes.ensures)
    (c.as_slice.ensures.value ∙ c.b.view_is)
    ∙ sum_from_padded k c.args.a.now c.args.b.now _ c.requires.a_in c.requires.b_in

pub returns-clause-over : goal.returns-clause-over
returns-clause-over g c =
    let k = g.K.SmallField.field c.args.k.now in
    rw (returns-clause-sum g c) (IsOver_sum_of k c.requires.a_in c.requires.b_in)
