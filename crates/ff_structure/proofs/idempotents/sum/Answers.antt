use Rattle.std.proofs.Common.{arith, ap, ap₂, ◌∙◌}
use Rattle.std.proofs.lemmas.List.{take_at}
use Rattle.ring_lemmas.specs.Lists.{add_lists}
use Rattle.ff_fields.specs.Code.{raw_ring}
use Rattle.ff_falg.proofs.Lists.{scale_one}
use Rattle.ff_structure.proofs.idempotents.sum.Goals as goal

pub add_multiple-requires-clause-c_in : goal.add_multiple-requires-clause-c_in
add_multiple-requires-clause-c_in g c = (g.K.SmallField.field c.args.k.now).laws.one_below

pub returns : goal.returns
returns g c =
    let k = g.K.SmallField.field c.args.k.now in
    take_at c.add_multiple.new.sum _ c.in_ok-sum.sum.len (omega arith)
    ∙ c.add_multiple.ensures
    ∙ ap₂ (add_lists (raw_ring k.ops)) (c.as_mut_slice.ensures.value ∙ c.in_ok-sum.ensures.items_if_clones_equal (λ x y e. e))
    (scale_one k c.args.b.now c.requires.b_in)
