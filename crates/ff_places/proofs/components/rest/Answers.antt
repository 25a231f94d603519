use Rattle.std.proofs.Common.{length, sym, ap, ap₂, ◌∙◌, subst, arith}
use Rattle.std.proofs.lemmas.List.{take_at}
use Rattle.ring_lemmas.specs.Lists.{add_lists, scale_list}
use Rattle.ff_fields.specs.Code.{raw_ring}
use Rattle.ff_fields.specs.Over.{IsOver}
use Rattle.ff_places.proofs.components.rest.Goals as goal

pub add_multiple-requires-clause-fits : goal.add_multiple-requires-clause-fits
add_multiple-requires-clause-fits g c =
    let k = g.K.SmallField.field c.args.k.now in
    let law = g.A.FiniteAlgebra.laws c.args.a.now k c.requires.over in
    let size = ap length (c.as_mut_slice.ensures.value ∙ c.in_ok-codes.ensures) ∙ law.unit_in.size in
    omega (arith, size, c.requires.e_in.size)

pub add_multiple-requires-clause-sum_in : goal.add_multiple-requires-clause-sum_in
add_multiple-requires-clause-sum_in g c =
    let k = g.K.SmallField.field c.args.k.now in
    let law = g.A.FiniteAlgebra.laws c.args.a.now k c.requires.over in
    subst (IsOver k.ops) (sym (c.as_mut_slice.ensures.value ∙ c.in_ok-codes.ensures)) law.unit_in.over

pub add_multiple-requires-clause-codes_in : goal.add_multiple-requires-clause-codes_in
add_multiple-requires-clause-codes_in g c = c.requires.e_in.over

pub returns : goal.returns
returns g c =
    let k = g.K.SmallField.field c.args.k.now in
    take_at c.add_multiple.new.sum _ c.in_ok-codes.codes.len (omega arith)
    ∙ c.add_multiple.ensures
    ∙ ap₂ (λ xs d. add_lists (raw_ring k.ops) xs (scale_list (raw_ring k.ops) d c.args.e.now))
    (c.as_mut_slice.ensures.value ∙ c.in_ok-codes.ensures) c.neg.ensures
