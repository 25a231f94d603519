use Rattle.std.proofs.Common.{[], ◌∷◌}
use Rattle.std.proofs.lemmas.List.Elements.{All-nil, All-cons, All-append, All-same}
use Rattle.function_field.specs.Values.{IsElem}
use Rattle.cases_lattice.proofs.lattices.elements.Goals as goal

pub loop-part-preserved : goal.loop-part-preserved
loop-part-preserved g c =
    let P = IsElem (g.K.SmallField.field c.args.k.now).ops c.args.n in
    All-same P _ _ c.in_ok-push.ensures.items
    (All-append P c.loop-part.found.items (c.in_ok-element.field-0 ∷ []) c.loop-part.invariant
    (All-cons P c.in_ok-element.field-0 [] c.in_ok-element.ensures (All-nil P)))
