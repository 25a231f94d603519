use Rattle.std.proofs.Common.{[], ◌∷◌}
use Rattle.std.proofs.lemmas.List.Elements.{All-nil, All-cons, All-append, All-same}
use Rattle.ff_fields.specs.Over.{IsOver}
use Rattle.case_values.proofs.read.row.Goals as goal

pub loop-part-preserved : goal.loop-part-preserved
loop-part-preserved g c =
    let k = g.K.SmallField.field c.args.k.now in
    All-same (IsOver k.ops) _ _ c.in_ok-push.ensures.items
    (All-append (IsOver k.ops) c.loop-part.polys.items (c.in_ok-polynomial.field-0 ∷ []) c.loop-part.invariant
    (All-cons (IsOver k.ops) c.in_ok-polynomial.field-0 [] c.in_ok-polynomial.ensures (All-nil (IsOver k.ops))))
