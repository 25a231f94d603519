use Rattle.std.proofs.Common.{[], ◌∷◌, ◌∙◌, ap}
use Rattle.std.proofs.lemmas.List.{map-append}
use Rattle.std.proofs.lemmas.List.Elements.{All-nil, All-cons, All-append, All-same}
use Rattle.ff_poly.specs.Popov.{rows_of, IsRow}
use Rattle.case_values.proofs.rows.rows.Goals as goal

pub loop-part-preserved : goal.loop-part-preserved
loop-part-preserved g c =
    let k = g.K.SmallField.field c.args.k.now in
    let P = IsRow k.ops c.args.width in
    All-same P _ _ (ap rows_of c.in_ok-push.ensures.items
    ∙ map-append (λ v. v.items) c.loop-part.rows.items (c.in_ok-wide_row.field-0 ∷ []))
    (All-append P (rows_of c.loop-part.rows.items) (c.in_ok-wide_row.field-0.items ∷ []) c.loop-part.invariant
    (All-cons P c.in_ok-wide_row.field-0.items [] c.in_ok-wide_row.ensures (All-nil P)))
