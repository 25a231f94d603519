use Rattle.std.proofs.Common.{◌≡◌, ◌<◌, rules, sym, ap, ◌∙◌, subst, All}
use Rattle.ff_fields.specs.Over.{IsOver, IsOver_trim}
use Rattle.ff_poly.specs.Words.{poly_of}
use Rattle.case_values.proofs.read.tested.Goals as goal

pub returns : goal.returns
returns g c =
    let k = g.K.SmallField.field c.args.k.now in
    let codes = c.args.codes.now in
    let items : c.in_ok-to_vec.field-0.items ≡ codes = search rules in
    let all : All (λ x. x < k.size) codes = search rules in
    let over : IsOver k.ops codes = record { each = all } in
    subst (IsOver k.ops) (sym (c.from_codes.ensures ∙ ap poly_of items)) (IsOver_trim codes over)
