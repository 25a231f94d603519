use Rattle.std.proofs.Common.{◌≡◌, ◌<◌, ◌∙◌, ap, ap₂, length, map, sym, subst, All}
use Rattle.std.proofs.lemmas.List.{length-map}
use Rattle.ff_poly.specs.Popov.{rows_of}
use Rattle.function_field.specs.Values.{function_of}
use Rattle.linear_theory.specs.Lists.{entry}
use Rattle.ff_split.specs.Splits.{IsLowestElem}
use Rattle.ff_split.proofs.Made.{none, made_form, columns_inside, arranged_all}
use Rattle.ff_split.proofs.simultaneous.from_matrix.Goals as goal

pub arranged-requires : goal.arranged-requires
arranged-requires g c =
    let k = g.K.SmallField.field c.args.k.now in
    let zs = c.in_ok-elems.elems.items in
    let order = c.in_ok-order.order.items in
    let m = rows_of c.args.rows.now in
    let count : length zs ≡ length m = sym (length-map zs (function_of k c.args.c.now.fin))
    ∙ c.in_ok-elems.ensures.rows.count ∙ sym c.requires.matrix.popov.size in
    subst (λ xs. All (λ p. p.1 < length xs) c.deref-2.result.now) (sym c.deref.ensures.value)
    (subst (λ ps. All (λ p. p.1 < length zs) ps) (sym c.deref-2.ensures.value)
    (subst (λ n. All (λ p. p.1 < n) order) (sym count)
    (columns_inside c.args.u.now m order c.in_ok-order.ensures)))

pub returns-clause-form : goal.returns-clause-form
returns-clause-form g c =
    let k = g.K.SmallField.field c.args.k.now in
    made_form k c.args.c.now c.args.fin.now c.args.inf.now c.args.u.now (rows_of c.args.rows.now)
    c.in_ok-elems.elems.items c.in_ok-basis.basis.items c.in_ok-order.order.items c.in_ok-degrees.degrees.items
    c.requires.matrix c.in_ok-elems.ensures.rows c.in_ok-order.ensures
    (c.in_ok-basis.ensures
    ∙ ap₂ (λ zs ps. map (λ p. entry none zs p.1) ps) c.deref.ensures.value c.deref-2.ensures.value)
    (c.in_ok-degrees.ensures ∙ ap (map (λ p. p.0)) c.deref-3.ensures.value)

pub returns-clause-lowest : goal.returns-clause-lowest
returns-clause-lowest g c =
    let k = g.K.SmallField.field c.args.k.now in
    let zs = c.in_ok-elems.elems.items in
    let order = c.in_ok-order.order.items in
    let m = rows_of c.args.rows.now in
    let count : length zs ≡ length m = sym (length-map zs (function_of k c.args.c.now.fin))
    ∙ c.in_ok-elems.ensures.rows.count ∙ sym c.requires.matrix.popov.size in
    arranged_all (IsLowestElem k.ops c.args.c.now.fin.n) zs c.in_ok-basis.basis.items order c.in_ok-elems.ensures.lowest
    (subst (λ n. All (λ p. p.1 < n) order) (sym count)
    (columns_inside c.args.u.now m order c.in_ok-order.ensures))
    (c.in_ok-basis.ensures
    ∙ ap₂ (λ xs ps. map (λ p. entry none xs p.1) ps) c.deref.ensures.value c.deref-2.ensures.value)
