use Rattle.std.proofs.Common.{◌≡◌, ◌+◌, [], ◌∷◌, length, sym, ap, ◌∙◌, subst, arith}
use Rattle.ff_poly.specs.Popov.{rows_of}
use Rattle.ff_lattice.specs.Quotients.{AreProducts}
use Rattle.ff_lattice.proofs.SumsAndProducts.{map_join}
use Rattle.ff_lattice.proofs.QuotientSteps.{matrices_of, products_none, products_push}
use Rattle.ff_lattice.proofs.quotient.product_rows.Goals as goal

pub loop-i-init : goal.loop-i-init
loop-i-init g c =
    let k = g.K.SmallField.field c.args.k.now in
    subst (λ ms. AreProducts k c.args.p.now c.args.l.now 0 (matrices_of ms)) (sym c.new-products.ensures.items)
    (products_none k c.args.p.now c.args.l.now)

pub loop-i-preserved : goal.loop-i-preserved
loop-i-preserved g c =
    let k = g.K.SmallField.field c.args.k.now in
    let p = c.args.p.now in
    let l = c.args.l.now in
    let m = c.in_ok-products_of_row.field-0 in
    subst (AreProducts k p l (c.loop-i.i + 1))
    (sym (ap matrices_of c.in_ok-push.ensures.items
    ∙ map_join (λ m. rows_of m.items) c.loop-i.products.items (m ∷ [])))
    (products_push k p l c.loop-i.i (matrices_of c.loop-i.products.items) (rows_of m.items) c.loop-i.invariant
    c.in_ok-products_of_row.ensures)

pub returns : goal.returns
returns g c =
    let k = g.K.SmallField.field c.args.k.now in
    let l = c.args.l.now in
    let done : c.loop-i.i ≡ length l.rows = omega arith in
    subst (λ m. AreProducts k c.args.p.now c.args.l.now m (matrices_of c.loop-i.products.items)) done c.loop-i.invariant
