use Rattle.std.proofs.Common.{rules, ◌≡◌, subst, sym, ◌∙◌, refl, false, true}
use Rattle.ff_lattice.specs.Lattices.{Contains}
use Rattle.ff_lattice.proofs.OrderRows.{order_from_rows, rows_of_order, false_true}
use Rattle.ff_lattice.proofs.order.Order.new.Goals as goal

pub returns-then-not-branch-2-clause-decides : goal.returns-then-not-branch-2-clause-decides
returns-then-not-branch-2-clause-decides g c =
    let k = g.K.SmallField.field c.args.k.now in
    let no : c.in_ok-has_products.field-0 ≡ false = search rules in (
      λ t. absurd (false_true t),
      λ o. sym no ∙ c.in_ok-has_products.ensures.1 (rows_of_order k c.args.p.now c.args.l o).products_in,
    )

pub returns-clause-decides : goal.returns-clause-decides
returns-clause-decides g c =
    let k = g.K.SmallField.field c.args.k.now in
    let p = c.args.p.now in
    let l = c.args.l in
    let yes : c.in_ok-contains.field-0 ≡ true = search rules in
    let all : c.in_ok-has_products.field-0 ≡ true = search rules in (
      λ _.
          order_from_rows k p l c.requires.l_form
          (record {
            one_in =
                subst (Contains k p l) (c.in_ok-one.ensures.one p (sym c.n.ensures.n))
                ((c.in_ok-contains.ensures p c.n.ensures.range.positive (sym c.requires.l_form.popov.size)).0 yes);
            products_in = c.in_ok-has_products.ensures.0 all;
          }),
      λ _. refl,
    )
