use Rattle.std.proofs.Common.{◌≡◌, ◌-◌, [], length, replicate, arith, eqb-true, sym, ap, ap₂, ◌∙◌}
use Rattle.std.proofs.lemmas.List.{nil_from_length}
use Rattle.ff_poly.proofs.poly.mul.Goals as goal
use Rattle.ff_fields.specs.Code.{raw_ring}
use Rattle.ring_lemmas.specs.Lists.{mul_onto}
use Rattle.ff_poly.specs.Words.{poly_of, product_of}
use Rattle.ff_poly.specs.PolyOver.{IsOver_product_of}
use Rattle.ff_poly.proofs.Results.{written_back, product_from_top, product_of_nil}

pub returns-then-is_empty-clause-product : goal.returns-then-is_empty-clause-product
returns-then-is_empty-clause-product g c =
    let k = g.K.SmallField.field c.args.k.now in
    let none = eqb-true _ 0 (sym c.is_empty.ensures ∙ c.if-is_empty.true) in
    let empty : c.args.b.now ≡ [] = sym c.b.view_is ∙ nil_from_length _ (omega (arith, none)) in
    c.from_codes.ensures ∙ ap poly_of c.new.ensures.items ∙ sym (product_of_nil k.ops c.args.a.now)
    ∙ ap (product_of k.ops c.args.a.now) (sym empty)

pub returns-clause-product : goal.returns-clause-product
returns-clause-product g c =
    let k = g.K.SmallField.field c.args.k.now in
    c.from_codes-2.ensures
    ∙ written_back c.multiply.new.product _ _ (omega arith)
    ∙ ap poly_of c.multiply.ensures
    ∙ ap₂ (λ x y. poly_of (mul_onto (raw_ring k.ops) x y (replicate (length y - 1) 0)))
    (c.as_slice.ensures.value ∙ c.a.view_is) (c.as_slice-2.ensures.value ∙ c.b.view_is)
    ∙ product_from_top k c.args.a.now c.args.b.now _ c.requires.a_in c.requires.b_in

pub returns-then-is_empty-clause-over : goal.returns-then-is_empty-clause-over
returns-then-is_empty-clause-over g c =
    let k = g.K.SmallField.field c.args.k.now in
    rw (returns-then-is_empty-clause-product g c) (IsOver_product_of k c.requires.a_in c.requires.b_in)

pub returns-clause-over : goal.returns-clause-over
returns-clause-over g c =
    let k = g.K.SmallField.field c.args.k.now in
    rw (returns-clause-product g c) (IsOver_product_of k c.requires.a_in c.requires.b_in)
