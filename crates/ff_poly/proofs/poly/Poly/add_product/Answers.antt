use Rattle.std.proofs.Common.{◌≡◌, [], ◌∙◌, ap, ap₂, arith, sym, length, eqb-true, ◌-◌, replicate, ◌++◌, vec_len, ◌≤◌}
use Rattle.std.proofs.lemmas.List.{nil_from_length, take_all}
use Rattle.ff_poly.proofs.poly.Poly.add_product.Goals as goal
use Rattle.ff_poly.proofs.poly.Poly.add_product.Goals.{then-is_empty-via-then-is_empty, then-is_empty-via-else-is_empty+then-is_empty-2}
use Rattle.ff_fields.specs.Code.{raw_ring}
use Rattle.ff_poly.specs.Words.{poly_of, product_of}
use Rattle.ff_poly.specs.Sums.{add_onto}
use Rattle.ff_poly.specs.PolyOver.{IsOver_multiple_of, IsOver_sum_of, IsOver_product_of}
use Rattle.ff_poly.proofs.Results.{written_back, product_of_nil}
use Rattle.ff_poly.proofs.Sums.{sum_with_none, sum_with_product}

pub returns-then-is_empty-clause-sum : goal.returns-then-is_empty-clause-sum
returns-then-is_empty-clause-sum g c =
    let k = g.K.SmallField.field c.args.k.now in
    let none : product_of k.ops c.args.a.now c.args.b.now ≡ [] = elim c.then-is_empty.branch [
      | then-is_empty-via-then-is_empty w ↦
          let no_codes = eqb-true _ 0 (sym c.is_empty.ensures ∙ w.if-is_empty.true) in
          let empty : c.args.a.now ≡ [] = sym c.a.view_is ∙ nil_from_length _ (omega (arith, no_codes)) in
          ap (λ w. product_of k.ops w c.args.b.now) empty
      | then-is_empty-via-else-is_empty+then-is_empty-2 w ↦
          let no_codes = eqb-true _ 0 (sym w.is_empty-else-is_empty.ensures ∙ w.if-is_empty-2.true) in
          let empty : c.args.b.now ≡ [] = sym c.b.view_is ∙ nil_from_length _ (omega (arith, no_codes)) in
          ap (product_of k.ops c.args.a.now) empty ∙ product_of_nil k.ops c.args.a.now
    ] in
    sum_with_none k.ops c.args.self.now c.args.a.now c.args.b.now c.args.c (rw (← c.self.view_is) c.self.invariant) none

pub returns-clause-sum : goal.returns-clause-sum
returns-clause-sum g c =
    let k = g.K.SmallField.field c.args.k.now in
    let inside = c.self.inside.codes.items in
    let m = c.max.result - vec_len c.self.inside.codes in
    let within : length inside ≤ c.max.result = omega arith in
    let length_a = ap length c.a.view_is in
    let length_self = ap length c.self.view_is in
    let written = c.in_ok-resize.ensures.items
    ∙ ap (λ w. w ++ replicate m 0) (take_all c.max.result inside within ∙ c.self.view_is) in
    c.drop_zeros.ensures.dropped
    ∙ written_back c.add_product_to.new.sum _ _ (omega arith)
    ∙ ap poly_of c.add_product_to.ensures
    ∙ ap₂ (λ x y. poly_of (add_onto (raw_ring k.ops) c.args.c x y c.as_mut_slice.result.now))
    (c.as_slice.ensures.value ∙ c.a.view_is) (c.as_slice-2.ensures.value ∙ c.b.view_is)
    ∙ ap (λ z. poly_of (add_onto (raw_ring k.ops) c.args.c c.args.a.now c.args.b.now z))
    (c.as_mut_slice.ensures.value ∙ written)
    ∙ sum_with_product k c.args.self.now c.args.a.now c.args.b.now c.args.c m c.requires.self_in c.requires.c_in
    c.requires.a_in c.requires.b_in (omega (arith, length_a, length_self))

pub returns-clause-over : goal.returns-clause-over
returns-clause-over g c =
    let k = g.K.SmallField.field c.args.k.now in
    rw (returns-clause-sum g c) (IsOver_sum_of k c.requires.self_in
    (IsOver_multiple_of k (IsOver_product_of k c.requires.a_in c.requires.b_in) c.requires.c_in))
