use Rattle.std.proofs.Common.{◌≡◌, true, false, length, get_or, map, refl, ap, sym, ◌∙◌, subst, arith}
use Rattle.std.proofs.lemmas.List.{take_all, length-map}
use Rattle.std.proofs.lemmas.List.Elements.{All-get_or}
use Rattle.ff_fields.specs.Over.{IsOver}
use Rattle.ff_poly.specs.Words.{product_of}
use Rattle.function_field.specs.Values.{ElemValue, IsMonicElem}
use Rattle.function_field.proofs.SameValues.{cross_more, cross_at, same_functions}
use Rattle.ff_algebra.proofs.elem.same.Goals as goal

pub mul-requires-clause-b_in : goal.mul-requires-clause-b_in
mul-requires-clause-b_in g c =
    let k = g.K.SmallField.field c.args.k.now in
    let size = ap (λ (z : ElemValue). length z.num) c.a.view_is in
    let at = c.index.ensures ∙ ap (λ (z : ElemValue). get_or z.num c.loop-i.i c.index.result.now) c.a.view_is in
    rw at (All-get_or (IsOver k.ops) c.args.a.now.num c.loop-i.i c.index.result.now (omega (arith, size))
    c.requires.a_in.num_over)

pub mul-requires-in-loop-i-clause-b_in : goal.mul-requires-in-loop-i-clause-b_in
mul-requires-in-loop-i-clause-b_in g c =
    let k = g.K.SmallField.field c.args.k.now in
    let size = ap (λ (z : ElemValue). length z.num) c.a.view_is in
    let at = c.index-in-loop-i.ensures ∙ ap (λ (z : ElemValue). get_or z.num c.loop-i.i c.index-in-loop-i.result.now)
    c.b.view_is in
    rw at (All-get_or (IsOver k.ops) c.args.b.now.num c.loop-i.i c.index-in-loop-i.result.now
    (omega (arith, size, c.requires.b_in.one_each)) c.requires.b_in.num_over)

pub loop-i-preserved : goal.loop-i-preserved
loop-i-preserved g c =
    let k = g.K.SmallField.field c.args.k.now in
    let size = ap (λ (z : ElemValue). length z.num) c.a.view_is in
    let v_is = c.index.ensures ∙ ap (λ (z : ElemValue). get_or z.num c.loop-i.i c.index.result.now) c.a.view_is in
    let w_is = c.index-in-loop-i.ensures
    ∙ ap (λ (z : ElemValue). get_or z.num c.loop-i.i c.index-in-loop-i.result.now) c.b.view_is in
    let left = c.in_ok-left.ensures.product
    ∙ ap (λ (z : ElemValue). product_of k.ops z.den c.index.result.now) c.b.view_is in
    let right = c.in_ok-right.ensures.product
    ∙ ap (λ (z : ElemValue). product_of k.ops z.den c.index-in-loop-i.result.now) c.a.view_is in
    cross_more (product_of k.ops c.args.b.now.den) (product_of k.ops c.args.a.now.den) c.args.a.now.num c.args.b.now.num
    c.loop-i.i c.index.result.now c.index-in-loop-i.result.now
    (omega (arith, size)) (omega (arith, size, c.requires.b_in.one_each)) v_is w_is c.loop-i.invariant
    (sym left ∙ c.equals.ensures.0 c.if-not-equals.false ∙ right)

pub returns-then-not-equals-clause-cross : goal.returns-then-not-equals-clause-cross
returns-then-not-equals-clause-cross g c =
    let k = g.K.SmallField.field c.args.k.now in
    let size = ap (λ (z : ElemValue). length z.num) c.a.view_is in
    let v_is = c.index.ensures ∙ ap (λ (z : ElemValue). get_or z.num c.loop-i.i c.index.result.now) c.a.view_is in
    let w_is = c.index-in-loop-i.ensures
    ∙ ap (λ (z : ElemValue). get_or z.num c.loop-i.i c.index-in-loop-i.result.now) c.b.view_is in
    let left = c.in_ok-left.ensures.product
    ∙ ap (λ (z : ElemValue). product_of k.ops z.den c.index.result.now) c.b.view_is in
    let right = c.in_ok-right.ensures.product
    ∙ ap (λ (z : ElemValue). product_of k.ops z.den c.index-in-loop-i.result.now) c.a.view_is in (
      λ t. let no : false ≡ true = t in (cc),
      λ same. sym c.if-not-equals.true ∙ c.equals.ensures.1
          (left
          ∙ cross_at (product_of k.ops c.args.b.now.den) (product_of k.ops c.args.a.now.den) c.args.a.now.num
          c.args.b.now.num c.loop-i.i c.index.result.now c.index-in-loop-i.result.now
          (omega (arith, size)) (omega (arith, size, c.requires.b_in.one_each)) v_is w_is same
          ∙ sym right),
    )

pub returns-then-not-equals-clause-functions : goal.returns-then-not-equals-clause-functions
returns-then-not-equals-clause-functions g c =
    let k = g.K.SmallField.field c.args.k.now in
    same_functions k c.args.a.now c.args.b.now false c.requires.a_in (subst IsMonicElem c.a.view_is c.a.invariant)
    c.requires.b_in (subst IsMonicElem c.b.view_is c.b.invariant) (returns-then-not-equals-clause-cross g c)

pub returns-clause-cross : goal.returns-clause-cross
returns-clause-cross g c =
    let k = g.K.SmallField.field c.args.k.now in
    let size = ap (λ (z : ElemValue). length z.num) c.a.view_is in
    let f = product_of k.ops c.args.b.now.den in
    let h = product_of k.ops c.args.a.now.den in
    let vs = c.args.a.now.num in
    let ws = c.args.b.now.num in (
      λ t.
          sym (take_all c.loop-i.i (map f vs) (omega (arith, size, length-map vs f))) ∙ c.loop-i.invariant
          ∙ take_all c.loop-i.i (map h ws) (omega (arith, size, length-map ws h, c.requires.b_in.one_each)),
      λ same. refl,
    )

pub returns-clause-functions : goal.returns-clause-functions
returns-clause-functions g c =
    let k = g.K.SmallField.field c.args.k.now in
    same_functions k c.args.a.now c.args.b.now true c.requires.a_in (subst IsMonicElem c.a.view_is c.a.invariant)
    c.requires.b_in (subst IsMonicElem c.b.view_is c.b.invariant) (returns-clause-cross g c)
