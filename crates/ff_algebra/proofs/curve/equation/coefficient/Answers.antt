use Rattle.std.proofs.Common.{◌≡◌, refl, ap, ◌∙◌, arith}
use Rattle.ff_algebra.proofs.CurveTerms.{codes_start, codes_then, codes_else, x_inside, coefficient_is, coefficient_over, coefficient_short}
use Rattle.ff_poly.specs.Words.{poly_of}
use Rattle.ff_algebra.proofs.curve.equation.coefficient.Goals as goal

pub loop-j-init : goal.loop-j-init
loop-j-init g c = codes_start (g.K.SmallField.field c.args.k.now) c.args.i c.args.terms.now _ refl

pub offset_bounds-codes-x : goal.offset_bounds-codes-x
offset_bounds-codes-x g c =
    let h = x_inside (g.K.SmallField.field c.args.k.now) c.args.i c.args.terms.now c.loop-j.j (omega arith)
    (omega arith) c.requires.low in
    omega (arith, h)

pub bounds-codes-x : goal.bounds-codes-x
bounds-codes-x g c = x_inside (g.K.SmallField.field c.args.k.now) c.args.i c.args.terms.now c.loop-j.j (omega arith)
    (omega arith) c.requires.low

pub offset_bounds-codes-x-then-y-i : goal.offset_bounds-codes-x-then-y-i
offset_bounds-codes-x-then-y-i g c =
    let h = x_inside (g.K.SmallField.field c.args.k.now) c.args.i c.args.terms.now c.loop-j.j (omega arith)
    (omega arith) c.requires.low in
    omega (arith, h)

pub bounds-codes-x-then-y-i : goal.bounds-codes-x-then-y-i
bounds-codes-x-then-y-i g c = x_inside (g.K.SmallField.field c.args.k.now) c.args.i c.args.terms.now c.loop-j.j
    (omega arith) (omega arith) c.requires.low

pub loop-j-preserved-then-y-i : goal.loop-j-preserved-then-y-i
loop-j-preserved-then-y-i g c =
    codes_then (g.K.SmallField.field c.args.k.now) c.args.i c.args.terms.now c.loop-j.j c.add.result c.loop-j.codes
    (omega arith) (omega arith) c.requires.low c.requires.codes_in c.loop-j.invariant c.if-y-i.true c.add.ensures

pub loop-j-preserved : goal.loop-j-preserved
loop-j-preserved g c =
    codes_else (g.K.SmallField.field c.args.k.now) c.args.i c.args.terms.now c.loop-j.j c.loop-j.codes (omega arith)
    (omega arith) c.loop-j.invariant c.if-y-i.false

pub returns-clause-coefficient : goal.returns-clause-coefficient
returns-clause-coefficient g c =
    let none : c.loop-j.j ≡ 0 = omega arith in
    coefficient_is (g.K.SmallField.field c.args.k.now) c.args.i c.args.terms.now c.loop-j.codes c.from_codes.result
    (rw none at c.loop-j.invariant)
    (c.from_codes.ensures ∙ ap poly_of (c.in_ok-to_vec.ensures.items_if_clones_equal (λ x y e. e)))

pub returns-clause-over : goal.returns-clause-over
returns-clause-over g c =
    let none : c.loop-j.j ≡ 0 = omega arith in
    coefficient_over (g.K.SmallField.field c.args.k.now) c.args.i c.args.terms.now c.loop-j.codes c.from_codes.result
    (rw none at c.loop-j.invariant)
    (c.from_codes.ensures ∙ ap poly_of (c.in_ok-to_vec.ensures.items_if_clones_equal (λ x y e. e)))

pub returns-clause-short : goal.returns-clause-short
returns-clause-short g c =
    let none : c.loop-j.j ≡ 0 = omega arith in
    coefficient_short (g.K.SmallField.field c.args.k.now) c.args.i c.args.terms.now c.loop-j.codes c.from_codes.result
    (rw none at c.loop-j.invariant)
    (c.from_codes.ensures ∙ ap poly_of (c.in_ok-to_vec.ensures.items_if_clones_equal (λ x y e. e)))
