use Rattle.std.proofs.Common.{◌≡◌, ◌<◌, ◌-◌, ap, sym, ◌∙◌, subst, arith, get_or}
use Rattle.std.proofs.lemmas.List.Elements.{All-get_or}
use Rattle.ff_meaning.proofs.PolynomialTerms.{codes_start, codes_then, codes_else, x_inside, read_any_code, coefficient_is, coefficient_over}
use Rattle.ff_meaning.proofs.polynomials.polynomial.Goals as goal

pub loop-j-init : goal.loop-j-init
loop-j-init g c = codes_start (g.K.SmallField.field c.args.k.now) c.args.bound c.args.terms.now
    c.in_ok-codes.codes.items (c.in_ok-codes.ensures.items_if_clones_equal (λ y e. e))

pub index-requires : goal.index-requires
index-requires g c =
    let h = x_inside (g.K.SmallField.field c.args.k.now) c.args.bound c.args.terms.now c.loop-j.j (omega arith)
    (omega arith) c.requires.low in
    let size = c.loop-j.invariant.size in
    omega (arith, h, size)

pub index_mut-requires : goal.index_mut-requires
index_mut-requires g c =
    let h = x_inside (g.K.SmallField.field c.args.k.now) c.args.bound c.args.terms.now c.loop-j.j (omega arith)
    (omega arith) c.requires.low in
    let size = c.loop-j.invariant.size in
    omega (arith, h, size)

pub add-requires-clause-b_in : goal.add-requires-clause-b_in
add-requires-clause-b_in g c =
    let k = g.K.SmallField.field c.args.k.now in
    let h = x_inside k c.args.bound c.args.terms.now c.loop-j.j (omega arith) (omega arith) c.requires.low in
    let size = c.loop-j.invariant.size in
    subst (λ m. m < k.size) (sym c.index.ensures)
    (All-get_or (λ m. m < k.size) c.loop-j.codes.items _ c.index.result.now (omega (arith, h, size))
    c.loop-j.invariant.over.each)

pub loop-j-preserved-then-y-eq0 : goal.loop-j-preserved-then-y-eq0
loop-j-preserved-then-y-eq0 g c =
    let k = g.K.SmallField.field c.args.k.now in
    let ts = c.args.terms.now in
    let h = x_inside k c.args.bound ts c.loop-j.j (omega arith) (omega arith) c.requires.low in
    let size = c.loop-j.invariant.size in
    let t = get_or ts (c.loop-j.j - 1) (0, 0, 0) in
    codes_then k c.args.bound ts c.loop-j.j c.add.result c.loop-j.codes.items (omega arith) (omega arith) c.requires.low
    c.requires.codes_in c.loop-j.invariant c.if-y-eq0.true
    (c.add.ensures ∙ ap (k.add t.2) (c.index.ensures
    ∙ read_any_code c.loop-j.codes.items t.1 c.index.result.now 0 (omega (arith, h, size))))

pub loop-j-preserved : goal.loop-j-preserved
loop-j-preserved g c =
    codes_else (g.K.SmallField.field c.args.k.now) c.args.bound c.args.terms.now c.loop-j.j c.loop-j.codes.items
    (omega arith) (omega arith) c.loop-j.invariant c.if-y-eq0.false

pub returns-clause-coefficient : goal.returns-clause-coefficient
returns-clause-coefficient g c =
    let none : c.loop-j.j ≡ 0 = omega arith in
    coefficient_is (g.K.SmallField.field c.args.k.now) c.args.bound c.args.terms.now c.loop-j.codes.items
    c.from_codes.result (rw none at c.loop-j.invariant)
    c.from_codes.ensures

pub returns-clause-over : goal.returns-clause-over
returns-clause-over g c =
    let none : c.loop-j.j ≡ 0 = omega arith in
    coefficient_over (g.K.SmallField.field c.args.k.now) c.args.bound c.args.terms.now c.loop-j.codes.items
    c.from_codes.result (rw none at c.loop-j.invariant)
    c.from_codes.ensures
