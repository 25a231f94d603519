use Rattle.std.proofs.Common.{◌≤◌, length, ap, arith, subst, sym, ◌∙◌}
use Rattle.std.proofs.lemmas.List.Elements.{All-weaker}
use Rattle.ff_space.specs.Steps.{AreQuotientsOver, AreShort}
use Rattle.ff_space.specs.Vectors.{vector_of}
use Rattle.ff_space.proofs.CoordinateLists.{no_vector, long_no_vector, is_vector}
use Rattle.ff_space.proofs.combinations.vector_over.Goals as goal

pub returns-in_default : goal.returns-in_default
returns-in_default g c =
    no_vector (g.K.SmallField.field c.args.k.now) c.args.z.now c.args.den.now c.args.width c.requires.z_in
    c.in_ok-ws.ensures.monic c.requires.den_in c.requires.monic (rw c.in_default.is at c.in_ok-ws.ensures.quotients)

pub returns-then-longest-width : goal.returns-then-longest-width
returns-then-longest-width g c =
    let k = g.K.SmallField.field c.args.k.now in
    let q : AreQuotientsOver k.ops c.args.den.now c.args.z.now.num c.args.z.now.den c.in-Some.ws.items
    = rw c.in-Some.is at c.in_ok-ws.ensures.quotients in
    long_no_vector k c.args.z.now c.args.den.now c.args.width c.requires.z_in c.in_ok-ws.ensures.monic
    c.requires.den_in c.requires.monic c.in-Some.ws.items q
    (λ short.
    let l = c.longest.ensures.least c.args.width (subst (AreShort c.args.width) (sym c.as_slice.ensures.value) short) in
    let more = c.if-longest-width.true in
    absurd (omega (arith, l, more)))

pub returns : goal.returns
returns g c =
    let k = g.K.SmallField.field c.args.k.now in
    let q : AreQuotientsOver k.ops c.args.den.now c.args.z.now.num c.args.z.now.den c.in-Some.ws.items
    = rw c.in-Some.is at c.in_ok-ws.ensures.quotients in
    let less = c.if-longest-width.false in
    is_vector k c.args.z.now c.args.den.now c.args.width c.requires.z_in c.in_ok-ws.ensures.monic c.requires.den_in
    c.requires.monic c.in-Some.ws.items q
    (All-weaker (λ w. length w ≤ c.longest.result) (λ w. length w ≤ c.args.width) (λ w l. omega (arith, l, less))
    c.in-Some.ws.items (subst (AreShort c.longest.result) c.as_slice.ensures.value c.longest.ensures.short))
    c.in_ok-vector_of.field-0.items (c.in_ok-vector_of.ensures ∙ ap (vector_of c.args.width) c.as_slice-2.ensures.value)
