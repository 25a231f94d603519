use Rattle.std.proofs.Common.{ap, ◌∙◌, arith}
use Rattle.function_field.specs.Values.{ElemValue}
use Rattle.function_field.specs.Curves.{reversed_of}
use Rattle.function_field.proofs.InfinitePresentations.{over_reversed}
use Rattle.ff_algebra.proofs.OtherSide.{are_turned, over_turned, reversed_not_zero, turned_to_infinite, turned_to_finite}
use Rattle.ff_algebra.proofs.sides.turned.Goals as goal

pub new-requires-clause-num_in : goal.new-requires-clause-num_in
new-requires-clause-num_in g c =
    let k = g.K.SmallField.field c.args.k.now in
    over_turned k c.args.c c.codes_needed-m.result c.args.z.now.num c.loop-i.num.items
    (are_turned c.args.c c.codes_needed-m.result c.loop-i.i c.args.z.now.num c.loop-i.num.items
    c.loop-i.invariant.size (omega (arith, c.len-i-end.ensures)) c.loop-i.invariant.each c.codes_needed-m.ensures.num)
    c.requires.z_in.num_over

pub new-requires-clause-den_in : goal.new-requires-clause-den_in
new-requires-clause-den_in g c =
    let k = g.K.SmallField.field c.args.k.now in
    rw c.in_ok-den.ensures (rw c.den.ensures.den
    (over_reversed k c.args.z.now.den c.codes_needed-m.result c.requires.z_in.den_over))

pub new-requires-clause-not_zero : goal.new-requires-clause-not_zero
new-requires-clause-not_zero g c =
    rw c.in_ok-den.ensures (rw c.den.ensures.den
    (reversed_not_zero c.args.z.now.den c.codes_needed-m.result c.den.ensures.monic.monic))

pub returns-clause-to_infinite : goal.returns-clause-to_infinite
returns-clause-to_infinite g c =
    let k = g.K.SmallField.field c.args.k.now in
    let m = c.codes_needed-m.result in
    let z = c.args.z.now in
    let given : ElemValue = record { num = c.loop-i.num.items; den = c.in_ok-den.den } in
    let turned = are_turned c.args.c m c.loop-i.i z.num given.num c.loop-i.invariant.size
    (omega (arith, c.len-i-end.ensures)) c.loop-i.invariant.each c.codes_needed-m.ensures.num in
    let den_is = c.in_ok-den.ensures ∙ ap (λ d. reversed_of d m) c.den.ensures.den in
    λ p. turned_to_infinite k p c.args.c m z given c.new.result c.requires.z_in c.den.ensures.monic
    c.new.ensures.in_range c.new.ensures.monic
    turned den_is c.codes_needed-m.ensures.den c.new.ensures.num c.new.ensures.den

pub returns-clause-to_finite : goal.returns-clause-to_finite
returns-clause-to_finite g c =
    let k = g.K.SmallField.field c.args.k.now in
    let m = c.codes_needed-m.result in
    let z = c.args.z.now in
    let given : ElemValue = record { num = c.loop-i.num.items; den = c.in_ok-den.den } in
    let turned = are_turned c.args.c m c.loop-i.i z.num given.num c.loop-i.invariant.size
    (omega (arith, c.len-i-end.ensures)) c.loop-i.invariant.each c.codes_needed-m.ensures.num in
    let den_is = c.in_ok-den.ensures ∙ ap (λ d. reversed_of d m) c.den.ensures.den in
    λ p. turned_to_finite k p c.args.c m z given c.new.result c.requires.z_in c.den.ensures.monic c.new.ensures.in_range
    c.new.ensures.monic
    turned den_is c.codes_needed-m.ensures.den c.new.ensures.num c.new.ensures.den
