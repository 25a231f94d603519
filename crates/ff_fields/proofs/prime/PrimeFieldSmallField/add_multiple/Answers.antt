use Rattle.std.proofs.Common.{ℕ, ◌+◌, ◌*◌, ◌<◌, ◌≤◌, length, get_or, arith, sym, ◌∙◌}
use Rattle.std.specs.Prelude.{IsTrue}
use Rattle.std.proofs.Math.Nat.{add-mod-mod}
use Rattle.std.proofs.lemmas.Nat.{mul-le}
use Rattle.ff_fields.specs.Prime.{is_listed, prime_field}
use Rattle.ff_fields.proofs.Sums.{sum_start, sum_over, sum_next, sum_end, sum_nothing}
use Rattle.ff_fields.proofs.prime.PrimeFieldSmallField.add_multiple.Goals as goal

listed_at_most : (p : ℕ) → IsTrue (is_listed p) → p ≤ 13
listed_at_most p listed = grind arith

sum_small : (p a c x : ℕ) → IsTrue (is_listed p) → a < p → c < p → x < p → a + c * x < 157
sum_small p a c x listed a_in c_in x_in =
    let small = listed_at_most p listed in
    let product = mul-le c x 12 12 (omega (arith, small, c_in)) (omega (arith, small, x_in)) in
    omega (arith, small, a_in, product)

pub rest-requires-clause-small : goal.rest-requires-clause-small
rest-requires-clause-small c =
    let k = prime_field c.args.self.now.p c.args.self.now.listed in
    let within : c.loop-j.j < length c.loop-j.sum = omega arith in
    sum_small c.args.self.now.p _ c.args.c _ c.args.self.now.listed
    ((sum_over k c.args.c c.requires.c_in c.args.sum.now c.args.codes.now c.requires.sum_in c.requires.codes_in
    c.requires.fits
    c.loop-j.sum c.loop-j.j c.loop-j.invariant).each c.loop-j.j 0 within)
    c.requires.c_in (c.requires.codes_in.each c.loop-j.j 0 c.loop-j-test.true)

pub overflow_add-sum : goal.overflow_add-sum
overflow_add-sum c =
    let k = prime_field c.args.self.now.p c.args.self.now.listed in
    let within : c.loop-j.j < length c.loop-j.sum = omega arith in
    let small =
    sum_small c.args.self.now.p (get_or c.loop-j.sum c.loop-j.j 0) c.args.c (get_or c.args.codes.now c.loop-j.j 0)
    c.args.self.now.listed
    ((sum_over k c.args.c c.requires.c_in c.args.sum.now c.args.codes.now c.requires.sum_in c.requires.codes_in
    c.requires.fits
    c.loop-j.sum c.loop-j.j c.loop-j.invariant).each c.loop-j.j 0 within)
    c.requires.c_in (c.requires.codes_in.each c.loop-j.j 0 c.loop-j-test.true) in
    omega (arith, small)

pub returns-then-c-eq0 : goal.returns-then-c-eq0
returns-then-c-eq0 c =
    let k = prime_field c.args.self.now.p c.args.self.now.listed in
    sum_nothing k c.args.c c.args.sum.now c.args.codes.now c.requires.sum_in c.requires.codes_in c.requires.fits
    c.if-c-eq0.true

pub loop-j-init : goal.loop-j-init
loop-j-init c =
    let k = prime_field c.args.self.now.p c.args.self.now.listed in
    sum_start k c.args.c c.requires.c_in c.args.sum.now c.args.codes.now c.requires.sum_in c.requires.codes_in
    c.requires.fits

pub loop-j-preserved : goal.loop-j-preserved
loop-j-preserved c =
    let p = c.args.self.now.p in
    let k = prime_field p c.args.self.now.listed in
    sum_next k c.args.c c.requires.c_in c.args.sum.now c.args.codes.now c.requires.sum_in c.requires.codes_in
    c.requires.fits
    c.loop-j.sum c.loop-j.j c.rest.result c.loop-j.invariant c.loop-j-test.true
    (c.rest.ensures ∙ sym (add-mod-mod (get_or c.loop-j.sum c.loop-j.j 0)
    (c.args.c * get_or c.args.codes.now c.loop-j.j 0) p))

pub returns : goal.returns
returns c =
    let k = prime_field c.args.self.now.p c.args.self.now.listed in
    sum_end k c.args.c c.requires.c_in c.args.sum.now c.args.codes.now c.requires.sum_in c.requires.codes_in
    c.requires.fits
    c.loop-j.sum c.loop-j.j c.loop-j.invariant (omega arith)
