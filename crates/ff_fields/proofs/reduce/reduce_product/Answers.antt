use Rattle.std.proofs.Common.{◌≡◌, ◌+◌, ◌-◌, ◌<◌, ◌∷◌, ℕ, length, get_or, set, drop, arith, sym, ap, ◌∙◌, subst}
use Rattle.std.proofs.lemmas.List.{drop_more, drop-set, drop_all}
use Rattle.ff_fields.specs.Over.{IsOver, IsOver_nil, IsOver_cons}
use Rattle.ff_fields.specs.Prime.{prime_of}
use Rattle.ff_fields.specs.Modulus.{stepped}
use Rattle.ff_fields.proofs.ReduceSteps.{digit_below, reduced_more, reduced_none, rest_over}
use Rattle.ff_fields.proofs.reduce.reduce_product.Goals as goal

pub loop-i-init : goal.loop-i-init
loop-i-init c =
    let a_end = drop_all (length c.args.a.now) c.args.a.now (omega arith) in
    let q_end = drop_all (length c.args.a.now) c.args.quotient.now (omega (arith, c.requires.room)) in
    record {
      within = omega arith;
      rest_in = c.requires.rest_in;
      quotient_in = subst (λ w. IsOver (prime_of c.args.p) w) (sym q_end) IsOver_nil;
      whole = rw (a_end, q_end) (reduced_none c.args.p c.args.b.now c.args.modulus.now c.args.rest.now);
    }

pub loop-i-preserved : goal.loop-i-preserved
loop-i-preserved c =
    let p = c.args.p in
    let n = c.loop-i.i - 1 in
    let before = c.loop-i.rest in
    let new = c.step.new.rest in
    let done = c.loop-i.invariant in
    let same : length before ≡ length c.args.rest.now = c.loop-i.auto.rest in
    let now : length new ≡ length before = c.step.auto.rest in
    let room : length c.loop-i.quotient ≡ length c.args.quotient.now = c.loop-i.auto.quotient in
    let after : n + 1 ≡ c.loop-i.i = omega arith in
    let a_more : drop n c.args.a.now ≡ get_or c.args.a.now n 0 ∷ drop c.loop-i.i c.args.a.now =
    drop_more c.args.a.now n 0 (omega arith) ∙ ap (λ i. get_or c.args.a.now n 0 ∷ drop i c.args.a.now) after in
    let q_more : drop n (set c.loop-i.quotient n c.step.result) ≡ c.step.result ∷ drop c.loop-i.i c.loop-i.quotient =
    drop-set c.loop-i.quotient n c.step.result (omega (arith, room, c.requires.room))
    ∙ ap (λ i. c.step.result ∷ drop i c.loop-i.quotient) after in
    let top : c.step.result ≡ get_or before (length before - 1) 0 = c.step.ensures.top in
    let some : 0 < length before = omega (arith, same, c.requires.some) in
    let row_long : length c.args.b.now ≡ length before = c.requires.b_long ∙ sym same in
    let modulus_long : length c.args.modulus.now ≡ length before + 1 = omega (arith, same, c.requires.modulus_long) in
    let monic : get_or c.args.modulus.now (length before) 0 ≡ 1 = ap (λ w. get_or c.args.modulus.now w 0) same
    ∙ c.requires.monic in
    let c_in : get_or c.args.a.now n 0 < p = digit_below p c.requires.base c.args.a.now c.requires.a_in n in
    let each : (i : ℕ) → i < length before
    → get_or new i 0 ≡ stepped p before (get_or c.args.a.now n 0) c.args.b.now
    (p - get_or before (length before - 1) 0) c.args.modulus.now i =
    λ i less. c.step.ensures.each i less
    ∙ ap (λ w. stepped p before (get_or c.args.a.now n 0) c.args.b.now (p - w) c.args.modulus.now i) top in
    record {
      within = omega (arith, done.within);
      rest_in = rest_over p c.requires.base before c.args.b.now c.args.modulus.now new (get_or c.args.a.now n 0) some
          c_in row_long modulus_long monic done.rest_in c.requires.b_in c.requires.modulus_in now each;
      quotient_in = subst (λ w. IsOver (prime_of p) w) (sym q_more)
          (IsOver_cons (subst (λ w. w < p) (sym top)
          (digit_below p c.requires.base before done.rest_in (length before - 1))) done.quotient_in);
      whole = rw (a_more, q_more, top)
          (reduced_more p before c.args.b.now c.args.modulus.now new (get_or c.args.a.now n 0) some c_in row_long
          modulus_long monic done.rest_in c.requires.b_in c.requires.modulus_in now each
          (drop c.loop-i.i c.args.a.now) c.args.rest.now (drop c.loop-i.i c.loop-i.quotient) done.whole);
    }
