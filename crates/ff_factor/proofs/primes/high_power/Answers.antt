use Rattle.std.proofs.Common.{◌≡◌, ◌-◌, length, arith, sym, ap, ◌∙◌, [], ◌∷◌, subst}
use Rattle.ff_fields.specs.Code.{zero_in}
use Rattle.ff_fields.specs.Over.{IsOver_nil, IsOver_cons}
use Rattle.ff_poly.specs.Words.{poly_of}
use Rattle.ff_poly.specs.PowerWords.{IsRest, power_of}
use Rattle.ff_factor.specs.Primes.{IsHighPower}
use Rattle.ff_factor.proofs.HighPowers.{high_start, high_step, high_end, reach_grows, reach_some}
use Rattle.ff_factor.proofs.primes.high_power.Goals as goal

pub loop-reach-init : goal.loop-reach-init
loop-reach-init g c =
    let k = g.K.SmallField.field c.args.k.now in
    let two = k.laws.one_below in
    let x_is : c.from_codes-x.result ≡ 0 ∷ 1 ∷ [] = c.from_codes-x.ensures
    ∙ ap poly_of (c.in_ok-to_vec.ensures.items_if_clones_equal (λ x y e. e)) in
    let r = c.in_ok-power.ensures.rest.division.shorter in
    let s = c.size-reach.ensures in
    record {
      some = omega arith;
      over = c.in_ok-power.ensures.over;
      short = omega arith;
      high = high_start k c.args.g.now c.requires.over _ _ c.size-reach.result x_is
          (rw x_is (IsOver_cons (zero_in k) (IsOver_cons two IsOver_nil))) s
          (subst (λ n. IsRest k.ops (power_of k.ops c.from_codes-x.result n) c.args.g.now c.in_ok-power.power)
          (c.size.ensures ∙ sym s) c.in_ok-power.ensures.rest);
    }

pub loop-reach-smaller : goal.loop-reach-smaller
loop-reach-smaller g c =
    let k = g.K.SmallField.field c.args.k.now in
    let two = k.laws.one_below in
    let q : c.size-in-loop-reach-2.result ≡ k.size = c.size-in-loop-reach-2.ensures in
    let same : length c.codes.result.now ≡ length c.args.g.now = ap length c.codes.ensures.codes in
    reach_grows c.loop-reach.reach c.size-in-loop-reach-2.result c.saturating_mul-reach.result (length c.args.g.now - 1)
    c.loop-reach.invariant.some (omega arith) c.saturating_mul-reach.ensures (omega arith) (omega arith)

pub loop-reach-preserved : goal.loop-reach-preserved
loop-reach-preserved g c =
    let k = g.K.SmallField.field c.args.k.now in
    let two = k.laws.one_below in
    let q : c.size-in-loop-reach-2.result ≡ k.size = c.size-in-loop-reach-2.ensures in
    let p : c.size-in-loop-reach.result ≡ k.size = c.size-in-loop-reach.ensures in
    let r = c.in_ok-power-2.ensures.rest.division.shorter in
    record {
      some = reach_some c.loop-reach.reach c.size-in-loop-reach-2.result _ c.loop-reach.invariant.some (omega arith)
          c.saturating_mul-reach.ensures;
      over = c.in_ok-power-2.ensures.over;
      short = omega arith;
      high = high_step k c.args.g.now c.requires.over c.loop-reach.reach _ c.size-in-loop-reach-2.result
          c.loop-reach.power _
          c.loop-reach.invariant.over c.loop-reach.invariant.high q
          (subst (λ n. IsRest k.ops (power_of k.ops c.loop-reach.power n) c.args.g.now c.in_ok-power-2.power)
          (p ∙ sym q) c.in_ok-power-2.ensures.rest) c.saturating_mul-reach.ensures;
    }

pub returns-clause-power : goal.returns-clause-power
returns-clause-power g c =
    let k = g.K.SmallField.field c.args.k.now in
    let same : length c.codes.result.now ≡ length c.args.g.now = ap length c.codes.ensures.codes in
    let codes_is : c.in_ok-codes.codes.items ≡ c.loop-reach.power
    = c.in_ok-codes.ensures.items_if_clones_equal (λ x y e. e) ∙ c.codes-2.ensures.codes in
    subst (λ n. IsHighPower k c.args.g.now (n - 1) c.resize.new.self.items) same
    (high_end k c.args.g.now c.requires.over (length c.codes.result.now - 1) c.loop-reach.reach _ c.loop-reach.power
    c.in_ok-codes.codes.items _
    (c.in_ok-codes.ensures.len ∙ ap length c.codes-2.ensures.codes)
    c.loop-reach.invariant.high (omega arith) (omega (arith, c.loop-reach.invariant.short, same)) codes_is
    c.in_ok-resize.ensures.items)
