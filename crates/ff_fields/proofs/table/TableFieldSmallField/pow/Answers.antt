use Rattle.std.proofs.Common.{◌%◌, ◌<◌, ◌≤◌, ◌∙◌, arith, refl, mod-lt}
use Rattle.std.proofs.Math.Nat.{mul-le-mul_left}
use Rattle.ff_fields.specs.Standards.{standard_of}
use Rattle.ff_fields.proofs.TableSteps.{tables_at, log_below, power_at, zero_power}
use Rattle.ff_fields.proofs.table.TableFieldSmallField.pow.Goals as goal

pub returns-else-e-eq0 : goal.returns-else-e-eq0
returns-else-e-eq0 c =
    zero_power (standard_of c.args.self.now) c.args.a c.args.e c.if-a-eq0.true c.if-e-eq0.false

pub overflow_mul-log : goal.overflow_mul-log
overflow_mul-log c =
    let k = standard_of c.args.self.now in
    let s = c.self.inside in
    let T = tables_at s.base c.args.self.now s.generator s.minus_one s.powers.items s.logs.items c.self.view_is
    c.self.invariant in
    let n_is = c.len-n.ensures ∙ s.powers.ok.0 in
    let small = log_below k s.generator s.minus_one s.powers.items s.logs.items T c.args.a c.index.result.now
    c.len-n.result c.requires c.if-a-eq0.false c.index.ensures n_is in
    let within : c.len-n.result ≤ 65535 = omega (arith, n_is, T.powers_are.long, k.laws.size_within) in
    let rest = c.args.e % c.len-n.result in
    let some : 0 < c.len-n.result = omega (arith, small) in
    let rest_in : rest < c.len-n.result = mod-lt c.args.e some in
    let rest_small : rest ≤ 65535 = omega (arith, rest_in, within) in
    let bound = mul-le-mul_left c.index.result.now rest_small in
    omega (arith, bound, small, within)

pub returns : goal.returns
returns c =
    let k = standard_of c.args.self.now in
    let s = c.self.inside in
    let T = tables_at s.base c.args.self.now s.generator s.minus_one s.powers.items s.logs.items c.self.view_is
    c.self.invariant in
    power_at k s.generator s.minus_one s.powers.items s.logs.items T c.args.a c.args.e c.index.result.now c.len-n.result
    _ c.index-2.result.now
    c.requires c.if-a-eq0.false c.index.ensures (c.len-n.ensures ∙ s.powers.ok.0) refl c.index-2.ensures
