use Rattle.std.proofs.Common.{◌≡◌, ◌-◌, ◌<◌, arith, sym, ap, ◌∙◌, subst}
use Rattle.std.proofs.lemmas.List.{length-set}
use Rattle.ff_fields.specs.Field.{pow_of}
use Rattle.ff_fields.proofs.PowerLaws.{pow_of_order}
use Rattle.ff_fields.proofs.TableSteps.{power_below, pow_of_next, not_one_more, write_step, mark_stays}
use Rattle.ff_fields.proofs.table.write_powers.Goals as goal

pub overflow_cast-codes : goal.overflow_cast-codes
overflow_cast-codes g c =
    let k = g.K.SmallField.field c.args.k.now in
    let power_in = power_below k c.args.g c.requires.g_in c.requires.g_some c.loop-count.count c.loop-count.power
    c.loop-count.invariant.power_is in
    omega (arith, power_in, k.laws.size_within)

pub bounds-logs-power : goal.bounds-logs-power
bounds-logs-power g c =
    let k = g.K.SmallField.field c.args.k.now in
    subst (λ w. c.loop-count.power < w) (sym c.loop-count.invariant.logs_long)
    (power_below k c.args.g c.requires.g_in c.requires.g_some c.loop-count.count c.loop-count.power
    c.loop-count.invariant.power_is)

pub mul-power-requires-clause-a_in : goal.mul-power-requires-clause-a_in
mul-power-requires-clause-a_in g c =
    let k = g.K.SmallField.field c.args.k.now in
    power_below k c.args.g c.requires.g_in c.requires.g_some c.loop-count.count c.loop-count.power
    c.loop-count.invariant.power_is

pub returns-then-power-eq1-clause-mark : goal.returns-then-power-eq1-clause-mark
returns-then-power-eq1-clause-mark g c =
    let k = g.K.SmallField.field c.args.k.now in
    let before = c.loop-count.invariant in
    mark_stays k c.args.g c.requires.g_in c.requires.g_some c.loop-count.count c.loop-count.power c.loop-count.logs
    before.power_is before.mark

pub returns-then-power-eq1-clause-written : goal.returns-then-power-eq1-clause-written
returns-then-power-eq1-clause-written g c =
    let k = g.K.SmallField.field c.args.k.now in
    let before = c.loop-count.invariant in
    write_step k c.args.g c.requires.g_in c.requires.g_some c.loop-count.count c.loop-count.power c.loop-count.codes
    c.loop-count.logs
    before.power_is c.loop-count-test.true before.logs_long before.written before.not_one

pub returns-then-power-eq1-clause-comes_again : goal.returns-then-power-eq1-clause-comes_again
returns-then-power-eq1-clause-comes_again g c =
    let k = g.K.SmallField.field c.args.k.now in
    sym (pow_of_next k c.args.g c.requires.g_in c.requires.g_some c.loop-count.count c.loop-count.power
    c.loop-count.invariant.power_is)
    ∙ sym c.mul-power.ensures ∙ c.if-power-eq1.true

pub loop-count-preserved : goal.loop-count-preserved
loop-count-preserved g c =
    let k = g.K.SmallField.field c.args.k.now in
    let before = c.loop-count.invariant in
    let count = c.loop-count.count in
    let power = c.loop-count.power in
    let next = pow_of_next k c.args.g c.requires.g_in c.requires.g_some count power before.power_is in
    let test = c.loop-count-test.true in
    record {
      codes_long = length-set c.loop-count.codes count power ∙ before.codes_long;
      logs_long = length-set c.loop-count.logs power count ∙ before.logs_long;
      mark = mark_stays k c.args.g c.requires.g_in c.requires.g_some count power c.loop-count.logs before.power_is
          before.mark;
      written = write_step k c.args.g c.requires.g_in c.requires.g_some count power c.loop-count.codes c.loop-count.logs
          before.power_is test before.logs_long before.written before.not_one;
      power_is = c.mul-power.ensures ∙ next;
      not_one = not_one_more k c.args.g c.requires.g_in c.requires.g_some count before.not_one
          (λ one. c.if-power-eq1.false (c.mul-power.ensures ∙ next ∙ one));
      within = omega (arith, test, before.codes_long);
    }

pub returns-clause-comes_again : goal.returns-clause-comes_again
returns-clause-comes_again g c =
    let k = g.K.SmallField.field c.args.k.now in
    let before = c.loop-count.invariant in
    let last : c.loop-count.count ≡ k.size - 1 = omega
    (arith, c.loop-count-test.false, before.codes_long, before.within) in
    ap (pow_of k.ops c.args.g) last ∙ pow_of_order k c.args.g c.requires.g_in c.requires.g_some
