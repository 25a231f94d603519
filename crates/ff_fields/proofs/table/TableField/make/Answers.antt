use Rattle.std.proofs.Common.{◌≡◌, ℕ, ◌<◌, length, get_or, arith, sym, ap, subst, ◌∙◌}
use Rattle.std.proofs.lemmas.List.{get_or-replicate}
use Rattle.ff_fields.specs.Standards.{standard_of}
use Rattle.ff_fields.specs.Over.{IsOver}
use Rattle.ff_fields.specs.Tables.{IsLogTable, IsPowerOf}
use Rattle.ff_fields.proofs.TableSteps.{codes_over, log_table, power_table, written_back}
use Rattle.ff_fields.proofs.table.TableField.make.Goals as goal

pub generator-requires-clause-mark : goal.generator-requires-clause-mark
generator-requires-clause-mark c =
    let k = standard_of c.args.base in
    let some : 0 < c.size-size.result = omega (arith, c.size-size.ensures, k.laws.one_below) in
    ap (λ w. get_or w 0 0) (c.deref_mut-2.ensures.value ∙ c.in_ok-logs.ensures)
    ∙ get_or-replicate c.size-size.result 0 65535 0 some

pub with_sums-requires-clause-codes_in : goal.with_sums-requires-clause-codes_in
with_sums-requires-clause-codes_in c =
    let k = standard_of c.args.base in
    let found = c.in-Some.ensures in
    let codes_len : c.in_ok-codes.codes.len ≡ length c.generator.new.codes =
    c.in_ok-codes.codes.ok.0 ∙ ap length (sym c.deref_mut.ensures.value) ∙ sym c.generator.auto.codes in
    subst (IsOver k.ops) (sym (c.deref.ensures.value
    ∙ written_back c.generator.new.codes _ c.in_ok-codes.codes.len codes_len))
    (codes_over k c.in-Some.generator found.some.0 found.some.1.0 c.generator.new.codes c.generator.new.logs
    found.logs_long found.mark found.some.1.1 found.codes_long)

pub invariant_of-result : goal.invariant_of-result
invariant_of-result c =
    let k = standard_of c.args.base in
    let g = c.in-Some.generator in
    let found = c.in-Some.ensures in
    let codes = c.generator.new.codes in
    let logs = c.generator.new.logs in
    let codes_len : c.in_ok-codes.codes.len ≡ length codes =
    c.in_ok-codes.codes.ok.0 ∙ ap length (sym c.deref_mut.ensures.value) ∙ sym c.generator.auto.codes in
    let logs_len : c.in_ok-logs.logs.len ≡ length logs =
    c.in_ok-logs.logs.ok.0 ∙ ap length (sym c.deref_mut-2.ensures.value) ∙ sym c.generator.auto.logs in
    let codes_are : c.deref.result.now ≡ codes = c.deref.ensures.value
    ∙ written_back codes _ c.in_ok-codes.codes.len codes_len in
    let logs_are : c.deref-2.result.now ≡ logs = c.deref-2.ensures.value
    ∙ written_back logs _ c.in_ok-logs.logs.len logs_len in
    let long = c.in_ok-powers.ensures.long ∙ ap length codes_are in
    let each : (i : ℕ) → i < length codes → IsPowerOf k.ops codes logs c.in_ok-powers.powers.items i =
    λ i less.
    subst (λ w. IsPowerOf k.ops w logs c.in_ok-powers.powers.items i) codes_are
    (subst (λ w. IsPowerOf k.ops c.deref.result.now w c.in_ok-powers.powers.items i) logs_are
    (c.in_ok-powers.ensures.each i (subst (λ w. i < length w) (sym codes_are) less))) in
    record {
      g_in = found.some.0;
      g_some = found.some.1.0;
      minus_one_is = c.neg.ensures;
      powers_are = power_table k g found.some.0 found.some.1.0 codes logs found.logs_long found.mark found.some.1.1
          c.in_ok-powers.powers.items found.codes_long long each;
      logs_are = subst (IsLogTable k.ops g) (sym (written_back logs _ c.in_ok-logs.logs.len logs_len))
          (log_table k g found.some.0 found.some.1.0 codes logs found.logs_long found.mark found.some.1.1);
    }
