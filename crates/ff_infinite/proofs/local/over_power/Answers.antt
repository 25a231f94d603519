use Rattle.std.proofs.Common.{◌≡◌, ◌≢◌, ℕ, ◌<◌, [], ◌∷◌, ◌++◌, length, get_or, drop, replicate, subst, ap, ap₂, ◌∙◌, arith}
use Rattle.std.proofs.lemmas.List.{take_all}
use Rattle.ff_poly.specs.Words.{shifted}
use Rattle.function_field.specs.Values.{ElemValue, function_of}
use Rattle.ff_infinite.proofs.LowZeros.{split, power_codes, power_over, power_some}
use Rattle.ff_infinite.proofs.local.over_power.Goals as goal

pub new-requires-clause-den_in : goal.new-requires-clause-den_in
new-requires-clause-den_in g c =
    let k = g.K.SmallField.field c.args.k.now in
    let b = c.low_zeros.result in
    let den_is : c.in_ok-den.den ≡ replicate b 0 ++ 1 ∷ [] = c.in_ok-den.ensures
    ∙ ap (λ a. shifted a b) c.in_ok-one.ensures ∙ power_codes b in
    rw den_is (power_over k b)

pub new-requires-clause-not_zero : goal.new-requires-clause-not_zero
new-requires-clause-not_zero g c =
    let b = c.low_zeros.result in
    let den_is : c.in_ok-den.den ≡ replicate b 0 ++ 1 ∷ [] = c.in_ok-den.ensures
    ∙ ap (λ a. shifted a b) c.in_ok-one.ensures ∙ power_codes b in
    rw den_is (power_some b)

pub returns-clause-freed : goal.returns-clause-freed
returns-clause-freed g c =
    let k = g.K.SmallField.field c.args.k.now in
    let b = c.low_zeros.result in
    let d = c.args.w.now.den in
    let den_is : c.in_ok-den.den ≡ replicate b 0 ++ 1 ∷ [] = c.in_ok-den.ensures
    ∙ ap (λ a. shifted a b) c.in_ok-one.ensures ∙ power_codes b in
    let size = ap length c.num-entry-items.ensures in
    let num_is : c.loop-entry.num.items ≡ c.args.w.now.num
    = c.loop-entry.invariant ∙ take_all c.loop-entry.entry-index c.args.w.now.num
    (omega (arith, size, c.loop-entry-test.false)) in
    let zeros = subst (λ d. (j : ℕ) → j < b → get_or d j 0 ≡ 0) c.den.ensures.den c.low_zeros.ensures.zeros in
    let next = subst (λ d. b < length d → get_or d b 0 ≢ 0) c.den.ensures.den c.low_zeros.ensures.next in
    let s = split b d c.den.ensures.monic.monic zeros next in
    let same : ◌≡◌ {A = ElemValue} (record { num = c.loop-entry.num.items; den = c.in_ok-den.den })
    (record { num = c.args.w.now.num; den = replicate b 0 ++ 1 ∷ [] })
    = ap₂ (λ v e. record { num = v; den = e }) num_is den_is in
    record {
      exponent = b;
      rest = drop b d;
      den = s.0;
      first = s.1;
      functions = λ p. c.new.ensures.same_function p ∙ ap (function_of k p) same;
    }
