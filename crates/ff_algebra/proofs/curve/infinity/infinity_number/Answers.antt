use Rattle.std.proofs.Common.{◌≡◌, [], ◌-◌, ◌+◌, suc, length, get_or, max, rules, sym, ap, ◌∙◌, arith}
use Rattle.std.proofs.lemmas.Option.{get_or_from_slice_get}
use Rattle.function_field.proofs.InfinityNumbers.{IsNumberBelow, number_of_all, number_of_more, number_of_same, length_from_no_degree, length_from_degree}
use Rattle.ff_algebra.proofs.curve.infinity.infinity_number.Goals as goal
use Rattle.ff_algebra.proofs.curve.infinity.infinity_number.Goals.{in-Some, in_default, Joined-degree}

-- c is the least number for the coefficients up to this one
next : (c : Joined-degree) → IsNumberBelow c.args.f.now (c.loop-i.i + 1) c.match-degree.c
next c =
    let at : c.coeff.result.now ≡ get_or c.args.f.now.coeffs (c.args.f.now.n - c.loop-i.i) [] =
    sym (get_or_from_slice_get c.args.f.now.coeffs (c.n.result - c.loop-i.i) c.coeff.result.now [] c.coeff.ensures)
    ∙ ap (λ n. get_or c.args.f.now.coeffs (n - c.loop-i.i) []) c.n.ensures.n in
    elim c.match-degree.branch [
      | in-Some w ↦
          let long : length c.coeff.result.now
          ≡ suc w.in-Some.d = length_from_degree c.coeff.result.now w.in-Some.d
          (sym c.degree.ensures ∙ w.in-Some.is) in
          let larger : w.max-c.result ≡ max c.loop-i.c w.div_ceil.result = search rules in
          number_of_more c.args.f.now c.loop-i.i c.loop-i.c w.in-Some.d c.match-degree.c (omega arith)
          c.loop-i.invariant
          (ap length (sym at) ∙ long) (w.c-is ∙ larger ∙ ap (max c.loop-i.c) w.div_ceil.ensures)
      | in_default w ↦
          let none : length c.coeff.result.now
          ≡ 0 = length_from_no_degree c.coeff.result.now (sym c.degree.ensures ∙ w.in_default.is) in
          rw w.c-is (number_of_same c.args.f.now c.loop-i.i c.loop-i.c c.loop-i.invariant (ap length (sym at) ∙ none))
    ]

pub loop-i-preserved : goal.loop-i-preserved
loop-i-preserved c = next c.before

pub returns-after-degree : goal.returns-after-degree
returns-after-degree c = number_of_all c.args.f.now c.loop-i.i c.match-degree.c (omega (arith, c.n-i-end.ensures.n))
    (next c.before)
