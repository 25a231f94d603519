use Rattle.std.proofs.Common.{◌≡◌, suc, ◌++◌, take, reverse, ◌-◌, sym, ap, ◌∙◌, arith, append_assoc}
use Rattle.ff_text.specs.Printed.{term_text}
use Rattle.ff_text.specs.PrintedWriting.{plus_text}
use Rattle.ff_text.proofs.PrintedLists.{plus_more, poly_first, length_from_degree}
use Rattle.ff_text.proofs.printed.write.push_poly.Goals as goal

pub loop-j-init : goal.loop-j-init
loop-j-init c =
    ap (λ o. o ++ plus_text (reverse (take c.in-Some.degree c.args.p.now))) c.in_ok-push_term.ensures
    ∙ append_assoc c.args.out.now.items (term_text c.top.result c.in-Some.degree)
    (plus_text (reverse (take c.in-Some.degree c.args.p.now)))
    ∙ ap (λ t. c.args.out.now.items ++ t)
    (sym (poly_first c.args.p.now c.in-Some.degree c.top.result (sym c.degree.ensures ∙ c.in-Some.is)
    c.top.ensures.top c.top.ensures.not_zero))

pub loop-j-preserved-in-Continue-branch-4 : goal.loop-j-preserved-in-Continue-branch-4
loop-j-preserved-in-Continue-branch-4 c =
    let next : c.loop-j.j ≡ suc (c.loop-j.j - 1) = omega arith in
    let long = length_from_degree c.args.p.now c.in-Some.degree (sym c.degree.ensures ∙ c.in-Some.is) in
    let below = reverse (take (c.loop-j.j - 1) c.args.p.now) in
    ap (λ o. o ++ plus_text below) (c.in_ok-push_term-2.ensures
    ∙ ap (λ o. o ++ term_text c.coeff-c.result (c.loop-j.j - 1)) c.in_ok-extend_from_slice.ensures.items)
    ∙ plus_more c.loop-j.out.items c.args.p.now c.coeff-c.result (c.loop-j.j - 1) c.loop-j.j next (omega (arith, long))
    c.coeff-c.ensures c.if-c-ne0.true
    ∙ c.loop-j.invariant
