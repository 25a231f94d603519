use Rattle.std.proofs.Common.{◌≡◌, ◌<◌, [], ◌∷◌, ◌++◌, length, get_or, refl, sym, ap, ap₂, ◌∙◌, subst, arith, below_more}
use Rattle.std.specs.List.{insert}
use Rattle.std.proofs.lemmas.List.{get_or_default}
use Rattle.ff_factor.specs.Factors.{IsBeforePoly}
use Rattle.ff_factor.specs.Pulls.{IsWith}
use Rattle.ff_factor.proofs.Orders.{with_insert, with_same, with_push, before_total, not_so}
use Rattle.ff_factor.proofs.order.insert.Goals as goal

pub returns-then-is_before : goal.returns-then-is_before
returns-then-is_before c =
    let inv = c.loop-i.invariant in
    let less : c.loop-i.i < length c.loop-i.polys.items = omega arith in
    let here : c.index.result.now ≡ get_or c.args.polys.now.items c.loop-i.i []
    = c.index.ensures ∙ get_or_default c.loop-i.polys.items c.loop-i.i c.index.result.now [] less
    ∙ ap (λ xs. get_or xs c.loop-i.i []) inv.polys in
    let before : IsBeforePoly c.loop-i.p c.index.result.now = c.if-is_before.ensures.0 refl in
    let l : c.loop-i.i < length c.args.polys.now.items = omega (arith, less, ap length inv.polys) in
    with_insert c.args.polys.now.items _ c.loop-i.i c.args.p c.requires inv.before
    (subst (λ q. IsBeforePoly q (get_or c.args.polys.now.items c.loop-i.i [])) inv.same
    (subst (IsBeforePoly c.loop-i.p) here before))
    l (c.in_ok-insert.ensures.items ∙ ap₂ (λ xs x. insert xs c.loop-i.i x) inv.polys inv.same)

pub returns-then-equals : goal.returns-then-equals
returns-then-equals c =
    let inv = c.loop-i.invariant in
    let less : c.loop-i.i < length c.loop-i.polys.items = omega arith in
    let here : c.index-in-loop-i.result.now ≡ get_or c.args.polys.now.items c.loop-i.i []
    = c.index-in-loop-i.ensures ∙ get_or_default c.loop-i.polys.items c.loop-i.i c.index-in-loop-i.result.now [] less
    ∙ ap (λ xs. get_or xs c.loop-i.i []) inv.polys in
    let l : c.loop-i.i < length c.args.polys.now.items = omega (arith, less, ap length inv.polys) in
    subst (IsWith c.args.polys.now.items c.args.p) (sym inv.polys)
    (with_same c.args.polys.now.items c.loop-i.i c.args.p c.requires (sym inv.same ∙ c.if-equals.ensures.0 refl ∙ here)
    l)

pub loop-i-preserved : goal.loop-i-preserved
loop-i-preserved c =
    let inv = c.loop-i.invariant in
    let less : c.loop-i.i < length c.loop-i.polys.items = omega arith in
    let here : c.index.result.now ≡ get_or c.args.polys.now.items c.loop-i.i []
    = c.index.ensures ∙ get_or_default c.loop-i.polys.items c.loop-i.i c.index.result.now [] less
    ∙ ap (λ xs. get_or xs c.loop-i.i []) inv.polys in
    let here' : c.index-in-loop-i.result.now ≡ get_or c.args.polys.now.items c.loop-i.i []
    = c.index-in-loop-i.ensures ∙ get_or_default c.loop-i.polys.items c.loop-i.i c.index-in-loop-i.result.now [] less
    ∙ ap (λ xs. get_or xs c.loop-i.i []) inv.polys in
    record {
      polys = inv.polys;
      same = inv.same;
      before = below_more _ _ inv.before
          (before_total c.args.p (get_or c.args.polys.now.items c.loop-i.i [])
          (λ e. not_so (c.if-equals.ensures.1 (inv.same ∙ e ∙ sym here')))
          (λ h. not_so (c.if-is_before.ensures.1
          (subst (IsBeforePoly c.loop-i.p) (sym here)
          (subst (λ q. IsBeforePoly q (get_or c.args.polys.now.items c.loop-i.i [])) (sym inv.same) h)))));
    }

pub returns : goal.returns
returns c =
    let inv = c.loop-i.invariant in
    let size : length c.args.polys.now.items ≡ length c.loop-i.polys.items = ap length (sym inv.polys) in
    with_push c.args.polys.now.items _ c.args.p c.requires (λ j l. inv.before j (omega (arith, l, size)))
    (c.in_ok-push.ensures.items ∙ ap₂ (λ xs x. xs ++ x ∷ []) inv.polys inv.same)
