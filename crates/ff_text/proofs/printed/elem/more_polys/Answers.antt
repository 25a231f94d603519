use Rattle.std.proofs.Common.{◌≡◌, ◌++◌, ◌∷◌, []}
use Rattle.std.proofs.lemmas.Result.{err_from_is_err_and}
use Rattle.ff_text.proofs.PrintedNumerators.{front_ended, front_more, front_stopped, polys_shorter}
use Rattle.ff_text.proofs.printed.elem.more_polys.Goals as goal

pub returns-in_err-p : goal.returns-in_err-p
returns-in_err-p c =
    let p = err_from_is_err_and c.from_residual.result c.from_residual.ensures.1 in
    rw (p.1, p.2) (front_stopped c.in_err-p.field-0.0 c.loop-start.polys.items c.loop-start.rest.now c.in-Some.start.now
    _ c.in-Some.ensures c.in_err-p.ensures c.loop-start.invariant)

pub loop-start-smaller : goal.loop-start-smaller
loop-start-smaller c = polys_shorter c.loop-start.rest.now c.in-Some.start.now c.in_ok-p.p c.in_ok-p.behind.now
    c.in-Some.ensures c.in_ok-p.ensures

pub loop-start-preserved : goal.loop-start-preserved
loop-start-preserved c =
    let pushed : c.push.new.self.items ≡ c.loop-start.polys.items ++ c.in_ok-p.p ∷ [] = c.in_ok-push.ensures.items in
    rw pushed (front_more c.loop-start.polys.items c.loop-start.rest.now c.in-Some.start.now c.in_ok-p.p
    c.in_ok-p.behind.now _ c.in-Some.ensures c.in_ok-p.ensures c.loop-start.invariant)

pub returns : goal.returns
returns c = front_ended c.loop-start.polys.items c.loop-start.rest.now _ c.in_default.ensures c.loop-start.invariant
