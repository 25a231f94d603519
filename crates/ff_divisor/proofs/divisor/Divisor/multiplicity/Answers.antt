use Rattle.std.proofs.Common.{rules, ◌<◌, FitsSigned, length, w64, ap, ◌∙◌}
use Rattle.std.proofs.lemmas.Int.{to_z-of_z}
use Rattle.std.proofs.lemmas.List.Sorted.{answers_always}
use Rattle.ff_divisor.specs.FormalSums.{multiplicity}
use Rattle.ff_divisor.proofs.Searches.{found, not_found}
use Rattle.ff_divisor.proofs.divisor.Divisor.multiplicity.Goals as goal

pub returns-in-Ok : goal.returns-in-Ok
returns-in-Ok c =
    let p = c.args.place in
    let items = c.self.inside.list.items in
    let by_place = c.in-Ok.ensures.position (λ e. e.0) (answers_always _ _ _ (λ f a r g called. search rules)) in
    let less : c.in-Ok.at < length items = rw (ap length c.deref.ensures.value) at c.in-Ok.ensures.bound in
    let fits : FitsSigned w64 c.index.result.now.1 = search rules in
    to_z-of_z w64 c.index.result.now.1 fits
    ∙ found p items c.self.invariant c.in-Ok.at c.index.result.now less
    (rw c.deref.ensures.value at by_place) c.index.ensures
    ∙ ap (multiplicity p) c.self.view_is

pub returns-in-Err : goal.returns-in-Err
returns-in-Err c =
    let p = c.args.place in
    let by_place = c.in-Err.ensures.position (λ e. e.0) (answers_always _ _ _ (λ f a r g called. search rules)) in
    not_found p c.self.inside.list.items c.self.invariant c.in-Err.field-0 (rw c.deref.ensures.value at by_place)
    ∙ ap (multiplicity p) c.self.view_is
