use Rattle.std.proofs.Common.{◌≡◌, ◌-◌, length, get_or, arith, sym, ap, ◌∙◌}
use Rattle.std.proofs.lemmas.List.{get_or_read}
use Rattle.ff_poly.proofs.poly.Poly.top.Goals as goal
use Rattle.ff_poly.proofs.Quotients.{top_some}

pub returns-clause-not_zero : goal.returns-clause-not_zero
returns-clause-not_zero c =
    let some = top_some c.self.inside.codes.items c.self.invariant (λ e. c.requires (sym c.self.view_is ∙ e)) in
    let last : c.len.result - 1 ≡ length c.self.inside.codes.items - 1 = omega arith in
    let read = get_or_read c.self.inside.codes.items (c.len.result - 1) _ (omega (arith, some.0)) c.index.ensures 0 in
    λ e. some.1 (ap (λ n. get_or c.self.inside.codes.items n 0) (sym last) ∙ sym read ∙ e)
