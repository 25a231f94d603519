use Rattle.std.proofs.Common.{ap, subst}
use Rattle.ff_session.specs.Bound.{MayTake}
use Rattle.ff_session.proofs.BoundBindings.{sound_curve}
use Rattle.ff_session.proofs.bindings.Bindings.take.Goals as goal

pub invariant_of-self-in-Curve-2 : goal.invariant_of-self-in-Curve-2
invariant_of-self-in-Curve-2 c =
    let may = subst (MayTake c.args.self.now) c.in-Curve.is c.requires in
    sound_curve c.self.inside.field c.args.self.now (record { over = c.in-Curve.over; names = c.new-names.result })
    (ap (λ v. v.field) c.self.view_is) may.1
