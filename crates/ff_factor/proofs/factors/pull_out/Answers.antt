use Rattle.std.proofs.Common.{refl}
use Rattle.ff_factor.proofs.PullSteps.{pulling_start, pulling_step, pulling_shorter, pulled_out}
use Rattle.ff_factor.proofs.Orders.{not_so}
use Rattle.ff_factor.proofs.factors.pull_out.Goals as goal

pub pull-init : goal.pull-init
pull-init g c =
    let k = g.K.SmallField.field c.args.k.now in
    pulling_start k c.args.g.now c.args.p.now c.in_ok-rest.rest 0 c.requires.g_in c.requires.g_poly c.requires.g_some
    c.in_ok-rest.ensures refl

pub returns-then-not-is_zero : goal.returns-then-not-is_zero
returns-then-not-is_zero g c =
    let k = g.K.SmallField.field c.args.k.now in
    pulled_out k c.args.g.now c.args.p.now c.pull.rest c.in_ok-quotient.quotient c.in_ok-quotient.left c.pull.count
    c.requires.p_in c.requires.p_poly c.requires.not_constant
    c.pull.invariant c.in_ok-quotient.ensures (λ e. not_so (c.if-not-is_zero.ensures.1 e))

pub pull-smaller : goal.pull-smaller
pull-smaller g c =
    let k = g.K.SmallField.field c.args.k.now in
    pulling_shorter k c.args.g.now c.args.p.now c.pull.rest c.in_ok-quotient.quotient c.in_ok-quotient.left c.pull.count
    c.requires.p_in c.requires.p_poly c.requires.not_constant
    c.pull.invariant c.in_ok-quotient.ensures (c.if-not-is_zero.ensures.0 refl)

pub pull-preserved : goal.pull-preserved
pull-preserved g c =
    let k = g.K.SmallField.field c.args.k.now in
    pulling_step k c.args.g.now c.args.p.now c.pull.rest c.in_ok-quotient.quotient c.in_ok-quotient.left c.pull.count _
    c.requires.p_in c.pull.invariant
    c.in_ok-quotient.ensures (c.if-not-is_zero.ensures.0 refl) refl
