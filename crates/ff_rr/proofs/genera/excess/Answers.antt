use Rattle.std.proofs.Common.{◌∙◌, ◌≤ℤ◌, pos, get_or, sym, ap, subst, arith}
use Rattle.std.proofs.Math.IntN.{◌-ℤ◌}
use Rattle.reduced_basis_theory.specs.Degree.{size}
use Rattle.ff_rr.proofs.GenusSums.{member_small, excess_more, excess_small, read_is}
use Rattle.ff_rr.proofs.genera.excess.Goals as goal

pub loop-d-preserved : goal.loop-d-preserved
loop-d-preserved c =
    excess_more c.args.degrees.now c.requires.nonnegative c.requires.small c.loop-d.d-index c.loop-d.sum
    c.less_one-sum.result c.loop-d-test.true c.loop-d.invariant
    (c.less_one-sum.ensures ∙ ap (λ d. size (d -ℤ pos 2))
    (read_is (get_or c.args.degrees.now c.loop-d.d-index (pos 0))
    (c.requires.nonnegative c.loop-d.d-index (pos 0) c.loop-d-test.true)
    (member_small c.args.degrees.now c.requires.nonnegative c.requires.small c.loop-d.d-index c.loop-d-test.true)))

pub overflow_add-sum : goal.overflow_add-sum
overflow_add-sum c =
    let s =
    excess_small c.args.degrees.now c.requires.nonnegative c.requires.small c.loop-d.d-index c.loop-d.sum
    c.less_one-sum.result c.loop-d-test.true c.loop-d.invariant
    (c.less_one-sum.ensures ∙ ap (λ d. size (d -ℤ pos 2))
    (read_is (get_or c.args.degrees.now c.loop-d.d-index (pos 0))
    (c.requires.nonnegative c.loop-d.d-index (pos 0) c.loop-d-test.true)
    (member_small c.args.degrees.now c.requires.nonnegative c.requires.small c.loop-d.d-index c.loop-d-test.true))) in
    omega (arith, s)

pub less_one-sum-requires-clause-small : goal.less_one-sum-requires-clause-small
less_one-sum-requires-clause-small c =
    let l =
    member_small c.args.degrees.now c.requires.nonnegative c.requires.small c.loop-d.d-index c.loop-d-test.true in
    subst (λ d. d ≤ℤ pos 112)
    (sym (read_is (get_or c.args.degrees.now c.loop-d.d-index (pos 0))
    (c.requires.nonnegative c.loop-d.d-index (pos 0) c.loop-d-test.true) l)) l
