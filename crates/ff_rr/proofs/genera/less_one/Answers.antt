use Rattle.std.proofs.Common.{refl, sym, arith, pos, ◌≤ℤ◌}
use Rattle.std.proofs.lemmas.Int.{ints}
use Rattle.ff_rr.proofs.GenusSums.{excess_is, less_is}
use Rattle.ff_rr.proofs.genera.less_one.Goals as goal

pub returns-then-d-gt1 : goal.returns-then-d-gt1
returns-then-d-gt1 c =
    let h : pos 2 ≤ℤ c.args.d = omega (arith, ints, c.if-d-gt1.true) in
    less_is c.args.d h c.requires.small

pub returns-else-d-gt1 : goal.returns-else-d-gt1
returns-else-d-gt1 c =
    let h : c.args.d ≤ℤ pos 1 = omega (arith, ints, c.if-d-gt1.false) in
    sym (excess_is c.args.d 0 (λ l. omega (arith, ints, h, l)) (λ l. refl))
