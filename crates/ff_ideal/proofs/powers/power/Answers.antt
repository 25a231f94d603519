use Rattle.std.proofs.Common.{◌≡◌, ◌↔◌, ◌∙◌, ap, subst, arith}
use Rattle.std.proofs.lemmas.Int.{ints, to_z-of_z}
use Rattle.std.specs.Prelude.{IfOk, pos, ◌<ℤ◌, unsigned_abs}
use mir.Syntax.{w64}
use Rattle.function_field.specs.Values.{Functions, functions}
use Rattle.prime_theory.specs.Ideals.{Power}
use Rattle.ff_lattice.specs.Lattices.{Contains}
use Rattle.ff_lattice.proofs.Results.{members_through, ok_through}
use Rattle.ff_ideal.proofs.LatticeIdeals.{inverse_closed, at_zero, below_zero}
use Rattle.ff_ideal.proofs.powers.power.Goals as goal

pub positive_power-requires-then-m-lt0-clause-closed : goal.positive_power-requires-then-m-lt0-clause-closed
positive_power-requires-then-m-lt0-clause-closed g c =
    inverse_closed (g.K.SmallField.field c.args.k.now) c.args.p.now c.n-degree.ensures.range.positive c.args.o.now
    c.requires.order c.args.i.now c.requires.closed c.in_ok-j.j c.in_ok-j.ensures.members

pub returns-then-m-lt0-clause-members : goal.returns-then-m-lt0-clause-members
returns-then-m-lt0-clause-members g c =
    let k = g.K.SmallField.field c.args.k.now in
    let p = c.args.p.now in
    let o = c.args.o.now in
    let j = c.in_ok-j.j in
    let less : c.args.m <ℤ pos 0 = grind (arith, ints) in
    let size = c.unsigned_abs-then-m-lt0.ensures.value ∙ ap unsigned_abs (to_z-of_z w64 c.args.m c.ranges.m) in
    members_through k p c.positive_power-then-m-lt0.result
    (below_zero k p c.n-degree.ensures.range.positive o c.requires.order c.args.i.now c.requires.closed j
    c.in_ok-j.ensures.members c.args.m less)
    (subst (λ n. IfOk c.positive_power-then-m-lt0.result (λ l. (z : Functions k p) → Contains k p l z
    ↔ Power (functions k p).ops (Contains k p o) (Contains k p j) n z)) size
    c.positive_power-then-m-lt0.ensures.members)

pub returns-clause-members : goal.returns-clause-members
returns-clause-members g c =
    let k = g.K.SmallField.field c.args.k.now in
    let none : c.args.m ≡ pos 0 = grind (arith, ints) in
    ok_through c.copy.result
    (λ l e. at_zero k c.args.p.now c.n-degree.ensures.range.positive c.args.o.now c.requires.order c.args.i.now
    c.requires.closed c.args.m none l (e ∙ c.lattice.ensures))
    c.copy.ensures
