use Rattle.std.proofs.Common.{◌≡◌, ◌≤◌, sym, subst, ◌∙◌, arith}
use Rattle.std.proofs.lemmas.Result.{IfOk-weaker}
use Rattle.function_field.specs.Values.{IsElem, function_of}
use Rattle.ff_lattice.specs.Lattices.{IsLatticeValue}
use Rattle.ff_infinite.proofs.LocalMembers.{local_members}
use Rattle.ff_infinite.proofs.local.local_contains.Goals as goal

pub contains-requires-clause-a_form : goal.contains-requires-clause-a_form
contains-requires-clause-a_form g c =
    let k = g.K.SmallField.field c.args.k.now in
    subst (λ n. IsLatticeValue k.ops n c.args.l.now) (sym c.requires.l_form.popov.size) c.requires.l_form

pub contains-requires-clause-z_in : goal.contains-requires-clause-z_in
contains-requires-clause-z_in g c =
    let k = g.K.SmallField.field c.args.k.now in
    subst (λ n. IsElem k.ops n c.in_ok-freed.freed)
    (c.in_ok-w.ensures.in_range.one_each ∙ sym c.requires.l_form.popov.size) c.in_ok-freed.ensures.in_range

pub returns : goal.returns
returns g c =
    let k = g.K.SmallField.field c.args.k.now in
    let p = c.args.c.now.fin in
    let q = c.args.c.now.inf in
    let two = c.requires.curve.at_least_two in
    let same : q.n ≡ p.n = c.requires.curve.infinite.degree in
    let some : 1 ≤ p.n = omega (arith, two) in
    let positive : 1 ≤ q.n = omega (arith, two, same) in
    IfOk-weaker c.contains.result _ _
    (λ r decided.
    local_members k p q c.args.c.now.c c.requires.curve.infinite some c.args.l.now c.requires.l_form c.requires.tame
    (function_of k p c.args.z.now)
    c.in_ok-w.w c.in_ok-freed.freed c.in_ok-w.ensures.in_range c.in_ok-w.ensures.monic c.in_ok-w.ensures.same_function
    c.in_ok-freed.ensures.freed r
    (decided q positive (sym c.requires.l_form.popov.size)))
    c.contains.ensures
