use Rattle.std.proofs.Common.{◌≤◌, ◌↔◌, [], ◌∷◌, sym, subst}
use Rattle.function_field.specs.Values.{Functions}
use Rattle.ff_lattice.specs.Lattices.{Contains, IsScaled}
use Rattle.ff_lattice.proofs.Results.{members_through}
use Rattle.ff_lattice.proofs.ColonSets.{colon_is}
use Rattle.ff_lattice.proofs.colons.colon.Goals as goal

pub scale-requires-clause-some : goal.scale-requires-clause-some
scale-requires-clause-some g c = subst (λ n. 1 ≤ n) (sym c.requires.a_form.popov.size) c.n.ensures.range.positive

pub returns-clause-members : goal.returns-clause-members
returns-clause-members g c =
    let k = g.K.SmallField.field c.args.k.now in
    let p = c.args.p.now in
    let a = c.args.a.now in
    let start_is : (z : Functions k p) → Contains k p c.in_ok-start.start z
    ↔ IsScaled k p (1 ∷ []) c.in_ok-h.h (Contains k p a) z
    = subst (λ one. (z : Functions k p) → Contains k p c.in_ok-start.start z
    ↔ IsScaled k p one c.in_ok-h.h (Contains k p a) z) c.in_ok-one.ensures
    (c.in_ok-start.ensures.members p (sym c.requires.a_form.popov.size)) in
    members_through k p c.restricted_by_rows.result
    (colon_is k p a c.args.b.now c.in_ok-h.h c.in_ok-start.start (c.in_ok-h.ensures.inside p (sym c.n.ensures.n))
    start_is)
    c.restricted_by_rows.ensures.members
