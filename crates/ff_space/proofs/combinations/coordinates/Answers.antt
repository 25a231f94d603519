use Rattle.std.proofs.Common.{List, ℕ, sym, subst}
use Rattle.std.specs.Prelude.{Option, MatchOption, IfOk}
use Rattle.std.specs.Global.{Vec}
use Rattle.ff_linalg.specs.Space.{HasNoSolution, IsSolution}
use Rattle.ff_space.specs.Spaces.{SpaceValue}
use Rattle.ff_space.specs.Steps.{HasNoVectorOver, IsVectorOver}
use Rattle.ff_space.proofs.CoordinateLists.{outside_of_all, coordinates_of_solve}
use Rattle.ff_space.proofs.combinations.coordinates.Goals as goal

pub returns-in-None : goal.returns-in-None
returns-in-None g c =
    let k = g.K.SmallField.field c.args.k.now in
    let z = c.args.z.now in
    let none = subst
    (λ (o : Option (Vec ℕ)). MatchOption o (HasNoVectorOver k z c.s.inside.den c.s.inside.width)
    (λ v. IsVectorOver k z c.s.inside.den c.s.inside.width v.items)) c.in-None.is c.in_ok-vector_over.ensures in
    outside_of_all k c.args.p.now c.requires.positive c.args.s.now c.requires.form z (sym c.requires.z_in.one_each)
    (subst (λ (s : SpaceValue). HasNoVectorOver k z s.den s.width) c.s.view_is none)

pub returns-in-Some : goal.returns-in-Some
returns-in-Some g c =
    let k = g.K.SmallField.field c.args.k.now in
    let z = c.args.z.now in
    let v = c.in-Some.v.items in
    let some = subst
    (λ (o : Option (Vec ℕ)). MatchOption o (HasNoVectorOver k z c.s.inside.den c.s.inside.width)
    (λ v. IsVectorOver k z c.s.inside.den c.s.inside.width v.items)) c.in-Some.is c.in_ok-vector_over.ensures in
    coordinates_of_solve k c.args.p.now c.requires.positive c.args.s.now c.requires.form z
    (sym c.requires.z_in.one_each) v (subst (λ (s : SpaceValue). IsVectorOver k z s.den s.width v) c.s.view_is some)
    c.solve.result
    (subst
    (λ (s : SpaceValue). IfOk c.solve.result (λ o. MatchOption o (HasNoSolution k.ops s.rows v)
    (λ x. IsSolution k.ops s.rows v x.items)))
    c.s.view_is
    (subst
    (λ (b : List ℕ). IfOk c.solve.result
    (λ o. MatchOption o (HasNoSolution k.ops c.s.inside.rows b) (λ x. IsSolution k.ops c.s.inside.rows b x.items)))
    c.as_slice.ensures.value c.solve.ensures))
