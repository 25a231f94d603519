use Rattle.std.proofs.Common.{ℕ, ◌<◌, sym, subst}
use Rattle.std.specs.Prelude.{MatchOption}
use Rattle.ff_poly.specs.Popov.{rows_of}
use Rattle.ff_popov.specs.Rows.{IsMissing, IsOwners, IsPopovRows}
use Rattle.ff_popov.proofs.basis.basis_of.Goals as goal
use Rattle.ff_popov.proofs.OwnerBasis.{basis_is}

pub returns-in_ok-basis-in-Some : goal.returns-in_ok-basis-in-Some
returns-in_ok-basis-in-Some g c =
    let k = g.K.SmallField.field c.args.k.now in
    let found =
    subst (λ f. MatchOption f ((j : ℕ) × (j < c.args.width) × IsMissing (rows_of c.args.rows.now) j)
    (λ v. IsOwners c.args.width (rows_of c.args.rows.now) v.items)) c.in-Some.is c.in_ok-owners.ensures in
    let owners = subst (IsOwners c.args.width (rows_of c.args.rows.now)) (sym c.deref.ensures.value) found in
    basis_is k c.args.width (rows_of c.args.rows.now) c.deref.result.now c.requires.rows_in c.requires.weak owners
    (rows_of c.in_ok-basis-in-Some.basis.items) c.requires.positive
    (subst (λ n. IsPopovRows k n (rows_of c.args.rows.now) c.deref.result.now n
    (rows_of c.in_ok-basis-in-Some.basis.items)) owners.size c.in_ok-basis-in-Some.ensures)
