use Rattle.std.proofs.Common.{subst}
use Rattle.std.specs.Prelude.{All, MatchOption}
use Rattle.ff_poly.specs.Popov.{rows_of, IsRow, IsPopovMatrix, HaveSameRowSpan, HasFullRankMatrix}
use Rattle.ff_lattice.specs.Steps.{IsReducedTo}
use Rattle.ff_lattice.proofs.SpannedSets.{rows_spanned}
use Rattle.ff_lattice.proofs.lattice.from_rows.Goals as goal

pub returns-in_ok-normalized-in-Some-clause-members : goal.returns-in_ok-normalized-in-Some-clause-members
returns-in_ok-normalized-in-Some-clause-members g c =
    let k = g.K.SmallField.field c.args.k.now in
    let rows = rows_of c.args.rows.items in
    let n = c.args.n in
    let l = c.in_ok-normalized-in-Some.field-0 in
    let found =
    subst (λ f. MatchOption f (¬ HasFullRankMatrix k.ops n rows)
    (λ basis. IsPopovMatrix n (rows_of basis.items) × All (IsRow k.ops n) (rows_of basis.items)
    × HaveSameRowSpan k.ops n rows (rows_of basis.items)))
    c.in-Some.is c.in_ok-popov.ensures in
    rows_spanned k n rows (rows_of c.in-Some.basis.items) c.args.e.now l c.requires.rows_in c.requires.rows_poly found.1
    found.0 found.2 c.requires.e_in c.requires.e_monic
    c.in_ok-normalized-in-Some.ensures.form
    (subst (λ vs. IsReducedTo k.ops (rows_of vs) c.args.e.now l) c.deref.ensures.value
    c.in_ok-normalized-in-Some.ensures.reduced)
