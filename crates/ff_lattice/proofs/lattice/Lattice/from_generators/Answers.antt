use Rattle.std.proofs.Common.{subst, sym, All}
use Rattle.std.specs.Prelude.{MatchOption, IfSome}
use Rattle.ff_poly.specs.Popov.{rows_of, IsRow, HasFullRankMatrix}
use Rattle.ff_lattice.specs.Lattices.{IsLatticeValue, IsSpannedBy, elems_over}
use Rattle.ff_lattice.specs.Steps.{IsExpanded}
use Rattle.ff_lattice.proofs.CommonDenominators.{expanded_rows, expanded_poly, gens_set, gens_not_full}
use Rattle.ff_lattice.proofs.SpannedSets.{lattice_full}
use Rattle.ff_lattice.proofs.lattice.Lattice.from_generators.Goals as goal

pub from_rows-requires-clause-rows_in : goal.from_rows-requires-clause-rows_in
from_rows-requires-clause-rows_in g c =
    let k = g.K.SmallField.field c.args.k.now in
    let p = c.args.p.now in
    let rows = rows_of c.in_ok-rows.rows.items in
    let expanded = subst (λ n. IsExpanded k.ops n c.in_ok-e.e c.args.gens.now rows) c.n-2.ensures.n c.in_ok-rows.ensures
    in
    subst (λ n. All (IsRow k.ops n) rows) (sym c.n-3.ensures.n)
    (expanded_rows k p.n c.in_ok-e.e c.in_ok-e.ensures.over c.in_ok-e.ensures.monic c.args.gens.now rows c.requires
    expanded)

pub from_rows-requires-clause-rows_poly : goal.from_rows-requires-clause-rows_poly
from_rows-requires-clause-rows_poly g c =
    let k = g.K.SmallField.field c.args.k.now in
    let p = c.args.p.now in
    let rows = rows_of c.in_ok-rows.rows.items in
    let expanded = subst (λ n. IsExpanded k.ops n c.in_ok-e.e c.args.gens.now rows) c.n-2.ensures.n c.in_ok-rows.ensures
    in
    expanded_poly k p.n c.in_ok-e.e c.in_ok-e.ensures.over c.in_ok-e.ensures.monic c.args.gens.now rows c.requires
    expanded

pub returns-in-None-clause-not_full : goal.returns-in-None-clause-not_full
returns-in-None-clause-not_full g c =
    let k = g.K.SmallField.field c.args.k.now in
    let p = c.args.p.now in
    let rows = rows_of c.in_ok-rows.rows.items in
    let expanded = subst (λ n. IsExpanded k.ops n c.in_ok-e.e c.args.gens.now rows) c.n-2.ensures.n c.in_ok-rows.ensures
    in
    let found = subst (λ f. MatchOption f (¬ HasFullRankMatrix k.ops c.n-3.result rows) (IsLatticeValue k.ops c.n-3.result))
    c.in-None.is c.in_ok-from_rows.ensures.form in
    λ _. gens_not_full k p c.args.gens.now c.in_ok-e.e rows c.requires c.in_ok-e.ensures.over c.in_ok-e.ensures.monic
    expanded
    (subst (λ n. ¬ HasFullRankMatrix k.ops n rows) c.n-3.ensures.n found)

pub returns-clause-members : goal.returns-clause-members
returns-clause-members g c =
    let k = g.K.SmallField.field c.args.k.now in
    let p = c.args.p.now in
    let rows = rows_of c.in_ok-rows.rows.items in
    let expanded = subst (λ n. IsExpanded k.ops n c.in_ok-e.e c.args.gens.now rows) c.n-2.ensures.n c.in_ok-rows.ensures
    in
    let spanned = subst (λ f. IfSome f (IsSpannedBy k c.n-3.result (elems_over rows c.in_ok-e.e))) c.in-Some.is
    c.in_ok-from_rows.ensures.members in
    gens_set k p c.args.gens.now c.in_ok-e.e rows c.requires c.in_ok-e.ensures.over c.in_ok-e.ensures.monic expanded
    c.in-Some.lattice
    (subst (λ n. IsSpannedBy k n (elems_over rows c.in_ok-e.e) c.in-Some.lattice) c.n-3.ensures.n spanned)

pub returns-clause-full : goal.returns-clause-full
returns-clause-full g c =
    let k = g.K.SmallField.field c.args.k.now in
    let p = c.args.p.now in
    let rows = rows_of c.in_ok-rows.rows.items in
    let expanded = subst (λ n. IsExpanded k.ops n c.in_ok-e.e c.args.gens.now rows) c.n-2.ensures.n c.in_ok-rows.ensures
    in
    let found = subst (λ f. MatchOption f (¬ HasFullRankMatrix k.ops c.n-3.result rows) (IsLatticeValue k.ops c.n-3.result))
    c.in-Some.is c.in_ok-from_rows.ensures.form in
    let form = subst (λ n. IsLatticeValue k.ops n c.in-Some.lattice) c.n-3.ensures.n found in
    lattice_full k p c.in-Some.lattice c.n.ensures.range.positive form
