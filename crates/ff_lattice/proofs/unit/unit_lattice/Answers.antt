use Rattle.std.proofs.Common.{◌∙◌, [], sym, ap, subst, All}
use Rattle.ff_fields.specs.Over.{IsOver, IsOver_cons, IsOver_nil}
use Rattle.ff_poly.specs.Popov.{rows_of, IsRow, IsPopovMatrix}
use Rattle.ff_lattice.specs.Steps.{IsReducedTo}
use Rattle.ff_lattice.proofs.Results.{ok_from_both}
use Rattle.ff_lattice.proofs.UnitRows.{unit_popov, unit_rows_in, units_spanned}
use Rattle.ff_lattice.proofs.unit.unit_lattice.Goals as goal

pub normalized-requires-clause-rows_in : goal.normalized-requires-clause-rows_in
normalized-requires-clause-rows_in g c =
    let k = g.K.SmallField.field c.args.k.now in
    subst (All (IsRow k.ops c.args.n)) (sym (ap rows_of c.deref.ensures.value ∙ c.in_ok-rows.ensures))
    (unit_rows_in k c.args.n)

pub normalized-requires-clause-popov : goal.normalized-requires-clause-popov
normalized-requires-clause-popov g c =
    subst (IsPopovMatrix c.args.n) (sym (ap rows_of c.deref.ensures.value ∙ c.in_ok-rows.ensures)) (unit_popov c.args.n)

pub normalized-requires-clause-e_in : goal.normalized-requires-clause-e_in
normalized-requires-clause-e_in g c =
    let k = g.K.SmallField.field c.args.k.now in
    subst (IsOver k.ops) (sym c.in_ok-one.ensures) (IsOver_cons k.laws.one_below IsOver_nil)

pub normalized-requires-clause-e_monic : goal.normalized-requires-clause-e_monic
normalized-requires-clause-e_monic g c = ([], c.in_ok-one.ensures)

pub returns-clause-members : goal.returns-clause-members
returns-clause-members g c =
    let k = g.K.SmallField.field c.args.k.now in
    ok_from_both c.normalized.result
    (λ l form reduced.
    units_spanned k c.args.n (rows_of c.deref.result.now) l (ap rows_of c.deref.ensures.value ∙ c.in_ok-rows.ensures)
    form
    (subst (λ d. IsReducedTo k.ops (rows_of c.deref.result.now) d l) c.in_ok-one.ensures reduced))
    c.normalized.ensures.form c.normalized.ensures.reduced
