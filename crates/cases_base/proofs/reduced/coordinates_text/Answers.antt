use Rattle.std.proofs.Common.{◌∙◌, length, sym, subst, ap}
use Rattle.std.specs.Prelude.{All}
use Rattle.ff_fields.specs.Over.{IsOver}
use Rattle.ff_poly.specs.Popov.{rows_of, IsRow, IsPopovMatrix}
use Rattle.cases_base.proofs.reduced.coordinates_text.Goals as goal

pub coordinates-requires-clause-basis_in : goal.coordinates-requires-clause-basis_in
coordinates-requires-clause-basis_in g c =
    let k = g.K.SmallField.field c.args.k.now in
    subst (λ vs. All (IsRow k.ops (length c.as_slice-2.result.now)) (rows_of vs)) (sym c.as_slice.ensures.value)
    (subst (λ n. All (IsRow k.ops n) (rows_of c.args.basis.now.items))
    (sym (ap length c.as_slice-2.ensures.value ∙ c.requires.v_in.size)) c.requires.basis_in)

pub coordinates-requires-clause-popov : goal.coordinates-requires-clause-popov
coordinates-requires-clause-popov g c =
    subst (λ vs. IsPopovMatrix (length c.as_slice-2.result.now) (rows_of vs)) (sym c.as_slice.ensures.value)
    (subst (λ n. IsPopovMatrix n (rows_of c.args.basis.now.items))
    (sym (ap length c.as_slice-2.ensures.value ∙ c.requires.v_in.size)) c.requires.popov)

pub coordinates-requires-clause-v_in : goal.coordinates-requires-clause-v_in
coordinates-requires-clause-v_in g c = subst (All (IsOver (g.K.SmallField.field c.args.k.now).ops))
    (sym c.as_slice-2.ensures.value) c.requires.v_in.over
