use Rattle.std.proofs.Common.{refl, subst}
use Rattle.std.specs.Prelude.{MatchOption}
use Rattle.std.proofs.lemmas.Result.{err_from_is_err_and}
use Rattle.ff_poly.specs.Words.{IsIrreducibleList}
use Rattle.function_field.specs.Limits.{max_degree_of_places}
use Rattle.ff_meaning.specs.Refusals.{IsReducible, reducible}
use Rattle.ff_meaning.proofs.BaseRows.{refused_row}
use Rattle.ff_meaning.proofs.bases.irreducible.Goals as goal

pub returns-in_err-p-clause-refused : goal.returns-in_err-p-clause-refused
returns-in_err-p-clause-refused g c =
    let k = (g.K.SmallField.field c.args.k.now).ops in
    let p = err_from_is_err_and c.from_residual.result c.from_residual.ensures.1 in
    rw (p.1, p.2)
    (λ some. refused_row k c.args.n max_degree_of_places c.args.terms.now c.in_err-p.field-0.0
    (c.in_err-p.ensures.refused some))

pub returns-in-Some-clause-refused : goal.returns-in-Some-clause-refused
returns-in-Some-clause-refused g c = λ some.
    let k = (g.K.SmallField.field c.args.k.now).ops in
    let p = c.in_ok-p.p in
    let read = c.in_ok-p.ensures.read in
    let why : IsReducible k p c.in-Some.h
    = subst (λ o. MatchOption o (IsIrreducibleList k p) (IsReducible k p)) c.in-Some.is c.in_ok-h.ensures in
    reducible p read.is read.small c.in-Some.h why refl
