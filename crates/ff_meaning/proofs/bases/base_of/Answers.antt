use Rattle.std.proofs.Common.{sym, subst}
use Rattle.std.proofs.lemmas.Result.{err_from_is_err_and}
use Rattle.function_field.specs.declared.side.Side.TheVariants.{Finite}
use Rattle.function_field.specs.Limits.{max_degree_of_places}
use Rattle.ff_meaning.specs.Refusals.{IsBaseRow}
use Rattle.ff_meaning.specs.Bases.{IsBaseRead}
use Rattle.ff_meaning.proofs.BaseRows.{base_read}
use Rattle.ff_meaning.proofs.bases.base_of.Goals as goal

pub returns-in_err-p-in-At-clause-refused : goal.returns-in_err-p-in-At-clause-refused
returns-in_err-p-in-At-clause-refused g c =
    let k = (g.K.SmallField.field c.args.k.now).ops in
    let p = err_from_is_err_and c.from_residual.result c.from_residual.ensures.1 in
    rw (p.1, p.2)
    (λ some. subst (λ o. IsBaseRow k c.args.n max_degree_of_places o c.in_err-p-in-At.field-0.0) (sym c.in-At.is)
    (c.in_err-p-in-At.ensures.refused some))

pub returns-in_ok-p-in-At-clause-base : goal.returns-in_ok-p-in-At-clause-base
returns-in_ok-p-in-At-clause-base g c =
    let k = (g.K.SmallField.field c.args.k.now).ops in
    let p = c.in_ok-p-in-At.p in
    subst (λ o. IsBaseRead k c.args.n o Finite p) (sym c.in-At.is)
    (base_read k c.args.n c.in-At.terms p c.in_ok-p-in-At.ensures.read c.in_ok-p-in-At.ensures.irreducible)
