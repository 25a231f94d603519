use Rattle.std.proofs.Common.{subst, inl, inr}
use Rattle.std.proofs.lemmas.Result.{err_from_is_err_and}
use Rattle.function_field.specs.Limits.{max_degree}
use Rattle.ff_meaning.specs.Refusals.{IsElementRow}
use Rattle.ff_meaning.specs.Elements.{IsElementRead}
use Rattle.ff_session.proofs.Products.{product_read}
use Rattle.ff_session.proofs.statements.mul.product.Goals as goal

pub returns-in_err-left-clause-refused : goal.returns-in_err-left-clause-refused
returns-in_err-left-clause-refused g c =
    let k = g.K.SmallField.field c.args.k.now in
    let e = err_from_is_err_and c.from_residual.result c.from_residual.ensures.1 in
    rw (e.1, e.2) (λ some. inl (subst (λ n. IsElementRow k.ops n max_degree c.args.a.now c.in_err-left.field-0.0)
    c.n.ensures.n (c.in_err-left.ensures.refused some)))

pub returns-in_err-right-clause-refused : goal.returns-in_err-right-clause-refused
returns-in_err-right-clause-refused g c =
    let k = g.K.SmallField.field c.args.k.now in
    let e = err_from_is_err_and c.from_residual-in_err-right.result c.from_residual-in_err-right.ensures.1 in
    let read = subst (λ n. IsElementRead k n max_degree c.args.a.now c.in_ok-left.left) c.n.ensures.n
    c.in_ok-left.ensures.read in
    rw (e.1, e.2) (λ some. inr (
      read.within,
      subst
          (λ n. IsElementRow k.ops n max_degree c.args.b.now c.in_err-right.field-0.0) c.n-2.ensures.n
          (c.in_err-right.ensures.refused some),
    ))

pub returns-clause-product : goal.returns-clause-product
returns-clause-product g c =
    let k = g.K.SmallField.field c.args.k.now in
    product_read k c.args.f.now c.args.a.now c.args.b.now c.in_ok-left.left c.in_ok-right.right c.in_ok-z.z
    c.in_ok-in_lowest_terms_by.field-0
    (subst (λ n. IsElementRead k n max_degree c.args.a.now c.in_ok-left.left) c.n.ensures.n c.in_ok-left.ensures.read)
    (subst (λ n. IsElementRead k n max_degree c.args.b.now c.in_ok-right.right) c.n-2.ensures.n
    c.in_ok-right.ensures.read)
    c.in_ok-z.ensures.product c.in_ok-in_lowest_terms_by.ensures
