use Rattle.std.proofs.Common.{◌≡◌, ◌*◌, ℕ, List, ap, ◌∙◌, subst, arith, mul_comm}
use Rattle.ff_algebra.specs.CurveTerms.{IsCoefficient, degree_in_x}
use Rattle.function_field.specs.Limits.{max_degree_of_places}
use Rattle.ff_meaning.proofs.BaseRows.{too_great, polynomial_read}
use Rattle.ff_meaning.proofs.bases.bounded.Goals as goal

pub returns-then-degree-from-clause-refused : goal.returns-then-degree-from-clause-refused
returns-then-degree-from-clause-refused g c = λ some.
    let k = g.K.SmallField.field c.args.k.now in
    let degree : c.degree_in_x.result ≡ degree_in_x c.in_ok-sum.sum
    = c.degree_in_x.ensures ∙ ap degree_in_x c.list.ensures.list in
    let product = c.in-Some.ensures in
    too_great k c.args.terms.now c.requires.writable c.in_ok-sum.sum c.in_ok-sum.ensures.sum c.args.n
    max_degree_of_places c.in-Some.degree
    (product.1 ∙ mul_comm c.degree_in_x.result c.args.n ∙ ap (λ i. c.args.n * i) degree) (omega arith)

pub returns-clause-read : goal.returns-clause-read
returns-clause-read g c =
    let k = g.K.SmallField.field c.args.k.now in
    let sum = c.in_ok-sum.sum in
    let degree : c.degree_in_x.result ≡ degree_in_x sum = c.degree_in_x.ensures ∙ ap degree_in_x c.list.ensures.list in
    let product = c.in-Some.ensures in
    let p = c.in_ok-polynomial.field-0 in
    let coefficient : IsCoefficient k.ops sum 0 p = subst (λ (s : List (ℕ × ℕ × ℕ)). IsCoefficient k.ops s 0 p)
    c.list-2.ensures.list c.in_ok-polynomial.ensures.coefficient in
    polynomial_read k c.args.terms.now c.requires.writable sum c.in_ok-sum.ensures.sum c.args.n
    max_degree_of_places c.in-Some.degree
    (product.1 ∙ mul_comm c.degree_in_x.result c.args.n ∙ ap (λ i. c.args.n * i) degree) (omega arith) p coefficient
    c.in_ok-polynomial.ensures.over
