use Rattle.std.proofs.Common.{◌≡◌, ℕ, List, sym, ap, ◌∙◌, subst, arith}
use Rattle.ff_algebra.specs.CurveTerms.{IsCoefficient, degree_in_x}
use Rattle.ff_session.specs.Steps.{AreFactorsRead}
use Rattle.ff_session.proofs.FactorRows.{too_great, factors_read}
use Rattle.ff_session.proofs.statements.factor.factors_of.Goals as goal

pub returns-then-degree-from-clause-refused : goal.returns-then-degree-from-clause-refused
returns-then-degree-from-clause-refused g c = λ some.
    let k = g.K.SmallField.field c.args.k.now in
    too_great k c.args.g.now c.requires.writable c.in_ok-terms.terms c.in_ok-terms.ensures.sum
    c.degree_in_x-degree.result
    (c.degree_in_x-degree.ensures ∙ ap degree_in_x c.list.ensures.list) (omega arith)

pub returns-clause-factors : goal.returns-clause-factors
returns-clause-factors g c =
    let k = g.K.SmallField.field c.args.k.now in
    let terms = c.in_ok-terms.terms in
    let p = c.in_ok-p.p in
    let degree : c.degree_in_x-degree.result ≡ degree_in_x terms = c.degree_in_x-degree.ensures
    ∙ ap degree_in_x c.list.ensures.list in
    let coefficient : IsCoefficient k.ops terms 0 p = subst (λ (s : List (ℕ × ℕ × ℕ)). IsCoefficient k.ops s 0 p)
    c.list-2.ensures.list c.in_ok-p.ensures.coefficient in
    subst (λ u. AreFactorsRead k.ops c.args.g.now u c.in_ok-parts.parts) (sym c.unit.ensures)
    (factors_read k c.args.g.now c.requires.writable terms c.in_ok-terms.ensures.sum p coefficient
    c.in_ok-factors.factors.unit c.in_ok-parts.parts c.in_ok-factors.factors.parts
    (omega (arith, degree)) (λ e. absurd (let zero = c.is_zero.ensures.1 e in cc)) c.in_ok-factors.ensures
    (c.in_ok-parts.ensures ∙ c.parts.ensures))
