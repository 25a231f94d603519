use Rattle.std.proofs.Common.{◌++◌, ◌∙◌, sym, subst, ap₂}
use Rattle.ff_poly.specs.Words.{product_of}
use Rattle.ff_factor.specs.Factors.{polys_of}
use Rattle.ff_factor.specs.LowestTerms.{AreIrreducible, HasFactorsOf}
use Rattle.ff_factor.proofs.LowerTerms.{factored}
use Rattle.ff_factor.proofs.OneFactorisation.{has_factors}
use Rattle.ff_factor.proofs.ProductDivisors.{factored_poly, both_irreducible, product_divisors}
use Rattle.ff_factor.proofs.lowest.divisors_of_product.Goals as goal

pub returns-clause-irreducible : goal.returns-clause-irreducible
returns-clause-irreducible g c =
    let k = g.K.SmallField.field c.args.k.now in
    let f = c.in_ok-factor.field-0 in
    let h = c.in_ok-factor-2.field-0 in
    let items = c.in_ok-append.ensures.items
    ∙ ap₂ (λ ps qs. ps ++ qs) c.in_ok-divisors.ensures c.in_ok-others.ensures in
    subst (AreIrreducible k.ops) (sym items)
    (both_irreducible k (polys_of f.parts) (polys_of h.parts) (factored k c.args.a.now f c.in_ok-factor.ensures)
    (factored k c.args.b.now h c.in_ok-factor-2.ensures))

pub returns-clause-each : goal.returns-clause-each
returns-clause-each g c =
    let k = g.K.SmallField.field c.args.k.now in
    let a = c.args.a.now in
    let b = c.args.b.now in
    let f = c.in_ok-factor.field-0 in
    let h = c.in_ok-factor-2.field-0 in
    let items = c.in_ok-append.ensures.items
    ∙ ap₂ (λ ps qs. ps ++ qs) c.in_ok-divisors.ensures c.in_ok-others.ensures in
    subst (λ ps. HasFactorsOf k.ops ps (product_of k.ops a b)) (sym items)
    (product_divisors k a b (polys_of f.parts) (polys_of h.parts) c.requires.over.0
    (factored_poly k a f c.in_ok-factor.ensures) c.requires.over.1 (factored_poly k b h c.in_ok-factor-2.ensures)
    (has_factors k a f c.in_ok-factor.ensures) (has_factors k b h c.in_ok-factor-2.ensures))
