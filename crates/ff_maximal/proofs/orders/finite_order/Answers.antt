use Rattle.std.proofs.Common.{◌∙◌, ap, sym, subst, All}
use Rattle.ff_fields.specs.Over.{IsOver}
use Rattle.ff_poly.specs.Words.{IsIrreducibleList}
use Rattle.ff_factor.specs.Factors.{IsFactorisation}
use Rattle.ff_order.specs.Enlargements.{repeated}
use Rattle.ff_maximal.proofs.FiniteOrders.{all_repeated, some_disc, finite_answer}
use Rattle.ff_maximal.proofs.orders.finite_order.Goals as goal

pub maximal-requires-clause-some : goal.maximal-requires-clause-some
maximal-requires-clause-some g c = some_disc (g.K.SmallField.field c.args.k.now) c.args.curve.now c.requires
    c.fin-p.result.now c.fin-p.ensures

pub maximal-requires-clause-primes_in : goal.maximal-requires-clause-primes_in
maximal-requires-clause-primes_in g c =
    let k = g.K.SmallField.field c.args.k.now in
    subst (All (IsOver k.ops)) (sym (c.deref.ensures.value ∙ c.in_ok-primes.ensures ∙ ap repeated c.parts.ensures))
    (all_repeated (IsOver k.ops) c.in_ok-factors.factors.parts c.in_ok-factors.ensures.over)

pub maximal-requires-clause-irreducible : goal.maximal-requires-clause-irreducible
maximal-requires-clause-irreducible g c =
    let k = g.K.SmallField.field c.args.k.now in
    subst (All (IsIrreducibleList k.ops))
    (sym (c.deref.ensures.value ∙ c.in_ok-primes.ensures ∙ ap repeated c.parts.ensures))
    (all_repeated (IsIrreducibleList k.ops) c.in_ok-factors.factors.parts c.in_ok-factors.ensures.irreducible)

pub returns : goal.returns
returns g c =
    let k = g.K.SmallField.field c.args.k.now in
    let f = c.in_ok-factors.factors in
    finite_answer k c.args.curve.now c.requires c.fin-p.result.now c.fin-p.ensures f
    (subst (λ d. IsFactorisation k.ops d f) c.disc.ensures c.in_ok-factors.ensures)
    c.deref.result.now (c.deref.ensures.value ∙ c.in_ok-primes.ensures ∙ ap repeated c.parts.ensures)
    c.in_ok-start.start c.in_ok-start.ensures.order c.in_ok-start.ensures.members
    c.maximal.result c.maximal.ensures.order c.maximal.ensures.members
