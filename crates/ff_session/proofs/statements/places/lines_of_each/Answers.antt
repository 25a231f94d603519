use Rattle.std.proofs.Common.{sym, subst}
use Rattle.ff_lattice.specs.Lattices.{IsLatticeValue}
use Rattle.value_theory.specs.IntegralLattices.{presentation}
use Rattle.value_theory.specs.Primes.{PrimeValue}
use Rattle.ff_session.specs.Places.{AreLinesOf}
use Rattle.ff_session.proofs.PlaceAnswers.{zip_more}
use Rattle.ff_session.proofs.statements.places.lines_of_each.Goals as goal

pub lines_of-requires-clause-form : goal.lines_of-requires-clause-form
lines_of-requires-clause-form g c =
    let k = g.K.SmallField.field c.args.k.now in
    subst (λ (P : PrimeValue). IsLatticeValue k.ops (presentation c.args.curve.now P.side).n P.rows)
    (sym c.prime-item.is)
    (c.requires.forms c.loop-prime.prime-index c.prime-item.result c.loop-prime-test.true)

pub loop-prime-preserved : goal.loop-prime-preserved
loop-prime-preserved g c =
    let k = g.K.SmallField.field c.args.k.now in
    zip_more (λ (P : PrimeValue). AreLinesOf k c.args.curve.now P.side P) c.args.primes.now c.loop-prime.prime-index
    c.prime-item.result c.loop-prime.places.items c.push.new.self.items c.in_ok-lines_of.field-0 c.loop-prime-test.true
    c.prime-item.is c.loop-prime.invariant c.in_ok-lines_of.ensures c.in_ok-push.ensures.items
