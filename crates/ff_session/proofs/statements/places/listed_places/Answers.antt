use Rattle.std.proofs.Common.{◌≡◌, List, All, sym, ap, ◌∙◌, subst, arith}
use Rattle.std.specs.List.{AllZip}
use Rattle.function_field.specs.Curves.{CurveValue}
use Rattle.ff_lattice.specs.Lattices.{IsLatticeValue}
use Rattle.value_theory.specs.IntegralLattices.{presentation}
use Rattle.value_theory.specs.Primes.{PrimeValue}
use Rattle.ff_cert.specs.RowPlaces as places_row
use Rattle.ff_session.specs.Places.{AreLinesOf}
use Rattle.ff_session.proofs.PlaceAnswers.{primes_form, listed_answer}
use Rattle.ff_session.proofs.statements.places.listed_places.Goals as goal

pub lines_of_each-requires-clause-forms : goal.lines_of_each-requires-clause-forms
lines_of_each-requires-clause-forms g c =
    let k = g.K.SmallField.field c.args.k.now in
    rw c.curve.ensures
    (subst
    (λ (Ps : List PrimeValue).
    All (λ (P : PrimeValue). IsLatticeValue k.ops (presentation c.args.frame.now.curve P.side).n P.rows) Ps)
    (sym c.as_slice.ensures.value)
    (primes_form k c.args.frame.now.curve c.args.base.now.side c.args.base.now.p c.in_ok-primes.primes.items
    c.in_ok-primes.ensures))

pub returns : goal.returns
returns g c =
    let k = g.K.SmallField.field c.args.k.now in
    let same = subst (λ (d : CurveValue).
    AllZip (λ (P : PrimeValue). AreLinesOf k d P.side P) c.as_slice.result.now c.in_ok-list.list) c.curve.ensures
    c.in_ok-list.ensures in
    let lines = subst
    (λ (Ps : List PrimeValue).
    AllZip (λ (P : PrimeValue). AreLinesOf k c.args.frame.now.curve P.side P) Ps c.in_ok-list.list)
    c.as_slice.ensures.value same in
    let degree : c.degree_of_places-degree.result ≡ places_row.degree c.in_ok-list.list
    = c.degree_of_places-degree.ensures ∙ ap places_row.degree (c.as_slice-2.ensures.value ∙ c.list.view_is) in
    let most = c.if-prove.false in
    listed_answer k c.args.frame.now.curve c.args.base.now.side c.args.base.now.p c.in_ok-primes.primes.items
    c.in_ok-primes.ensures c.requires.frame.curve c.requires.codes c.requires.irreducible c.requires.infinite
    c.in_ok-list.list lines c.degree_of_places-degree.result (omega (arith, most)) (omega (arith, degree))
