use Rattle.std.proofs.Common.{ap, ◌∙◌, subst}
use Rattle.std.proofs.lemmas.Result.{err_from_is_err_and}
use Rattle.function_field.specs.Limits.{max_degree_of_places}
use Rattle.function_field.specs.Values.{PresValue}
use Rattle.function_field.specs.Curves.{CurveValue}
use Rattle.ff_meaning.specs.Bases.{IsBaseRead}
use Rattle.ff_meaning.specs.Refusals.{IsBaseRow, base}
use Rattle.ff_session.specs.Places.{AreLinesOf}
use Rattle.ff_session.proofs.PlaceAnswers.{base_irreducible, not_bound}
use Rattle.ff_session.proofs.PlaceReads.{zip_long, place_answer, place_refusal}
use Rattle.ff_session.proofs.statements.place.named_place.Goals as goal

pub returns-in_err-base-clause-refused : goal.returns-in_err-base-clause-refused
returns-in_err-base-clause-refused g c =
    let k = g.K.SmallField.field c.args.k.now in
    let e = err_from_is_err_and c.from_residual-in_err-base.result c.from_residual-in_err-base.ensures.1 in
    let free = not_bound c.contains.result c.contains.ensures c.if-contains.false in
    let degree = c.n.ensures.n ∙ ap (λ (f : PresValue). f.n) (c.fin.ensures ∙ ap (λ
    (d : CurveValue). d.fin) c.curve.ensures) in
    rw (e.1, e.2) (λ some. base free
    (subst (λ n. IsBaseRow k.ops n max_degree_of_places c.args.over.now c.in_err-base.field-0.0) degree
    (c.in_err-base.ensures.refused some)))

pub listed_places-requires-clause-irreducible : goal.listed_places-requires-clause-irreducible
listed_places-requires-clause-irreducible g c =
    base_irreducible (g.K.SmallField.field c.args.k.now) c.args.over.now c.in_ok-base.base.side c.in_ok-base.base.p
    c.in_ok-base.ensures.base.base

pub chosen-requires : goal.chosen-requires
chosen-requires g c =
    let k = g.K.SmallField.field c.args.k.now in
    record {
      same = zip_long (AreLinesOf k c.args.frame.now.curve c.in_ok-base.base.side) c.in_ok-primes.primes.items
          c.in_ok-primes.list c.in_ok-primes.ensures.lines;
    }

pub returns-clause-place : goal.returns-clause-place
returns-clause-place g c =
    let k = g.K.SmallField.field c.args.k.now in
    let free = not_bound c.contains.result c.contains.ensures c.if-contains.false in
    let degree = c.n.ensures.n ∙ ap (λ (f : PresValue). f.n) (c.fin.ensures ∙ ap (λ
    (d : CurveValue). d.fin) c.curve.ensures) in
    let read = subst (λ n. IsBaseRead k.ops n c.args.over.now c.in_ok-base.base.side c.in_ok-base.base.p) degree
    c.in_ok-base.ensures.base in
    place_answer k c.args.frame.now.curve c.requires.frame.curve c.args.over.now c.in_ok-base.base.side
    c.in_ok-base.base.p read
    c.in_ok-primes.primes.items c.in_ok-primes.list c.in_ok-primes.ensures c.args.index c.args.names.now
    c.args.name.now free c.chosen.result c.chosen.ensures.first c.chosen.ensures.last c.chosen.ensures.lines
    c.chosen.ensures.prime

pub returns-clause-refused : goal.returns-clause-refused
returns-clause-refused g c =
    let k = g.K.SmallField.field c.args.k.now in
    let free = not_bound c.contains.result c.contains.ensures c.if-contains.false in
    let degree = c.n.ensures.n ∙ ap (λ (f : PresValue). f.n) (c.fin.ensures ∙ ap (λ
    (d : CurveValue). d.fin) c.curve.ensures) in
    let read = subst (λ n. IsBaseRead k.ops n c.args.over.now c.in_ok-base.base.side c.in_ok-base.base.p) degree
    c.in_ok-base.ensures.base in
    place_refusal k c.args.frame.now.curve c.requires.frame.curve c.args.over.now c.in_ok-base.base.side
    c.in_ok-base.base.p read
    c.in_ok-primes.primes.items c.in_ok-primes.list c.in_ok-primes.ensures c.args.index c.args.names.now
    c.args.name.now free c.chosen.result c.chosen.ensures.refused
