use Rattle.std.proofs.Common.{ℕ, List, sym, ap, ◌∙◌, subst}
use Rattle.std.proofs.lemmas.Result.{err_from_is_err_and}
use Rattle.ff_fields.specs.Fields.{field_of}
use Rattle.ff_fields.specs.FieldData.{data_of}
use Rattle.function_field.specs.Values.{PresValue, setting}
use Rattle.function_field.specs.Curves.{CurveValue}
use Rattle.function_field.specs.Divisors.{HasGenus}
use Rattle.function_field.specs.Limits.{max_degree}
use Rattle.ff_meaning.specs.Refusals.{UnlessMemory, IsProductRow}
use Rattle.ff_meaning.specs.Bindings.{with_places}
use Rattle.ff_cert.specs.declared.answer.Answer.TheVariants as answers
use Rattle.ff_session.specs.declared.bindings.Change.TheVariants as changes
use Rattle.ff_session.specs.Steps.{IsAnswered, IsProductRead}
use Rattle.ff_session.proofs.Truths.{mul_answer, mul_refused, factor_answer, factor_refused, order_true, places_true, place_true, place_refused, constants_true, genus_true}
use Rattle.ff_session.proofs.FieldAnswers.{constants_answer}
use Rattle.ff_session.proofs.bindings.answer_on_curve.Goals as goal

pub returns-in_err-element-in-Mul-clause-refused : goal.returns-in_err-element-in-Mul-clause-refused
returns-in_err-element-in-Mul-clause-refused c =
    let e = err_from_is_err_and c.from_residual.result c.from_residual.ensures.1 in
    let r = c.in_err-element-in-Mul.field-0.0 in
    let f_is = c.fin.ensures ∙ ap (λ (d : CurveValue). d.fin) c.curve.ensures in
    rw (e.1, e.2) (mul_refused c.args.k.now c.args.b.now.over.frame.curve c.args.b.now.names c.args.s.now c.in-Mul.a
    c.in-Mul.other
    r c.in-Mul.is
    (subst (λ (f : PresValue). UnlessMemory
    (IsProductRow (field_of c.args.k.now).ops f.n max_degree c.in-Mul.a c.in-Mul.other) r) f_is
    c.in_err-element-in-Mul.ensures.refused))

pub returns-in_err-unit-in-Factor-clause-refused : goal.returns-in_err-unit-in-Factor-clause-refused
returns-in_err-unit-in-Factor-clause-refused c =
    let e = err_from_is_err_and c.from_residual-in_err-unit-in-Factor.result
    c.from_residual-in_err-unit-in-Factor.ensures.1 in
    rw (e.1, e.2) (factor_refused c.args.k.now c.args.b.now.over.frame.curve c.args.b.now.names c.args.s.now
    c.in-Factor.g
    c.in_err-unit-in-Factor.field-0.0 c.in-Factor.is c.in_err-unit-in-Factor.ensures.refused)

pub returns-in_err-place-in-Place-clause-refused : goal.returns-in_err-place-in-Place-clause-refused
returns-in_err-place-in-Place-clause-refused c =
    let e = err_from_is_err_and c.from_residual-in_err-place-in-Place.result
    c.from_residual-in_err-place-in-Place.ensures.1 in
    rw (e.1, e.2) (place_refused c.args.k.now c.args.b.now.over.frame.curve c.args.b.now.names c.args.s.now
    c.in-Place.name
    c.in-Place.over c.in-Place.index c.in_err-place-in-Place.field-0.0 c.in-Place.is
    c.in_err-place-in-Place.ensures.refused)

pub returns-in_ok-element-in-Mul-clause-answer : goal.returns-in_ok-element-in-Mul-clause-answer
returns-in_ok-element-in-Mul-clause-answer c =
    let z = c.in_ok-element-in-Mul.element in
    let f_is = c.fin.ensures ∙ ap (λ (d : CurveValue). d.fin) c.curve.ensures in
    mul_answer c.args.k.now c.args.b.now.over.frame.curve c.args.b.now.names c.args.s.now c.in-Mul.a c.in-Mul.other z
    c.in-Mul.is
    (subst (λ (f : PresValue). IsProductRead (field_of c.args.k.now) f c.in-Mul.a c.in-Mul.other z) f_is
    c.in_ok-element-in-Mul.ensures.product)

pub returns-in_ok-unit-in-Factor-clause-answer : goal.returns-in_ok-unit-in-Factor-clause-answer
returns-in_ok-unit-in-Factor-clause-answer c =
    factor_answer c.args.k.now c.args.b.now.over.frame.curve c.args.b.now.names c.args.s.now c.in-Factor.g _ _
    c.in-Factor.is
    c.in_ok-unit-in-Factor.ensures.factors

pub returns-in_ok-rows-in-OrderOf-clause-answer : goal.returns-in_ok-rows-in-OrderOf-clause-answer
returns-in_ok-rows-in-OrderOf-clause-answer c =
    order_true c.args.k.now c.args.b.now.over.frame.curve c.args.b.now.names c.args.s.now c.in-OrderOf.side _
    c.in-OrderOf.is
    c.in_ok-rows-in-OrderOf.ensures

pub returns-in_ok-count-in-Places-clause-answer : goal.returns-in_ok-count-in-Places-clause-answer
returns-in_ok-count-in-Places-clause-answer c =
    places_true c.args.k.now c.args.b.now.over.frame.curve c.args.b.now.names c.args.s.now c.in-Places.over _ _
    c.in-Places.is
    c.in_ok-count-in-Places.ensures.places

pub returns-in_ok-name-in-Place-clause-answer : goal.returns-in_ok-name-in-Place-clause-answer
returns-in_ok-name-in-Place-clause-answer c =
    let P = c.in_ok-place-in-Place.place in
    let Q = c.in_ok-place-in-Place.prime in
    subst
    (λ (name : List ℕ).
    IsAnswered (with_places (data_of c.args.k.now) c.args.b.now.over.frame.curve c.args.b.now.names) c.args.s.now
    (answers.Place P)
    (changes.Place name Q))
    (sym c.in_ok-name-in-Place.ensures)
    (place_true c.args.k.now c.args.b.now.over.frame.curve c.args.b.now.names c.args.s.now c.in-Place.name
    c.in-Place.over
    c.in-Place.index P Q c.in-Place.is c.in_ok-place-in-Place.ensures.place)

pub returns-in_ok-dimension-in-Constants-clause-answer : goal.returns-in_ok-dimension-in-Constants-clause-answer
returns-in_ok-dimension-in-Constants-clause-answer c =
    let k = field_of c.args.k.now in
    let over = c.args.b.now.over in
    constants_true c.args.k.now over.frame.curve c.args.b.now.names c.args.s.now _ _ c.in-Constants.is
    (constants_answer k over.frame over.constants c.requires.sound.constants _ _
    c.in_ok-dimension-in-Constants.ensures.dimension c.in_ok-dimension-in-Constants.ensures.functions)

pub returns-in-Genus-clause-answer : goal.returns-in-Genus-clause-answer
returns-in-Genus-clause-answer c =
    let over = c.args.b.now.over in
    genus_true c.args.k.now over.frame.curve c.args.b.now.names c.args.s.now _ c.in-Genus.is
    (record {
      field = c.requires.sound.field;
      is = subst (HasGenus (setting (field_of c.args.k.now) over.frame.curve.fin)) (sym c.from-genus.ensures)
          c.genus.ensures.genus;
    })
