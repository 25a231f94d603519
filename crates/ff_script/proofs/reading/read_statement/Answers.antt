use Rattle.std.proofs.Common.{ℕ, List, subst}
use Rattle.ff_text.specs.Spelling.{Is}
use Rattle.ff_script.specs.Reading.{IsFront}
use Rattle.ff_script.proofs.ByKind.{FieldKind, CurveKind, MulKind, FactorKind, OrderKind, PlacesKind, PlaceKind, ConstantsKind, GenusKind, kind_word, word_of}
use Rattle.ff_script.proofs.Behind.{reading_of_line, read_of_line, no_statement, no_kind}
use Rattle.ff_script.proofs.reading.read_statement.Goals as goal

pub returns-in-Some : goal.returns-in-Some
returns-in-Some c = read_of_line (word_of FieldKind) c.args.line.now c.behind_blanks-bytes.result.now c.in-Some.rest.now
    c.behind_blanks-bytes.ensures (kind_word FieldKind) c.in-Some.ensures c.field.result c.field.ensures

pub returns-in-Some-behind_word : goal.returns-in-Some-behind_word
returns-in-Some-behind_word c = read_of_line (word_of CurveKind) c.args.line.now c.behind_blanks-bytes.result.now
    c.in-Some-behind_word.rest.now c.behind_blanks-bytes.ensures (kind_word CurveKind) c.in-Some-behind_word.ensures
    c.curve.result c.curve.ensures

pub returns-in-Some-behind_word-2 : goal.returns-in-Some-behind_word-2
returns-in-Some-behind_word-2 c = read_of_line (word_of MulKind) c.args.line.now c.behind_blanks-bytes.result.now
    c.in-Some-behind_word-2.rest.now c.behind_blanks-bytes.ensures (kind_word MulKind) c.in-Some-behind_word-2.ensures
    c.mul.result c.mul.ensures

pub returns-in-Some-behind_word-3 : goal.returns-in-Some-behind_word-3
returns-in-Some-behind_word-3 c = read_of_line (word_of FactorKind) c.args.line.now c.behind_blanks-bytes.result.now
    c.in-Some-behind_word-3.rest.now c.behind_blanks-bytes.ensures (kind_word FactorKind)
    c.in-Some-behind_word-3.ensures c.factor.result c.factor.ensures

pub returns-in-Some-behind_word-4 : goal.returns-in-Some-behind_word-4
returns-in-Some-behind_word-4 c = read_of_line (word_of PlacesKind) c.args.line.now c.behind_blanks-bytes.result.now
    c.in-Some-behind_word-4.rest.now c.behind_blanks-bytes.ensures (kind_word PlacesKind)
    c.in-Some-behind_word-4.ensures c.places.result c.places.ensures

pub returns-in-Some-behind_word-5 : goal.returns-in-Some-behind_word-5
returns-in-Some-behind_word-5 c = read_of_line (word_of PlaceKind) c.args.line.now c.behind_blanks-bytes.result.now
    c.in-Some-behind_word-5.rest.now c.behind_blanks-bytes.ensures (kind_word PlaceKind)
    c.in-Some-behind_word-5.ensures c.place.result c.place.ensures

pub returns-in-Some-behind_word-6 : goal.returns-in-Some-behind_word-6
returns-in-Some-behind_word-6 c =
    let front = subst (λ (t : List ℕ). IsFront (Is (word_of OrderKind)) t c.in-Some-behind_word-6.rest.now)
    c.behind_blanks-bytes.ensures c.in-Some-behind_word-6.ensures in
    reading_of_line (word_of OrderKind) c.args.line.now c.in-Some-behind_word-6.rest.now (kind_word OrderKind) front
    c.order.result c.order.ensures

pub returns-in-Some-behind_word-7 : goal.returns-in-Some-behind_word-7
returns-in-Some-behind_word-7 c =
    let front = subst (λ (t : List ℕ). IsFront (Is (word_of ConstantsKind)) t c.in-Some-behind_word-7.rest.now)
    c.behind_blanks-bytes.ensures c.in-Some-behind_word-7.ensures in
    reading_of_line (word_of ConstantsKind) c.args.line.now c.in-Some-behind_word-7.rest.now (kind_word ConstantsKind) front
    c.constants.result c.constants.ensures

pub returns-in-Some-behind_word-8 : goal.returns-in-Some-behind_word-8
returns-in-Some-behind_word-8 c =
    let front = subst (λ (t : List ℕ). IsFront (Is (word_of GenusKind)) t c.in-Some-behind_word-8.rest.now)
    c.behind_blanks-bytes.ensures c.in-Some-behind_word-8.ensures in
    reading_of_line (word_of GenusKind) c.args.line.now c.in-Some-behind_word-8.rest.now (kind_word GenusKind) front
    c.genus.result c.genus.ensures

pub returns-in-None : goal.returns-in-None
returns-in-None c = no_statement c.args.line.now c.behind_blanks-bytes.result.now c.behind_blanks-bytes.ensures
    (no_kind c.behind_blanks-bytes.result.now c.in_default.ensures c.in_default-behind_word.ensures
    c.in_default-behind_word-2.ensures c.in_default-behind_word-3.ensures c.in_default-behind_word-4.ensures
    c.in_default-behind_word-5.ensures c.in_default-behind_word-6.ensures c.in_default-behind_word-7.ensures
    c.in-None.ensures)
