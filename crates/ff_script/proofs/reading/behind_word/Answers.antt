use Rattle.std.proofs.Common.{refl, sym, ◌∙◌, subst}
use Rattle.std.proofs.lemmas.Bool.Decides.{Decides-eqb}
use Rattle.std.proofs.lemmas.Slice.Eq.{strip_prefix_is}
use Rattle.ff_text.specs.Spelling.{Is}
use Rattle.ff_script.specs.Reading.{IsFront}
use Rattle.ff_script.proofs.Steps.{no_word_front, word_front_on, front_here}
use Rattle.ff_script.proofs.reading.behind_word.Goals as goal

pub returns-in_default : goal.returns-in_default
returns-in_default c =
    let cases = strip_prefix_is Decides-eqb c.args.bytes.now c.args.word.now _ c.strip_prefix.ensures.cases in
    no_word_front c.args.word.now c.args.bytes.now (rw c.in_default.is at cases)

pub returns-then-begins_with_word : goal.returns-then-begins_with_word
returns-then-begins_with_word c =
    let cases = strip_prefix_is Decides-eqb c.args.bytes.now c.args.word.now _ c.strip_prefix.ensures.cases in
    word_front_on c.args.word.now c.args.bytes.now c.in-Some.rest.now c.requires (rw c.in-Some.is at cases)
    (sym c.begins_with_word.ensures ∙ c.if-begins_with_word.true)

pub returns : goal.returns
returns c =
    let cases = strip_prefix_is Decides-eqb c.args.bytes.now c.args.word.now _ c.strip_prefix.ensures.cases in
    subst (IsFront (Is c.args.word.now) c.args.bytes.now) (sym c.behind_blanks.ensures)
    (front_here (Is c.args.word.now) c.args.bytes.now c.args.word.now c.in-Some.rest.now refl (rw c.in-Some.is at cases)
    (λ e. sym c.begins_with_word.ensures ∙ c.if-begins_with_word.false))
