use Rattle.std.proofs.Common.{false, [], refl, subst}
use Rattle.std.proofs.lemmas.Bool.{both_ways}
use Rattle.ff_text.specs.Spelling.{Is}
use Rattle.ff_script.specs.Reading.{IsFront}
use Rattle.ff_script.proofs.Steps.{word_rest, nil_tested, nil_tests}
use Rattle.ff_script.proofs.reading.is_word.Goals as goal

pub returns-in-Some : goal.returns-in-Some
returns-in-Some c = (
  λ is. subst (IsFront (Is c.args.word.now) c.args.bytes.now)
      (nil_tested c.in-Some.rest.now c.is_empty.result c.is_empty.ensures is) c.in-Some.ensures,
  λ f. nil_tests c.in-Some.rest.now c.is_empty.result c.is_empty.ensures
      (word_rest c.args.word.now c.args.bytes.now c.in-Some.rest.now [] c.in-Some.ensures f),
)

pub returns-in-None : goal.returns-in-None
returns-in-None c = (λ is. absurd (both_ways false refl is), λ f. absurd (c.in-None.ensures [] f))
