use Rattle.std.proofs.lemmas.Bool.{both_ways}
use Rattle.ff_script.proofs.Behind.{no_side_here}
use Rattle.ff_script.proofs.reading.side_at.Goals as goal

pub returns : goal.returns
returns c = no_side_here c.args.bytes.now (λ f. both_ways c.is_word.result c.if-is_word.false (c.is_word.ensures.1 f))
    (λ f. both_ways c.is_word-2.result c.if-is_word-2.false (c.is_word-2.ensures.1 f))
