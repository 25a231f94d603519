use Rattle.std.proofs.lemmas.Bool.{both_ways}
use Rattle.ff_script.proofs.OverFronts.{no_over_here}
use Rattle.ff_script.proofs.reading.over_at.Goals as goal

pub returns-in_default : goal.returns-in_default
returns-in_default c = no_over_here c.args.bytes.now
    (λ f. both_ways c.is_word.result c.if-is_word.false (c.is_word.ensures.1 f))
    (rw c.in_default.is at c.in_ok-g.ensures)
