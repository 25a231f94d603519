use Rattle.std.proofs.Common.{sym, ◌∙◌}
use Rattle.ff_script.proofs.OverFronts.{inf_alone, no_over_front}
use Rattle.ff_script.proofs.reading.next_over.Goals as goal

pub returns-in-Some : goal.returns-in-Some
returns-in-Some c = inf_alone c.args.bytes.now c.in-Some.rest.now c.in-Some.ensures
    (sym c.begins_with_word.ensures ∙ c.if-begins_with_word.false)

pub returns-in-None : goal.returns-in-None
returns-in-None c = no_over_front c.args.bytes.now c.in_default.ensures (rw c.in-None.is at c.in_ok-g.ensures)
