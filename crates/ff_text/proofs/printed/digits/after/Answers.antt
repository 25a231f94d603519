use Rattle.std.proofs.lemmas.Bool.Decides.{Decides-eqb}
use Rattle.std.proofs.lemmas.Slice.Eq.{strip_prefix_is}
use Rattle.ff_text.proofs.PrintedFound.{stripped}
use Rattle.ff_text.proofs.printed.digits.after.Goals as goal

pub returns : goal.returns
returns c = stripped c.args.text.now c.args.bytes.now _
    (strip_prefix_is Decides-eqb c.args.bytes.now c.args.text.now _ c.strip_prefix.ensures.cases)
