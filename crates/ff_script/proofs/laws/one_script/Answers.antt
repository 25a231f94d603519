use Rattle.ff_script.proofs.OneScript.{same_script}
use Rattle.ff_script.proofs.TextLaws.{one_line}
use Rattle.ff_script.proofs.laws.one_script.Goals as goal

pub returns : goal.returns
returns c = same_script one_line
