use Rattle.ff_script.proofs.Writable.{line_writable}
use Rattle.ff_script.proofs.laws.spelled_is_writable.Goals as goal

pub returns : goal.returns
returns c = line_writable
