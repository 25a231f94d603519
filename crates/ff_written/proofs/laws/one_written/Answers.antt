use Rattle.ff_written.proofs.OneWritten.{one_written}
use Rattle.ff_written.proofs.laws.one_written.Goals as goal

pub returns : goal.returns
returns c = λ k p f z w some. one_written k p some f z w
