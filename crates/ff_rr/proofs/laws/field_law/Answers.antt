-- The theorem of `ListedIdempotents`.
use Rattle.ff_rr.proofs.ListedIdempotents.{field_is}
use Rattle.ff_rr.proofs.laws.field_law.Goals as goal

pub returns : goal.returns
returns g = λ k c curve. field_is k c curve
