-- The theorem of `Idempotent`.
use Rattle.ring_theory.proofs.Idempotent.{idempotent_power}
use Rattle.ring_theory.proofs.idempotent_law.Goals as goal

pub returns : goal.returns
returns g c = idempotent_power
