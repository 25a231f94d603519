use Rattle.ring_lemmas.proofs.Ring.{field_domain}
use Rattle.popov_theory.proofs.DegreeLaws.{multiplied_form}
use Rattle.popov_theory.proofs.popov_multiple_law.Goals as goal

pub returns : goal.returns
returns g c = λ k M field. multiplied_form M (field_domain k.ring field)
