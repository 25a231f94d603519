use Rattle.ring_lemmas.proofs.Ring.{field_domain}
use Rattle.popov_theory.proofs.DegreeLaws.{term_degree, predictable}
use Rattle.popov_theory.proofs.predictable_degree_law.Goals as goal

pub returns-clause-term : goal.returns-clause-term
returns-clause-term g c = λ k M field. term_degree M (field_domain k.ring field)

pub returns-clause-combination : goal.returns-clause-combination
returns-clause-combination g c = λ k M field. predictable M (field_domain k.ring field)
