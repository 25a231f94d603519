use Rattle.popov_theory.proofs.DegreeLaws.{rightmost_pivot}
use Rattle.popov_theory.proofs.pivot_law.Goals as goal

pub returns : goal.returns
returns g c = λ k M v some. rightmost_pivot M v some
