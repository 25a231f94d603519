-- The theorem of `Integral`, at the subsets that a test decides.
use Rattle.std.proofs.Common.{IsTrue}
use Rattle.ring_theory.proofs.Integral.{integral}
use Rattle.ring_theory.proofs.integral_law.Goals as goal

pub returns : goal.returns
returns g c = λ R p bs z 𝓢 h. integral R (λ a. IsTrue (p a)) 𝓢 z bs h
