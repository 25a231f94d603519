-- The theorem of `Subsets`, at the subrings that a test decides.
use Rattle.std.proofs.Common.{IsTrue}
use Rattle.ring_theory.proofs.Subsets.{product_of_spans}
use Rattle.ring_theory.proofs.product_law.Goals as goal

pub returns : goal.returns
returns g c = λ R p bs cs a 𝓢. product_of_spans R (λ a. IsTrue (p a)) 𝓢 bs cs a
