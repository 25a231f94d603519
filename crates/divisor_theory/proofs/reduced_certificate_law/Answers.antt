-- The theorem of `Certificates` on bases.
use Rattle.divisor_theory.proofs.Certificates.{reduced_by_sum}
use Rattle.divisor_theory.proofs.reduced_certificate_law.Goals as goal

pub returns : goal.returns
returns g c = reduced_by_sum g.S.FunctionSets.equation g.S.FunctionSets.first g.S.FunctionSets.second
