-- The theorem of `Certificates` on divisors.
use Rattle.divisor_theory.proofs.Certificates.{canonical_by_degree}
use Rattle.divisor_theory.proofs.canonical_certificate_law.Goals as goal

pub returns : goal.returns
returns c =
    λ k e W some is finite infinite w total b d reduced degree_is. canonical_by_degree e some W is finite infinite w
    total b d reduced degree_is
