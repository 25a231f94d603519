use Rattle.std.proofs.Common.{ap, arith}
use Rattle.function_field.specs.Values.{PresValue}
use Rattle.ff_written.proofs.written.written.Goals as goal

pub in_lowest_terms-requires-clause-positive : goal.in_lowest_terms-requires-clause-positive
in_lowest_terms-requires-clause-positive g c =
    let two = c.requires.curve.at_least_two in
    let same = ap (λ (p : PresValue). p.n) c.fin.ensures in
    omega (arith, two, same)
