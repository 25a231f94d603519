use Rattle.std.proofs.Common.{◌+◌, length, arith}
use Rattle.polynomial_theory.proofs.Lengths.{some_of_long}
use Rattle.polynomial_theory.proofs.IrreducibleDivisors.{irreducible_divisor}
use Rattle.polynomial_theory.proofs.irreducible_divisor_law.Goals as goal

pub returns : goal.returns
returns c = λ k a long.
    let r = irreducible_divisor k (length a.0 + 1) a long (omega arith) (some_of_long k a (omega arith)) in
    (r.codes, r.over, r.irreducible, r.divides)
