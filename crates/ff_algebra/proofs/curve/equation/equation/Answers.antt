use Rattle.ff_algebra.proofs.curve.equation.equation.Goals as goal

pub returns-clause-over : goal.returns-clause-over
returns-clause-over g c = record { coeffs_over = rw c.new.ensures c.in_ok-coeffs.ensures.over }
