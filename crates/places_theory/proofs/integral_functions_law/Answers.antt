-- The theorems of `Sides`.
use Rattle.function_field.specs.Values.{setting, equation_of}
use Rattle.function_field.proofs.ScalarRings.{scalars_subring}
use Rattle.places_theory.proofs.Sides.{side_ring, scalar_integral}
use Rattle.places_theory.proofs.integral_functions_law.Goals as goal

pub returns-clause-ring : goal.returns-clause-ring
returns-clause-ring c = λ k p. side_ring (setting k p) (scalars_subring (equation_of k p))

pub returns-clause-scalars : goal.returns-clause-scalars
returns-clause-scalars c = λ k p. scalar_integral (setting k p) (scalars_subring (equation_of k p))
