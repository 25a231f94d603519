-- The theorem of `Sides`.
use Rattle.function_field.specs.Values.{setting, equation_of}
use Rattle.function_field.proofs.ScalarRings.{scalars_subring}
use Rattle.places_theory.proofs.Sides.{in_power_descends}
use Rattle.places_theory.proofs.powers_law.Goals as goal

pub returns : goal.returns
returns c = λ k p. in_power_descends (setting k p) (scalars_subring (equation_of k p))
