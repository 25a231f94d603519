-- The theorem of `Sides`.
use Rattle.function_field.specs.Values.{setting, equation_of}
use Rattle.function_field.proofs.ScalarRings.{scalars_subring}
use Rattle.places_theory.proofs.Sides.{place_is_maximal}
use Rattle.places_theory.proofs.maximal_ideals_law.Goals as goal

pub returns : goal.returns
returns c = λ k p. place_is_maximal (setting k p) (scalars_subring (equation_of k p))
