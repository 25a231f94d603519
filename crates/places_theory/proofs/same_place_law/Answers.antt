-- The theorems of `SamePlaces`.
use Rattle.function_field.specs.Values.{setting, equation_of}
use Rattle.function_field.proofs.ScalarRings.{scalars_subring}
use Rattle.places_theory.proofs.SamePlaces.{same_place_refl, same_place_sym, same_place_trans, same_place_decided}
use Rattle.places_theory.proofs.same_place_law.Goals as goal

pub returns-clause-reflexive : goal.returns-clause-reflexive
returns-clause-reflexive c = λ k p. same_place_refl (setting k p)

pub returns-clause-symmetric : goal.returns-clause-symmetric
returns-clause-symmetric c = λ k p. same_place_sym (setting k p)

pub returns-clause-transitive : goal.returns-clause-transitive
returns-clause-transitive c = λ k p. same_place_trans (setting k p)

pub returns-clause-decided : goal.returns-clause-decided
returns-clause-decided c = λ k p. same_place_decided (setting k p) (scalars_subring (equation_of k p))
