-- The theorems of `Multiplicities`.
use Rattle.function_field.specs.Values.{setting}
use Rattle.places_theory.proofs.Multiplicities.{multiplicity_unique, multiplicity_exists, multiplicity_not_missing, multiplicity_of_entry, multiplicity_elsewhere}
use Rattle.places_theory.proofs.multiplicity_law.Goals as goal

pub returns-clause-once : goal.returns-clause-once
returns-clause-once c = λ k p. multiplicity_unique (setting k p)

pub returns-clause-decided : goal.returns-clause-decided
returns-clause-decided c = λ k p. multiplicity_exists (setting k p)

pub returns-clause-never_none : goal.returns-clause-never_none
returns-clause-never_none c = λ k p. multiplicity_not_missing (setting k p)

pub returns-clause-at_entry : goal.returns-clause-at_entry
returns-clause-at_entry c = λ k p. multiplicity_of_entry (setting k p)

pub returns-clause-elsewhere : goal.returns-clause-elsewhere
returns-clause-elsewhere c = λ k p. multiplicity_elsewhere (setting k p)
