use Rattle.value_theory.proofs.Ideals.{field_iff_maximal}
use Rattle.value_theory.proofs.field_law.Goals as goal

pub returns : goal.returns
returns c = λ k q h. field_iff_maximal k q h
