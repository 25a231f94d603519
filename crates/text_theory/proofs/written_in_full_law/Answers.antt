use Rattle.text_theory.proofs.InFull.{over_in_full, elem_in_full}
use Rattle.text_theory.proofs.written_in_full_law.Goals as goal

pub returns : goal.returns
returns c = record { polynomial = over_in_full; element = elem_in_full }
