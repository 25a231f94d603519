use Rattle.text_theory.proofs.ElementTexts.{one_elem}
use Rattle.text_theory.proofs.one_elem_text_law.Goals as goal

pub returns : goal.returns
returns c = one_elem
