use Rattle.ff_text.proofs.PrintedElements.{one_elem, same_elem}
use Rattle.ff_text.proofs.printed.one_elem_text.Goals as goal

pub returns : goal.returns
returns c = record { front = one_elem; whole = same_elem }
