use Rattle.ff_text.specs.Spelling.{SpellsElement}
use Rattle.ff_text.specs.Printing.{element_text}
use Rattle.ff_text.proofs.Machines.{whole_read, only_memory}
use Rattle.ff_text.proofs.ReadElement.{one_element}
use Rattle.ff_text.proofs.Spelled.{element_written}
use Rattle.ff_text.proofs.laws.element_is_read_again.Goals as goal

pub returns-clause-value : goal.returns-clause-value
returns-clause-value c = λ d e end w r. whole_read SpellsElement one_element (element_text d) d e end
    (element_written d w) r

pub returns-clause-memory : goal.returns-clause-memory
returns-clause-memory c = λ d e w f. only_memory SpellsElement one_element (element_text d) d e (element_written d w) f
