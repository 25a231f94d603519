use Rattle.ff_text.specs.Spelling.{SpellsTerms}
use Rattle.ff_text.specs.Printing.{terms_text}
use Rattle.ff_text.proofs.Machines.{whole_read, only_memory}
use Rattle.ff_text.proofs.ReadTerms.{one_polynomial}
use Rattle.ff_text.proofs.Spelled.{terms_written}
use Rattle.ff_text.proofs.laws.terms_are_read_again.Goals as goal

pub returns-clause-value : goal.returns-clause-value
returns-clause-value c = λ y p q end w r. whole_read (SpellsTerms y) (one_polynomial y) (terms_text p) p q end
    (terms_written y p w) r

pub returns-clause-memory : goal.returns-clause-memory
returns-clause-memory c = λ y p e w f. only_memory (SpellsTerms y) (one_polynomial y) (terms_text p) p e
    (terms_written y p w) f
