use Rattle.std.proofs.Common.{Bool, IfErr, sym, subst}
use Rattle.ff_text.specs.Spelling.{SpellsTerms}
use Rattle.ff_text.specs.Reading.{IsReadFault}
use Rattle.ff_script.proofs.reading.longest_terms.Goals as goal

pub returns-then-y-clause-fault : goal.returns-then-y-clause-fault
returns-then-y-clause-fault c = subst (λ (y : Bool). IfErr c.read_terms.result
    (IsReadFault (SpellsTerms y) c.args.bytes.now 0)) (sym c.if-y.true) c.read_terms.ensures.fault

pub returns-else-y-clause-fault : goal.returns-else-y-clause-fault
returns-else-y-clause-fault c = subst (λ (y : Bool). IfErr c.read_terms_in_x.result
    (IsReadFault (SpellsTerms y) c.args.bytes.now 0)) (sym c.if-y.false) c.read_terms_in_x.ensures.fault
