-- The laws of spelled texts, as the lemmas here take them.
use Rattle.std.proofs.Common.{ℕ, Bool, ◌<◌, arith}
use Rattle.std.specs.Prelude.{decimal}
use Rattle.std.proofs.lemmas.Fmt.{decimal_is_IsNumeral, length-decimal-le}
use Rattle.ff_text.specs.Spelling.{SpellsNumber, SpellsTerms}
use Rattle.ff_text.proofs.ReadTerms.{one_polynomial}
use Rattle.ff_text.proofs.ReadElement.{one_element}
use Rattle.ff_text.proofs.Spelled.{terms_written, element_written}
use Rattle.ff_script.proofs.OneLine.{OneValue, same_statement}
use Rattle.ff_script.proofs.OneScript.{IsOneLine}
use Rattle.ff_script.proofs.Printed.{AreSpelled}

one_terms : (with_y : Bool) → OneValue (SpellsTerms with_y)
one_terms with_y v w bytes h k = one_polynomial with_y v w bytes h k

-- a line spells one statement at most
pub one_line : IsOneLine
one_line = same_statement one_terms one_element

number_written : (n : ℕ) → n < 1000000000 → SpellsNumber n (decimal n)
number_written n small =
    let d = decimal_is_IsNumeral n (omega arith) in
    record { numeral = d.0; few = length-decimal-le 9 n (omega arith) (omega arith) (omega arith); value = d.1 }

pub are_spelled : AreSpelled
are_spelled = record { number = number_written; terms = terms_written; element = element_written }
