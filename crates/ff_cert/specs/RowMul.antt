-- The answers of `mul`.
use Rattle.std.specs.Prelude.{◌≢◌, ℕ, ◌-◌, List, [], length, max}
use Rattle.ff_fields.specs.Field.{CodeField}
use Rattle.function_field.specs.Values.{ElemValue, PresValue, function_of, functions}
use Rattle.ff_text.specs.declared.terms.ElemText.{ElemText}
use Rattle.ff_text.specs.Printed.{WrittenValue, elem_text}
use Rattle.ff_meaning.specs.Meaning.{IsElementOf, greatest_degree}
use Rattle.ff_written.specs.LowestTerms.{IsWritten}
use Rattle.ff_cert.specs.Lines.{answer_line}

-- z is the product of the elements in k(x)[y]/(f), in lowest terms; no denominator is 0
pub record IsTrue (k : CodeField) (f : PresValue) (a b : ElemText) (z : WrittenValue) : Type 0 where
  pub left : ElemValue
  pub is_left : IsElementOf k.ops a left
  pub left_over : left.den ≢ []
  pub right : ElemValue
  pub is_right : IsElementOf k.ops b right
  pub right_over : right.den ≢ []
  pub product : IsWritten k f ((functions k f).◌⊗◌ (function_of k f left) (function_of k f right)) z

-- the line with the function
abbrev pub lines : WrittenValue → List ℕ
lines z = answer_line (elem_text z.num z.den)

-- the greatest degree of its polynomials
abbrev pub degree : WrittenValue → ℕ
degree z = max (greatest_degree z.num) (length z.den - 1)
