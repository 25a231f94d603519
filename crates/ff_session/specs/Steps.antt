-- What the parts of a step do.
use Rattle.std.specs.Prelude.{◌≡◌, ℕ, ◌≤◌, List, Option}
use Rattle.std.specs.List.{Any}
use Rattle.ff_fields.specs.declared.fields.Field.{Field as AnyField}
use Rattle.ff_fields.specs.Field.{FieldOps, CodeField}
use Rattle.ff_fields.specs.Fields.{field_of}
use Rattle.function_field.specs.Values.{PresValue}
use Rattle.function_field.specs.Curves.{CurveValue}
use Rattle.value_theory.specs.Primes.{PrimeValue}
use Rattle.ff_text.specs.declared.terms.Term.{Term}
use Rattle.ff_text.specs.declared.terms.ElemText.{ElemText}
use Rattle.ff_text.specs.Printed.{WrittenValue}
use Rattle.ff_script.specs.declared.script.Modulus.{Modulus}
use Rattle.ff_script.specs.declared.script.Over.{Over}
use Rattle.ff_script.specs.declared.script.Statement.{Statement}
use Rattle.ff_meaning.specs.declared.refusal.Refusal.{Refusal}
use Rattle.ff_meaning.specs.declared.refusal.Refusal.TheVariants.{Reducible}
use Rattle.ff_meaning.specs.FirstIdempotents.{IsFirstIdempotent}
use Rattle.ff_meaning.specs.FieldLines.{Names}
use Rattle.function_field.specs.Limits.{max_degree, max_degree_of_places, max_answer_degree, max_output}
use Rattle.ff_meaning.specs.Refusals.{HasNoRow, IsProductRow, IsFactorRow, IsBaseRow, IsPlaceRow}
use Rattle.ff_meaning.specs.Bindings.{Bindings, NamedPlace, IsNameOf}
use Rattle.ff_cert.specs.declared.answer.Answer.{Answer}
use Rattle.ff_cert.specs.declared.answer.Answer.TheVariants.{FieldOf, CurveOf}
use Rattle.ff_cert.specs.declared.answer.PowerLine.{PowerLine}
use Rattle.ff_cert.specs.declared.answer.PlaceLines.{PlaceLines}
use Rattle.ff_cert.specs.Answers.{Answers, degree_of_answer}
use Rattle.ff_cert.specs.Blocks.{SessionValue, block_text, output_after}
use Rattle.ff_cert.specs.RowCurve.{IsCurveOfTerms}
use Rattle.ff_cert.specs.RowMul as mul_row
use Rattle.ff_cert.specs.RowFactor as factor_row
use Rattle.ff_cert.specs.RowPlaces as places_row
use Rattle.ff_cert.specs.RowNamedPlace.{IsPlaceOfLines}
use Rattle.ff_session.specs.declared.bindings.Change.{Change}
use Rattle.ff_session.specs.declared.curves.FunctionField.{FunctionField}
use Rattle.ff_session.specs.FunctionFields.{IsFunctionField}
use Rattle.ff_session.specs.Bound.{bindings_after, MayTake}

-- the answer to the statement is true, and none of its rows holds
pub record HasAnswer (old : Bindings) (s : Statement) (answer : Answer) (next : Bindings) : Type 0 where
  pub is_true : Answers old s answer next
  pub not_refused : HasNoRow old s

-- the answer is true, and none of the rows holds; and it binds what it may
pub record IsAnswered (old : Bindings) (s : Statement) (a : Answer) (b : Change) : Type 0 where
  pub answer : HasAnswer old s a (bindings_after old b)
  pub change : MayTake old b

-- the text of the statement with its answer, which may be printed
pub record IsBlock (old : SessionValue) (s : Statement) (answer : Answer) (text : List ℕ) : Type 0 where
  pub small : degree_of_answer answer ≤ max_answer_degree
  pub room : output_after old.printed (block_text s answer) ≤ max_output
  pub is : text ≡ block_text s answer

-- the field is the one that the line names, and its size is the answer
pub record IsFieldAnswer (p : ℕ) (tail : Option Modulus) (answer : Answer) (k : AnyField) : Type 0 where
  pub named : Names p tail (field_of k).ops
  pub is : answer ≡ FieldOf (field_of k).ops.size

-- the curve is that of the terms, its functions are a field, and its numbers are the answer
pub record IsCurveAnswer (k : CodeField) (f : List Term) (answer : Answer) (F : FunctionField) : Type 0 where
  pub curve : IsCurveOfTerms k f F.frame.curve
  pub over : IsFunctionField k F
  pub is : answer ≡ CurveOf F.frame.curve.fin.n F.frame.curve.c

-- the first idempotent other than 0 and 1 is told
pub record IsReducibleRow (k : CodeField) (p : PresValue) (r : Refusal) : Type 0 where
  pub first : WrittenValue
  pub is_first : IsFirstIdempotent k p first
  pub is : r ≡ Reducible first

-- z is the product, and no row of the statement holds
pub record IsProductRead (k : CodeField) (f : PresValue) (a b : ElemText) (z : WrittenValue) : Type 0 where
  pub is : mul_row.IsTrue k f a b z
  pub no_row : (r : Refusal) → ¬ IsProductRow k.ops f.n max_degree a b r

-- these are the factors of the polynomial, and no row of the statement holds
pub record AreFactorsRead (k : FieldOps) (g : List Term) (unit : ℕ) (parts : List PowerLine) : Type 0 where
  pub is : factor_row.IsTrue k g unit parts
  pub no_row : (r : Refusal) → ¬ IsFactorRow k max_degree g r

-- these are all places, and no row of the statement holds
pub record ArePlacesRead (k : CodeField) (c : CurveValue) (over : Over) (count : ℕ) (Ps : List PlaceLines) :
    Type 0 where
  pub is : places_row.IsTrue k c over count Ps
  pub no_row : (r : Refusal) → ¬ IsBaseRow k.ops c.fin.n max_degree_of_places over r

-- the lines are those of the prime, which is the place with the number, and no row of the statement holds
pub record IsPlaceRead (k : CodeField) (c : CurveValue) (names : List NamedPlace) (name : List ℕ) (over : Over)
    (index : ℕ) (P : PlaceLines) (Q : PrimeValue) : Type 0 where
  pub count : ℕ
  pub places : List PlaceLines
  pub all : places_row.IsTrue k c over count places
  pub among : Any (λ R. R ≡ P) places
  pub number : P.number ≡ index
  pub is_place : IsPlaceOfLines k c all.side all.p P Q
  pub free : ¬ IsNameOf name names
  pub no_row : (r : Refusal) → ¬ IsPlaceRow k (record { curve = c; places = names }) name over index r
