-- When the answer to a statement is true, and what its lines are: a line for each statement.
use Rattle.std.specs.Prelude.{◌≡◌, ℕ, List, None}
use Rattle.ff_fields.specs.FieldData.{IsFieldData, ops_of, with_laws}
use Rattle.ff_script.specs.declared.script.Statement.{Statement}
use Rattle.ff_script.specs.declared.script.Statement.TheVariants.{FieldOf, CurveOf, Mul, Factor, OrderOf, Places, Place, Constants, Genus}
use Rattle.ff_meaning.specs.Bindings.{Bindings, ForField, ForCurve, ForBound}
use Rattle.ff_cert.specs.declared.answer.Answer.{Answer}
use Rattle.ff_cert.specs.declared.answer.Answer.TheVariants as answers
use Rattle.ff_cert.specs.declared.answer.PlaceLines.{PlaceLines}
use Rattle.ff_cert.specs.declared.answer.PowerLine.{PowerLine}
use Rattle.ff_text.specs.Printed.{WrittenValue}
use Rattle.ff_cert.specs.RowField as field_row
use Rattle.ff_cert.specs.RowCurve as curve_row
use Rattle.ff_cert.specs.RowMul as mul_row
use Rattle.ff_cert.specs.RowFactor as factor_row
use Rattle.ff_cert.specs.RowOrder as order_row
use Rattle.ff_cert.specs.RowPlace as place_row
use Rattle.ff_cert.specs.RowPlaces as places_row
use Rattle.ff_cert.specs.RowNamedPlace as named_place_row
use Rattle.ff_cert.specs.RowConstants as constants_row
use Rattle.ff_cert.specs.RowGenus as genus_row

-- with these bindings the answer to the statement is true, and the next bindings have taken it in
abbrev pub Answers : Bindings → Statement → Answer → Bindings → Type 0
Answers old (FieldOf p tail) a next =
    (q : ℕ) × (a ≡ answers.FieldOf q) × (old.field ≡ None) × field_row.IsTrue p tail q next
Answers old (CurveOf f) a next = (n : ℕ) × (c : ℕ) × (a ≡ answers.CurveOf n c)
    × ForField old (λ d. (old.bound ≡ None) × curve_row.IsTrue d f n c next)
Answers old (Mul x y) a next = (z : WrittenValue) × (a ≡ answers.Mul z)
    × ForCurve old (λ d c. (is : IsFieldData d) × mul_row.IsTrue (with_laws d is) c.fin x y z × (next ≡ old))
Answers old (Factor g) a next = (unit : ℕ) × (parts : List PowerLine) × (a ≡ answers.Factor unit parts)
    × ForCurve old (λ d c. factor_row.IsTrue (ops_of d) g unit parts × (next ≡ old))
Answers old (OrderOf s) a next = (zs : List WrittenValue) × (a ≡ answers.OrderOf zs)
    × ForCurve old (λ d c. (is : IsFieldData d) × order_row.IsTrue (with_laws d is) c s zs × (next ≡ old))
Answers old (Places over) a next = (count : ℕ) × (Ps : List PlaceLines) × (a ≡ answers.Places count Ps)
    × ForCurve old (λ d c. (is : IsFieldData d) × places_row.IsTrue (with_laws d is) c over count Ps × (next ≡ old))
Answers old (Place name over index) a next = (P : PlaceLines) × (a ≡ answers.Place P)
    × ForBound old (λ d b. (is : IsFieldData d) × named_place_row.IsTrue (with_laws d is) d b name over index P next)
Answers old Constants a next = (dimension : ℕ) × (zs : List WrittenValue) × (a ≡ answers.Constants dimension zs)
    × ForCurve old
    (λ d c. (is : IsFieldData d) × constants_row.IsTrue (with_laws d is) c.fin dimension zs × (next ≡ old))
Answers old Genus a next = (genus : ℕ) × (a ≡ answers.Genus genus)
    × ForCurve old (λ d c. (is : IsFieldData d) × genus_row.IsTrue (with_laws d is) c.fin genus × (next ≡ old))

-- its answer lines
abbrev pub answer_lines : Answer → List ℕ
answer_lines (answers.FieldOf q) = field_row.lines q
answer_lines (answers.CurveOf n c) = curve_row.lines n c
answer_lines (answers.Mul z) = mul_row.lines z
answer_lines (answers.Factor unit parts) = factor_row.lines unit parts
answer_lines (answers.OrderOf zs) = order_row.lines zs
answer_lines (answers.Places count Ps) = places_row.lines count Ps
answer_lines (answers.Place P) = place_row.lines P
answer_lines (answers.Constants dimension zs) = constants_row.lines dimension zs
answer_lines (answers.Genus genus) = genus_row.lines genus

-- the greatest degree of a polynomial in the answer lines
abbrev pub degree_of_answer : Answer → ℕ
degree_of_answer (answers.FieldOf q) = field_row.degree
degree_of_answer (answers.CurveOf n c) = curve_row.degree
degree_of_answer (answers.Mul z) = mul_row.degree z
degree_of_answer (answers.Factor unit parts) = factor_row.degree parts
degree_of_answer (answers.OrderOf zs) = order_row.degree zs
degree_of_answer (answers.Places count Ps) = places_row.degree Ps
degree_of_answer (answers.Place P) = place_row.degree P
degree_of_answer (answers.Constants dimension zs) = constants_row.degree zs
degree_of_answer (answers.Genus genus) = genus_row.degree
