-- How statements are printed, and which are read again as they were.
use Rattle.std.specs.Prelude.{ℕ, ◌<◌, true, false, List, ◌∷◌, ◌++◌, codes, Option, decimal, flat_map}
use Rattle.std.specs.List.{AllByRecursion}
use Rattle.ff_text.specs.Printing.{terms_text, element_text, IsWritableTerms, IsWritableElement}
use Rattle.function_field.specs.declared.side.Side.{Side}
use Rattle.function_field.specs.declared.side.Side.TheVariants.{Finite, Infinite}
use Rattle.ff_script.specs.declared.script.Modulus.{Modulus}
use Rattle.ff_script.specs.declared.script.Over.{Over}
use Rattle.ff_script.specs.declared.script.Over.TheVariants.{At, Inf}
use Rattle.ff_script.specs.declared.script.Statement.{Statement}
use Rattle.ff_script.specs.declared.script.Statement.TheVariants.{FieldOf, CurveOf, Mul, Factor, OrderOf, Places, Place, Constants, Genus}
use Rattle.ff_script.specs.Grammar.{numbers_of, IsWhole, IsName}

-- the numbers, each behind a space
abbrev pub numbers_text : List ℕ → List ℕ
numbers_text ns = flat_map (λ n. codes " " ++ decimal n) ns

-- the degree and the coefficients of a modulus, each behind a space
abbrev pub tail_text : Option Modulus → List ℕ
tail_text tail = numbers_text (numbers_of tail)

abbrev pub side_text : Side → List ℕ
side_text Finite = codes "finite"
side_text Infinite = codes "infinite"

abbrev pub over_text : Over → List ℕ
over_text (At g) = terms_text g
over_text Inf = codes "inf"

-- what stands behind the word of `place`
abbrev pub place_text : List ℕ → Over → ℕ → List ℕ
place_text name over index = name ++ (codes " = " ++ (over_text over ++ (codes " " ++ decimal index)))

-- the line of a statement, without its line feed
abbrev pub statement_text : Statement → List ℕ
statement_text (FieldOf p tail) = codes "field " ++ (decimal p ++ tail_text tail)
statement_text (CurveOf f) = codes "curve " ++ terms_text f
statement_text (Mul a b) = codes "mul " ++ (element_text a ++ (codes " " ++ element_text b))
statement_text (Factor g) = codes "factor " ++ terms_text g
statement_text (OrderOf side) = codes "order " ++ side_text side
statement_text (Places over) = codes "places " ++ over_text over
statement_text (Place name over index) = codes "place " ++ place_text name over index
statement_text Constants = codes "constants"
statement_text Genus = codes "genus"

-- each statement on a line that a line feed ends
abbrev pub script_text : List Statement → List ℕ
script_text ss = flat_map (λ s. statement_text s ++ codes "\n") ss

-- ---- what is read again as it was

-- at most nine digits
abbrev pub IsShort : ℕ → Type 0
IsShort n = n < 1000000000

abbrev pub IsWritableOver : Over → Type 0
IsWritableOver (At g) = IsWritableTerms false g
IsWritableOver Inf = Unit {0}

-- a statement that its text spells
abbrev pub IsWritable : Statement → Type 0
IsWritable (FieldOf p tail) = AllByRecursion IsShort (p ∷ numbers_of tail) × IsWhole tail
IsWritable (CurveOf f) = IsWritableTerms true f
IsWritable (Mul a b) = IsWritableElement a × IsWritableElement b
IsWritable (Factor g) = IsWritableTerms false g
IsWritable (OrderOf side) = Unit {0}
IsWritable (Places over) = IsWritableOver over
IsWritable (Place name over index) = IsName name × IsWritableOver over × IsShort index
IsWritable Constants = Unit {0}
IsWritable Genus = Unit {0}
