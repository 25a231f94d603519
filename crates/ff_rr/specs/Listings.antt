-- The idempotents of a function field as they are listed, and the words of the private contracts.
use Rattle.std.specs.Prelude.{◌≡◌, ◌<◌, ℕ, List, length, get_or, map, All, AllPairs}
use Rattle.std.specs.List.{AllZip, insert}
use Rattle.std.specs.List.Sorted.{IsPermutation}
use Rattle.ff_fields.specs.Field.{CodeField}
use Rattle.function_field.specs.Values.{ElemValue, PresValue, Functions, function_of, equation_of}
use Rattle.constants_theory.specs.Idempotents.{IsProperIdempotent}
use Rattle.idempotents_theory.specs.Coordinates as coordinates
use Rattle.ff_falg.specs.Algebras.{IsVector}
use Rattle.ff_text.specs.Printed.{WrittenValue, elem_text}
use Rattle.ff_written.specs.LowestTerms.{IsWritten}
use Rattle.ff_written.specs.TextOrder.{IsBeforeText}

-- the text of the one comes before that of the other
abbrev pub IsWrittenBefore : WrittenValue → WrittenValue → Type 0
IsWrittenBefore z w = IsBeforeText (elem_text z.num z.den) (elem_text w.num w.den)

-- no text comes before that of an earlier function
abbrev pub AreByText : List WrittenValue → Type 0
AreByText zs = AllPairs (λ z w. ¬ IsWrittenBefore w z) zs

-- z stands behind the members that it doesn't come before, up to the first one that it comes before
pub record IsPutInto (old : List WrittenValue) (z : WrittenValue) (new : List WrittenValue) : Type 0 where
  pub position : ℕ
  pub is : new ≡ insert old position z
  pub behind : (j : ℕ) (d : WrittenValue) → j < position → j < length old → ¬ IsWrittenBefore z (get_or old j d)
  pub ahead : (d : WrittenValue) → position < length old → IsWrittenBefore z (get_or old position d)

module _ (k : CodeField) (p : PresValue) where
  -- an idempotent other than 0 and 1 as it is written
  pub record IsWrittenIdempotent (z : WrittenValue) : Type 0 where
    pub function : Functions k p
    pub written : IsWritten k p function z
    pub proper : IsProperIdempotent k p function

  -- these functions as they are written, by their texts
  pub record AreListed (fs : List (Functions k p)) (zs : List WrittenValue) : Type 0 where
    pub in_turn : List WrittenValue
    pub written : AllZip (IsWritten k p) fs in_turn
    pub same : IsPermutation in_turn zs
    pub ascending : AreByText zs

  -- the sum of the functions of the elements times the codes
  abbrev pub function_at : List ElemValue → List ℕ → Functions k p
  function_at zs v = coordinates.function_at (equation_of k p) (map (function_of k p) zs) v

  -- the vectors have the coordinates of the functions gs in those of the elements
  pub record AreVectorsOf (zs : List ElemValue) (gs : List (Functions k p)) (vs : List (List ℕ)) : Type 0 where
    pub in_range : All (IsVector k.ops (length zs)) vs
    pub are : map (function_at zs) vs ≡ gs
