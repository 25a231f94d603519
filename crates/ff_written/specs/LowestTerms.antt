-- Elements in lowest terms, and the one way in which a function is written.
use Rattle.std.specs.Prelude.{◌≡◌, ◌≢◌, ℕ, ◌≤◌, [], length}
use Rattle.ff_fields.specs.Field.{FieldOps, CodeField}
use Rattle.ff_poly.specs.Words.{IsMonicList, IsPoly}
use Rattle.function_field.specs.Values.{ElemValue, PresValue, IsElem, IsMonicElem, IsSame, Functions, function_of}
use Rattle.ff_text.specs.Printed.{WrittenValue}

module _ (k : FieldOps) where
  -- a monic denominator, and no denominator of the same fractions has a smaller degree
  pub record IsInLowestTerms (n : ℕ) (z : ElemValue) : Type 0 where
    pub monic : IsMonicList z.den
    pub least : (w : ElemValue) → IsElem k n w → IsPoly w.den → w.den ≢ [] → IsSame k z w → length z.den ≤ length w.den

-- the element that is written
abbrev pub elem_of : WrittenValue → ElemValue
elem_of w = record { num = w.num; den = w.den }

-- w has n numerators over a monic denominator of least degree, and stands for the function f
pub record IsWritten (k : CodeField) (p : PresValue) (f : Functions k p) (w : WrittenValue) : Type 0 where
  pub element : IsElem k.ops p.n (elem_of w)
  pub trimmed : IsMonicElem (elem_of w)
  pub lowest : IsInLowestTerms k.ops p.n (elem_of w)
  pub same : function_of k p (elem_of w) ≡ f
