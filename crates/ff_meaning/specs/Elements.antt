-- How elements and polynomials are read: sums of terms, then polynomials, then elements.
use Rattle.std.specs.Prelude.{◌≡◌, ℕ, List, [], ◌∷◌, max, Option, Some, None}
use Rattle.ff_fields.specs.Field.{FieldOps, CodeField}
use Rattle.function_field.specs.Values.{ElemValue, PresValue, IsElem, function_of}
use Rattle.ff_algebra.specs.CurveTerms.{IsCoefficient, degree_in_x}
use Rattle.ff_text.specs.declared.terms.Term.{Term}
use Rattle.ff_text.specs.declared.terms.ElemText.{ElemText}
use Rattle.ff_meaning.specs.Meaning.{IsSumOf}
use Rattle.ff_meaning.specs.Refusals.{IsWithinDegrees}

-- the greatest exponent of x in lists of terms
abbrev pub greatest_in_x : List (List (ℕ × ℕ × ℕ)) → ℕ
greatest_in_x [] = 0
greatest_in_x (s ∷ ss) = max (degree_in_x s) (greatest_in_x ss)

module _ (k : FieldOps) where
  -- one sum for each entry
  abbrev pub AreSumsOf : List (List Term) → List (List (ℕ × ℕ × ℕ)) → Type 0
  AreSumsOf [] sums = sums ≡ []
  AreSumsOf (e ∷ es) [] = ⊥
  AreSumsOf (e ∷ es) (s ∷ ss) = IsSumOf k e s × AreSumsOf es ss

  -- the sum of the denominator that is written, and 1 where there is none
  abbrev pub IsDenSumOf : Option (List Term) → List (ℕ × ℕ × ℕ) → Type 0
  IsDenSumOf None s = s ≡ (0, 0, 1) ∷ []
  IsDenSumOf (Some ts) s = IsSumOf k ts s

  -- the sums of the entries, and that of the denominator
  pub record AreElementSums (e : ElemText) (sums : List (List (ℕ × ℕ × ℕ))) (den : List (ℕ × ℕ × ℕ)) : Type 0 where
    pub entries : AreSumsOf e.entries sums
    pub denominator : IsDenSumOf e.den den

  -- one polynomial for each sum, that of its terms without y
  abbrev pub AreCoefficients : List (List (ℕ × ℕ × ℕ)) → List (List ℕ) → Type 0
  AreCoefficients [] ps = ps ≡ []
  AreCoefficients (s ∷ ss) [] = ⊥
  AreCoefficients (s ∷ ss) (p ∷ ps) = IsCoefficient k s 0 p × AreCoefficients ss ps

-- z stands for the written element
pub record IsElementRead (k : CodeField) (n bound : ℕ) (e : ElemText) (z : ElemValue) : Type 0 where
  pub within : IsWithinDegrees k.ops n bound e
  pub same : (p : PresValue) → function_of k p z ≡ function_of k p within.value
  pub in_range : IsElem k.ops n z
