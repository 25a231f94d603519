-- The answers of `curve`.
use Rattle.std.specs.Prelude.{◌≡◌, ℕ, List, ◌++◌, codes, decimal}
use Rattle.ff_fields.specs.Field.{CodeField}
use Rattle.ff_fields.specs.FieldData.{FieldData, IsFieldData, with_laws}
use Rattle.function_field.specs.Curves.{CurveValue}
use Rattle.function_field.specs.Values.{Functions}
use Rattle.constants_theory.specs.Idempotents.{IsProperIdempotent}
use Rattle.ff_algebra.specs.CurveTerms.{IsCurveOf}
use Rattle.ff_text.specs.declared.terms.Term.{Term}
use Rattle.ff_meaning.specs.Meaning.{IsSumOf}
use Rattle.ff_meaning.specs.Bindings.{Bindings, with_curve}
use Rattle.ff_cert.specs.Lines.{answer_line}

-- the curve of the terms
pub record IsCurveOfTerms (k : CodeField) (f : List Term) (c : CurveValue) : Type 0 where
  pub sum : List (ℕ × ℕ × ℕ)
  pub is_sum : IsSumOf k.ops f sum
  pub is_curve : IsCurveOf k sum c

-- The curve of the terms is bound, whose functions have no idempotents but 0 and 1; n is its degree in y, and c is its
-- number at infinity.
pub record IsTrue (d : FieldData) (f : List Term) (n c : ℕ) (next : Bindings) : Type 0 where
  pub is_field : IsFieldData d
  pub curve : CurveValue
  pub is_curve : IsCurveOfTerms (with_laws d is_field) f curve
  pub whole : (e : Functions (with_laws d is_field) curve.fin)
      → ¬ IsProperIdempotent (with_laws d is_field) curve.fin e
  pub degree : n ≡ curve.fin.n
  pub number : c ≡ curve.c
  pub bound : next ≡ with_curve d curve

-- the line with both numbers
abbrev pub lines : ℕ → ℕ → List ℕ
lines n c = answer_line (codes "n " ++ (decimal n ++ (codes " c " ++ decimal c)))

-- no polynomial stands in it
abbrev pub degree : ℕ
degree = 0
