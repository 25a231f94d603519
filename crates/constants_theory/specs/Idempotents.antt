-- The idempotents of F other than 0 and 1, which F has exactly where it is no field (Lang, Algebra).
use Rattle.std.specs.Prelude.{◌≡◌}
use Rattle.ff_fields.specs.Field.{CodeField}
use Rattle.function_field.specs.Functions.{Equation, FunctionOf, ring_of}
use Rattle.function_field.specs.Values.{PresValue, Functions, equation_of}

-- a function that is its own square, and neither 0 nor 1
pub record IsProperIdempotentOf {k : CodeField} (c : Equation k) (e : FunctionOf c) : Type 0 where
  pub square : (ring_of c).◌⊗◌ e e ≡ e
  pub not_zero : ¬ (e ≡ (ring_of c).𝟘)
  pub not_one : ¬ (e ≡ (ring_of c).𝟙)

-- the same, of the functions of a presentation
abbrev pub IsProperIdempotent : (k : CodeField) (p : PresValue) → Functions k p → Type 0
IsProperIdempotent k p e = IsProperIdempotentOf (equation_of k p) e
