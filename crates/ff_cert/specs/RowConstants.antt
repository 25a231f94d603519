-- The answers of `constants`: a basis over k of the functions that are algebraic over k (Stichtenoth, chapter 1).
use Rattle.std.specs.Prelude.{◌≡◌, ℕ, List, ◌++◌, length, map, codes, decimal}
use Rattle.ff_fields.specs.Field.{CodeField}
use Rattle.function_field.specs.Divisors.{IsConstant, IsSpaceBasis}
use Rattle.function_field.specs.Values.{PresValue, setting, function_of}
use Rattle.ff_text.specs.Printed.{WrittenValue}
use Rattle.ff_written.specs.LowestTerms.{elem_of}
use Rattle.ff_space.specs.Spaces.{IsPrintedBasis}
use Rattle.ff_cert.specs.Lines.{answer_line}
use Rattle.ff_cert.specs.RowOrder as order_row

module _ (k : CodeField) (p : PresValue) where
  -- zs are a basis of the constants, in the one form in which a space of functions is printed
  pub record IsTrue (dimension : ℕ) (zs : List WrittenValue) : Type 0 where
    pub count : dimension ≡ length zs
    pub basis : IsSpaceBasis (setting k p) (IsConstant (setting k p)) (map (λ z. function_of k p (elem_of z)) zs)
    pub printed : IsPrintedBasis k p (IsConstant (setting k p)) (map elem_of zs)

-- a line for the dimension, and one for each function
abbrev pub lines : ℕ → List WrittenValue → List ℕ
lines dimension zs = answer_line (codes "dimension " ++ decimal dimension) ++ order_row.lines zs

-- the greatest degree of the functions' polynomials
abbrev pub degree : List WrittenValue → ℕ
degree zs = order_row.degree zs
