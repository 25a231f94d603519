-- The polynomials that are spelled, as sums of terms over a field.
use Rattle.std.specs.Prelude.{◌≡◌, ℕ, ◌^◌, ◌<◌, Bool, find, nat_le, List, Option, Some, None, map, fold, flat_map, sum_by, if◌then◌else◌}
use Rattle.std.specs.List.{filter_map}
use Rattle.ff_fields.specs.Field.{FieldOps}
use Rattle.ff_text.specs.declared.fault.TextFault.{TextFault}
use Rattle.ff_text.specs.declared.fault.TextFault.TheVariants.{Syntax, CodeRange, Memory}
use Rattle.ff_text.specs.declared.terms.Factor.{Factor}
use Rattle.ff_text.specs.declared.terms.Factor.TheVariants.{Code, X, Y}
use Rattle.ff_text.specs.declared.terms.Term.{Term}

-- the number of a factor, if it is a code
abbrev pub code_in : Factor → Option ℕ
code_in (Code n) = Some n
code_in (X n) = None
code_in (Y n) = None

-- the exponents of x and of y in a factor
abbrev pub exponent_of_x : Factor → ℕ
exponent_of_x (Code n) = 0
exponent_of_x (X n) = n
exponent_of_x (Y n) = 0

abbrev pub exponent_of_y : Factor → ℕ
exponent_of_y (Code n) = 0
exponent_of_y (X n) = 0
exponent_of_y (Y n) = n

-- the codes that are written in a term, and in all terms, in their order
abbrev pub codes_of : List Factor → List ℕ
codes_of fs = filter_map code_in fs

abbrev pub written_codes : List Term → List ℕ
written_codes ts = flat_map (λ t. codes_of t.factors) ts

-- a fault in collecting terms: the first code that is the size of the field or more, or want of memory
abbrev pub IsCodeFault : ℕ → List ℕ → TextFault → Type 0
IsCodeFault size codes (CodeRange c) = find (λ d. nat_le size d) codes ≡ Some c
IsCodeFault size codes (Syntax column) = ⊥
IsCodeFault size codes Memory = Unit {0}

-- the exponents of each variable add up to less than 2^64
pub record HasSmallExponents (t : Term) : Type 0 where
  pub x : sum_by exponent_of_x t.factors < 2 ^ 64
  pub y : sum_by exponent_of_y t.factors < 2 ^ 64

module _ (k : FieldOps) where
  -- the code with its sign
  abbrev pub signed : Bool → ℕ → ℕ
  signed minus c = if minus then k.neg c else c

  -- a term: the exponents of y and of x, and the product of the codes with the sign
  abbrev pub triple_of : Term → ℕ × ℕ × ℕ
  triple_of t = (
    sum_by exponent_of_y t.factors,
    sum_by exponent_of_x t.factors,
    signed t.minus
        (fold k.mul 1 (codes_of t.factors)),
  )

  -- the terms in their order
  abbrev pub triples_of : List Term → List (ℕ × ℕ × ℕ)
  triples_of ts = map triple_of ts
