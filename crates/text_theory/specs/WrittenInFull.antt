-- What a text tells in full: a decimal number is written with at most 64 digits.
use Rattle.std.specs.Prelude.{ℕ, ◌^◌, ◌<◌, ◌≤◌, List, length, All}
use Rattle.ff_poly.specs.Words.{IsPoly}
use Rattle.ff_text.specs.Printed.{WrittenValue}

-- no zero on top, and no number in its text has more than 64 digits
pub record IsWrittenInFull (p : List ℕ) : Type 0 where
  pub poly : IsPoly p
  pub codes : All (λ c. c < 10 ^ 64) p
  pub degree : length p ≤ 10 ^ 64

-- each numerator is written in full, and so is the denominator
pub record IsElemWrittenInFull (z : WrittenValue) : Type 0 where
  pub numerators : All IsWrittenInFull z.num
  pub denominator : IsWrittenInFull z.den
