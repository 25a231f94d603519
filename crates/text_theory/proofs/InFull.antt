-- What is over a field of codes is written in full.
use Rattle.std.proofs.Common.{ℕ, ◌^◌, ◌<◌, ◌≤◌, List, length, All, arith}
use Rattle.std.proofs.lemmas.List.Elements.{All-weaker}
use Rattle.ff_fields.specs.Field.{CodeField}
use Rattle.ff_fields.specs.Over.{IsOver}
use Rattle.ff_poly.specs.Words.{IsPoly}
use Rattle.ff_text.specs.Printed.{WrittenValue}
use Rattle.text_theory.specs.WrittenInFull.{IsWrittenInFull, IsElemWrittenInFull}

pub over_in_full : (k : CodeField) (p : List ℕ) → IsOver k.ops p → IsPoly p → length p ≤ 10 ^ 64 → IsWrittenInFull p
over_in_full k p over poly short = record {
  poly = poly;
  codes = All-weaker (λ c. c < k.size) (λ c. c < 10 ^ 64) (λ c below. omega (arith, k.laws.size_within)) p over.each;
  degree = short;
}

pub elem_in_full : (k : CodeField) (z : WrittenValue) → All (IsOver k.ops) z.num → All IsPoly z.num
    → All (λ p. length p ≤ 10 ^ 64) z.num → IsOver k.ops z.den → IsPoly z.den → length z.den ≤ 10 ^ 64
    → IsElemWrittenInFull z
elem_in_full k z over poly short den_over den_poly den_short = record {
  numerators = λ i d below. over_in_full k _ (over i d below) (poly i d below) (short i d below);
  denominator = over_in_full k z.den den_over den_poly den_short;
}
