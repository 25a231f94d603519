-- The polynomial in x of terms, a term at a time, for exponents up to a bound.
use Rattle.std.proofs.Common.{◌≡◌, ◌≢◌, ℕ, zero, suc, ◌∷◌, ◌+◌, ◌-◌, ◌<◌, ◌≤◌, List, [], length, get_or, set, drop, replicate, refl, ap, ◌∙◌, arith, All}
use Rattle.std.proofs.lemmas.List.{length-set, length-replicate}
use Rattle.std.proofs.lemmas.List.Elements.{All-get_or, All-set}
use Rattle.ff_fields.specs.Field.{FieldOps, CodeField}
use Rattle.ff_fields.specs.Over.{IsOver, IsOver_trim, IsOver_zeros, get_or_below}
use Rattle.ff_poly.specs.Words.{poly_of}
use Rattle.ff_poly.specs.TermWords.{code_at}
use Rattle.ff_algebra.specs.CurveTerms.{degree_in_x, IsCoefficient}
use Rattle.ff_algebra.proofs.CurveTerms.{x_at_most, read_any, codes_more, codes_same, codes_none, IsCoefficient_poly_of}

-- a code inside a list is read so whatever is read outside
pub read_any_code : (codes : List ℕ) (i d e : ℕ) → i < length codes → get_or codes i d ≡ get_or codes i e
read_any_code [] i d e less = absurd (omega (arith, less))
read_any_code (c ∷ codes) zero d e less = refl
read_any_code (c ∷ codes) (suc i) d e less = read_any_code codes i d e (omega (arith, less))

-- the codes of the terms from j on
pub record AreCodesFrom (k : FieldOps) (bound : ℕ) (ts : List (ℕ × ℕ × ℕ)) (j : ℕ) (codes : List ℕ) : Type 0 where
  pub size : length codes ≡ bound + 1
  pub over : IsOver k codes
  pub each : (x : ℕ) → get_or codes x 0 ≡ code_at k 0 x (drop j ts)

module _ (k : CodeField) (bound : ℕ) (ts : List (ℕ × ℕ × ℕ)) where
  pub codes_start : (codes : List ℕ) → codes ≡ replicate (bound + 1) 0 → AreCodesFrom k.ops bound ts (length ts) codes
  codes_start codes codes_is =
      rw codes_is (record {
        size = length-replicate (bound + 1) 0;
        over = IsOver_zeros k (bound + 1);
        each = codes_none
            k.ops 0 (bound + 1) (length ts) ts (omega arith);
      })

  pub x_inside : (j : ℕ) → 0 < j → j ≤ length ts → degree_in_x ts ≤ bound → (get_or ts (j - 1) (0, 0, 0)).1 < bound + 1
  x_inside j some le low =
      let t = get_or ts (j - 1) (0, 0, 0) in
      let h : t.1 ≤ degree_in_x ts = x_at_most ts (j - 1) t (omega arith)
      (read_any ts (j - 1) (0, 0, 0) t (omega arith)) in
      omega (arith, h, low)

  pub codes_then : (j sum : ℕ) (codes : List ℕ) → 0 < j → j ≤ length ts → degree_in_x ts ≤ bound
      → All (λ t. t.2 < k.size) ts → AreCodesFrom k.ops bound ts j codes
      → (get_or ts (j - 1) (0, 0, 0)).0 ≡ 0
      → sum ≡ k.add (get_or ts (j - 1) (0, 0, 0)).2 (get_or codes (get_or ts (j - 1) (0, 0, 0)).1 0)
      → AreCodesFrom k.ops bound ts (j - 1) (set codes (get_or ts (j - 1) (0, 0, 0)).1 sum)
  codes_then j sum codes some le low ts_in old same sum_is =
      let t = get_or ts (j - 1) (0, 0, 0) in
      let less : j - 1 < length ts = omega arith in
      let inside : t.1 < length codes = let h = x_inside j some le low in omega (arith, h, old.size) in
      let t_in : t.2 < k.size = All-get_or (λ t. t.2 < k.size) ts (j - 1) (0, 0, 0) less ts_in in
      let next : j ≡ j - 1 + 1 = omega arith in
      let sum_in : sum < k.size = rw sum_is
      (k.laws.add_below t.2 (get_or codes t.1 0) t_in (get_or_below k codes t.1 old.over)) in
      record {
        size = length-set codes t.1 sum ∙ old.size;
        over = record { each = All-set (λ c. c < k.size) codes t.1 sum sum_in old.over.each };
        each = codes_more k.ops 0 codes ts (j - 1) t less (read_any ts (j - 1) (0, 0, 0) t less)
            (λ x. old.each x ∙ ap (λ m. code_at k.ops 0 x (drop m ts)) next) (set codes t.1 sum) same inside
            (ap (set codes t.1) sum_is);
      }

  pub codes_else : (j : ℕ) (codes : List ℕ) → 0 < j → j ≤ length ts → AreCodesFrom k.ops bound ts j codes
      → (get_or ts (j - 1) (0, 0, 0)).0 ≢ 0 → AreCodesFrom k.ops bound ts (j - 1) codes
  codes_else j codes some le old other =
      let t = get_or ts (j - 1) (0, 0, 0) in
      let less : j - 1 < length ts = omega arith in
      let next : j ≡ j - 1 + 1 = omega arith in
      record {
        size = old.size;
        over = old.over;
        each = codes_same k.ops 0 codes ts (j - 1) t less (read_any ts (j - 1) (0, 0, 0) t less)
            (λ x. old.each x ∙ ap (λ m. code_at k.ops 0 x (drop m ts)) next) other;
      }

module _ (k : CodeField) (bound : ℕ) (ts : List (ℕ × ℕ × ℕ)) (codes p : List ℕ)
    (all : AreCodesFrom k.ops bound ts 0 codes) (p_is : p ≡ poly_of codes) where
  pub coefficient_is : IsCoefficient k.ops ts 0 p
  coefficient_is = IsCoefficient_poly_of k.ops ts 0 codes p all.each p_is

  pub coefficient_over : IsOver k.ops p
  coefficient_over = rw p_is (IsOver_trim codes all.over)
