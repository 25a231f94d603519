-- Steps of the loop that drops zeros on top.
use Rattle.std.proofs.Common.{◌≡◌, ◌≢◌, ℕ, ◌+◌, ◌-◌, ◌<◌, ◌≤◌, ◌⊎◌, inl, inr, List, [], ◌∷◌, ◌++◌, length, get_or, take, sym, ap, ◌∙◌, arith, eq-eqb, ne_eqb}
use Rattle.std.proofs.lemmas.List.{take_more}
use Rattle.ff_fields.specs.Code.{is_zero_code}
use Rattle.ring_lemmas.proofs.Lists.{trim_push_zero, IsTrimmed_push, trim_trimmed}
use Rattle.ff_poly.specs.Words.{IsPoly, poly_of}

take_last : (xs : List ℕ) (n : ℕ) → 0 < n → n ≤ length xs → take n xs ≡ take (n - 1) xs ++ get_or xs (n - 1) 0 ∷ []
take_last xs n pos le =
    let whole : n ≡ n - 1 + 1 = omega arith in
    ap (λ m. take m xs) whole ∙ take_more xs (n - 1) 0 (omega arith)

-- a zero on top is dropped
pub poly_of_take_less : (xs : List ℕ) (n : ℕ) → 0 < n → n ≤ length xs → get_or xs (n - 1) 0 ≡ 0
    → poly_of (take (n - 1) xs) ≡ poly_of (take n xs)
poly_of_take_less xs n pos le null =
    sym (ap poly_of (take_last xs n pos le)
    ∙ trim_push_zero is_zero_code (take (n - 1) xs) (get_or xs (n - 1) 0) (eq-eqb _ 0 null))

IsPoly_take : (xs : List ℕ) (n : ℕ) → n ≤ length xs → (n ≡ 0) ⊎ ((0 < n) × (get_or xs (n - 1) 0 ≢ 0))
    → IsPoly (take n xs)
IsPoly_take xs n le (inl none) = rw none (record { trimmed = tt })
IsPoly_take xs n le (inr (pos, some)) =
    rw (take_last xs n pos le) (record {
      trimmed = IsTrimmed_push is_zero_code (take (n - 1) xs) (get_or xs (n - 1) 0)
          (ne_eqb _ 0 some);
    })

-- where the loop ends, what is left is the polynomial
pub trimmed : (xs : List ℕ) (n : ℕ) → n ≤ length xs → (n ≡ 0) ⊎ ((0 < n) × (get_or xs (n - 1) 0 ≢ 0))
    → poly_of (take n xs) ≡ poly_of xs → IsPoly (take n xs) × (take n xs ≡ poly_of xs)
trimmed xs n le ends kept =
    let is_poly = IsPoly_take xs n le ends in
    (is_poly, sym (trim_trimmed is_zero_code (take n xs) is_poly.trimmed) ∙ kept)
