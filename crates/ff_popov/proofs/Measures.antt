-- The pivot of a row of codes is that of what it stands for.
use Rattle.std.proofs.Common.{◌≡◌, ◌≢◌, ℕ, zero, suc, ◌+◌, ◌-◌, ◌*◌, ◌<◌, ◌≤◌, ◌⊎◌, inl, inr, List, [], ◌∷◌, length, refl, sym, ap, ◌∙◌, arith, subst}
use Rattle.std.proofs.lemmas.Bool.{cases_lt}
use Rattle.std.proofs.lemmas.List.{length-map}
use Rattle.ff_fields.specs.Field.{CodeField}
use Rattle.ff_fields.specs.Code.{Code, code_ring, read_code}
use Rattle.ff_fields.specs.Over.{IsOver}
use Rattle.ff_fields.specs.Numbers.{read}
use Rattle.ring_lemmas.specs.Lists.{coeff_of, IsTrimmed}
use Rattle.ring_lemmas.specs.Rows.{Row, entry}
use Rattle.ring_lemmas.specs.Polynomials.{Pol}
use Rattle.ring_theory.specs.PolynomialRing.{pol_ring}
use Rattle.ring_lemmas.proofs.Polynomials.{coeff_past, coeff_top}
use Rattle.ff_poly.specs.Words.{IsPoly}
use Rattle.ff_poly.specs.Value.{value, numbers_value}
use Rattle.ff_poly.specs.Polynomials.{value_nil}
use Rattle.ff_poly.specs.Popov.{entry_at, IsPivot, IsZeroRow}
use Rattle.popov_theory.specs.Module.{PolynomialModule, measure, pivot, row_degree}
use Rattle.popov_theory.proofs.PolynomialRows.{row_width, row_entry, row_module_zero}
use Rattle.ring_theory.proofs.PolynomialRows.{same_entries, entry_zero}
use Rattle.popov_theory.proofs.Measure.{pivot_is, measure_zero}
use Rattle.ff_popov.specs.Reading.{read_row, row_space}
use Rattle.ff_popov.proofs.Lengths.{trim_length}
use Rattle.ff_popov.proofs.Pivots.{PivotSoFar, so_far_none, so_far_more, so_far_skip, so_far_zero, so_far_pivot, pivot_below}
use Rattle.ff_popov.proofs.ReadRows.{entry_read}
use native.Mathlib.Decide.{ℕ_discrete}

-- a row is zero or has a pivot
pub zero_or_pivot : (row : List (List ℕ)) → ((j : ℕ) → IsPoly (entry_at row j))
    → IsZeroRow row ⊎ ((j : ℕ) × IsPivot row j)
zero_or_pivot row trimmed = go (search_pivot (length row))
  where
    search_more : (n : ℕ) → (column : ℕ) × ((longest : ℕ) × PivotSoFar row n column longest)
        → (column : ℕ) × ((longest : ℕ) × PivotSoFar row (n + 1) column longest)
    search_more n (column, (longest, so_far)) = at (cases_lt (length (entry_at row n)) longest)
      where
        at : (length (entry_at row n) < longest) ⊎ (longest ≤ length (entry_at row n))
            → (column : ℕ) × ((longest : ℕ) × PivotSoFar row (n + 1) column longest)
        at (inl shorter) = (
          column,
          (
            longest,
            so_far_skip row n column longest (length (entry_at row n)) so_far refl
                shorter (trimmed n),
          ),
        )
        at (inr le) = (
          n,
          (
            length (entry_at row n),
            so_far_more row n column longest (length (entry_at row n)) so_far
                refl le (trimmed n),
          ),
        )

    search_pivot : (n : ℕ) → (column : ℕ) × ((longest : ℕ) × PivotSoFar row n column longest)
    search_pivot zero = (0, (0, so_far_none row))
    search_pivot (suc n) = subst (λ m. (column : ℕ) × ((longest : ℕ) × PivotSoFar row m column longest)) (omega arith)
        (search_more n (search_pivot n))

    go : (column : ℕ) × ((longest : ℕ) × PivotSoFar row (length row) column longest)
        → IsZeroRow row ⊎ ((j : ℕ) × IsPivot row j)
    go (column, (longest, so_far)) = at (ℕ_discrete longest 0)
      where
        at : Dec (longest ≡ 0) → IsZeroRow row ⊎ ((j : ℕ) × IsPivot row j)
        at (yes null) = inl (so_far_zero row (length row) column longest so_far (omega arith) null)
        at (no some) = inr (column, so_far_pivot row (length row) column longest so_far (omega arith) some)

module _ (k : CodeField) where
  pub value_short : (a : List ℕ) → length (value k a).0 ≤ length a
  value_short a = omega (arith, trim_length (code_ring k).is_zero (read k a), length-map a (read_code k))

  value_top : (a : List ℕ) → IsOver k.ops a → IsPoly a → 0 < length a
      → coeff_of (code_ring k).ops (value k a).0 (length a - 1) ≢ (code_ring k).𝟘
  value_top a a_in a_poly some = go (value k a).0 refl (value k a).1
    where
      size : length (value k a).0 ≡ length a
      size = sym (length-map (value k a).0 (λ x. x.0)) ∙ ap length (numbers_value k a a_in a_poly)

      go : (xs : List (Code k)) → (value k a).0 ≡ xs → IsTrimmed (code_ring k).is_zero (value k a).0
          → coeff_of (code_ring k).ops (value k a).0 (length a - 1) ≢ (code_ring k).𝟘
      go [] e t = absurd (omega (arith, ap length e, size, some))
      go (x ∷ xs) e t =
          subst (λ ys. coeff_of (code_ring k).ops ys (length a - 1) ≢ (code_ring k).𝟘) (sym e)
          (subst (λ n. coeff_of (code_ring k).ops (x ∷ xs) n ≢ (code_ring k).𝟘) (omega (arith, ap length e, size))
          (coeff_top (code_ring k) x xs (subst (IsTrimmed (code_ring k).is_zero) e t)))

  module _ (w : ℕ) where
    abbrev M : PolynomialModule (code_ring k) (Row (Pol (code_ring k)) (suc (w - 1)))
    M = row_space k w

    abbrev R : List (List ℕ) → Row (Pol (code_ring k)) (suc (w - 1))
    R v = read_row k (suc (w - 1)) v

    pub space_width : M.width ≡ suc (w - 1)
    space_width = row_width (code_ring k) (w - 1)

    pub coef_read : (v : List (List ℕ)) (s j : ℕ) → j < M.width
        → M.coef (R v) (s * M.width + j) ≡ coeff_of (code_ring k).ops (value k (entry_at v j)).0 s
    coef_read v s j less =
        let in_row : j < suc (w - 1) = omega (arith, less, space_width) in
        row_entry (code_ring k) (w - 1) (R v) s j in_row
        ∙ ap (λ p. coeff_of (code_ring k).ops p.0 s) (entry_read k (suc (w - 1)) j v in_row)

    pub coef_short : (v : List (List ℕ)) (s j : ℕ) → j < M.width → length (entry_at v j) ≤ s
        → M.coef (R v) (s * M.width + j) ≡ (code_ring k).𝟘
    coef_short v s j less short = coef_read v s j less
        ∙ coeff_past (code_ring k) (value k (entry_at v j)).0 s (omega (arith, value_short (entry_at v j), short))

    -- the measure, the degree and the pivot of a row with a pivot
    pub measured : (v : List (List ℕ)) (j : ℕ) → length v ≡ w → IsPivot v j → IsOver k.ops (entry_at v j)
        → IsPoly (entry_at v j)
        → (measure M (R v) ≡ suc ((length (entry_at v j) - 1) * M.width + j))
        × (row_degree M (R v) ≡ length (entry_at v j) - 1) × (pivot M (R v) ≡ j)
    measured v j size p over trimmed =
        let in_row : j < M.width = omega (arith, pivot_below v j p, size, space_width) in
        pivot_is M (R v) (length (entry_at v j) - 1) j in_row
        (λ z. value_top (entry_at v j) over trimmed p.some (sym (coef_read v (length (entry_at v j) - 1) j in_row) ∙ z))
        (λ s i less higher. coef_short v s i less (omega (arith, p.greatest i, higher)))
        (λ i right less. coef_short v (length (entry_at v j) - 1) i less (omega (arith, p.rightmost i right)))

    -- the zero row stands for zero
    pub zero_read : (v : List (List ℕ)) → IsZeroRow v → measure M (R v) ≡ 0
    zero_read v null = ap (measure M) is ∙ measure_zero M
      where
        is : R v ≡ M.𝟎
        is =
            same_entries (code_ring k) (suc (w - 1)) (R v) M.𝟎 (λ j less.
            entry_read k (suc (w - 1)) j v less ∙ ap (value k) (null.zero_at j) ∙ value_nil k
            ∙ sym (ap (entry (pol_ring (code_ring k)).ops (suc (w - 1)) j) (row_module_zero (code_ring k) (w - 1))
            ∙ entry_zero (code_ring k) (suc (w - 1)) j))
