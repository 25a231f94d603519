-- A Popov basis of codes, in the module that it is read into.
use Rattle.std.proofs.Common.{◌≡◌, ℕ, suc, ◌+◌, ◌-◌, ◌*◌, ◌<◌, ◌≤◌, ◌⊎◌, inl, inr, List, [], length, get_or, sym, ap, ◌∙◌, arith, subst, ◌++◌, ◌∷◌, refl, ap₂, length-append, add-mul}
use Rattle.std.specs.Prelude.{All}
use Rattle.std.proofs.lemmas.Bool.{cases_lt}
use Rattle.std.proofs.lemmas.List.{length-map, get_or-map, get_or-append_right}
use Rattle.ff_fields.specs.Field.{CodeField}
use Rattle.ff_fields.specs.Code.{code_ring, code_domain, read_code, read_code_below, same_code}
use Rattle.ring_lemmas.specs.Rows.{Row}
use Rattle.ring_lemmas.specs.Polynomials.{Pol}
use Rattle.ff_poly.specs.Popov.{entry_at, row_at, IsRow, IsPopovMatrix}
use Rattle.popov_theory.specs.Module.{PolynomialModule, measure, pivot, row_degree, column}
use Rattle.popov_theory.specs.Span.{InSpan}
use Rattle.popov_theory.specs.Popov as theory
use Rattle.popov_theory.specs.Popov.{Leading}
use Rattle.popov_theory.proofs.Positions.{column_shift}
use Rattle.popov_theory.proofs.PredictableDegree.{leading}
use Rattle.popov_theory.proofs.PopovForm.{row_past}
use Rattle.ff_popov.specs.Reading.{read_row, row_space, read_rows}
use Rattle.ff_popov.proofs.ReadRows.{over_at, read_row_at}
use Rattle.ff_popov.proofs.Measures.{measured, space_width, coef_read, coef_short}
use Rattle.ff_popov.proofs.Positions.{times_le}
use Rattle.ring_lemmas.specs.Lists.{coeff_of}
use Rattle.ff_poly.specs.Value.{value}
use Rattle.ff_poly.specs.Polynomials.{series_read}

module _ (k : CodeField) (w : ℕ) (basis : List (List (List ℕ))) (all : All (IsRow k.ops w) basis)
    (popov : IsPopovMatrix w basis) where
  abbrev M : PolynomialModule (code_ring k) (Row (Pol (code_ring k)) (suc (w - 1)))
  M = row_space k w

  abbrev R : List (List ℕ) → Row (Pol (code_ring k)) (suc (w - 1))
  R v = read_row k (suc (w - 1)) v

  abbrev rs : List (Row (Pol (code_ring k)) (suc (w - 1)))
  rs = read_rows k w basis

  pub basis_length : length rs ≡ w
  basis_length = length-map basis R ∙ popov.size

  basis_row : (i : ℕ) → i < w → IsRow k.ops w (row_at basis i)
  basis_row i less = all i [] (omega (arith, less, popov.size))

  pub basis_measured : (i : ℕ) → i < w
      → (measure M (get_or rs i M.𝟎) ≡ suc ((length (entry_at (row_at basis i) i) - 1) * M.width + i))
      × (row_degree M (get_or rs i M.𝟎) ≡ length (entry_at (row_at basis i) i) - 1)
      × (pivot M (get_or rs i M.𝟎) ≡ i)
  basis_measured i less =
      subst (λ r. (measure M r ≡ suc ((length (entry_at (row_at basis i) i) - 1) * M.width + i))
      × (row_degree M r ≡ length (entry_at (row_at basis i) i) - 1) × (pivot M r ≡ i))
      (sym (read_row_at k w basis i))
      (measured k w (row_at basis i) i (basis_row i less).size (popov.pivot_at i less)
      (over_at k (row_at basis i) (basis_row i less).over i) (popov.trimmed i i))

  pub basis_weak : theory.IsWeakPopov M rs
  basis_weak = record {
    apart = λ i j differ i_some j_some. apart i j differ (cases_lt i w) (cases_lt j w) i_some j_some;
  }
    where
      apart : (i j : ℕ) → ¬ (i ≡ j) → (i < w) ⊎ (w ≤ i) → (j < w) ⊎ (w ≤ j) → ¬ (get_or rs i M.𝟎 ≡ M.𝟎)
          → ¬ (get_or rs j M.𝟎 ≡ M.𝟎) → ¬ (pivot M (get_or rs i M.𝟎) ≡ pivot M (get_or rs j M.𝟎))
      apart i j differ (inl less) (inl less') i_some j_some = λ e. differ
          (sym (basis_measured i less).2 ∙ e ∙ (basis_measured j less').2)
      apart i j differ (inr more) side i_some j_some = λ e. i_some (row_past M rs i (omega (arith, more, basis_length)))
      apart i j differ (inl less) (inr more) i_some j_some = λ e. j_some
          (row_past M rs j (omega (arith, more, basis_length)))

  pub basis_full : 0 < w → theory.IsFull M rs
  basis_full positive = record {
    owner = λ j. j;
    owner_some = λ j less z. absurd (omega
        (arith, z, (basis_measured j (omega (arith, less, space_width k w, positive))).0));
    owner_pivot = λ j less. (basis_measured j (omega (arith, less, space_width k w, positive))).2;
  }

  -- a member of the lattice has a pivot no shorter than that of the basis in its column
  pub member_longer : (z : Row (Pol (code_ring k)) (suc (w - 1))) (len j : ℕ) → InSpan M rs z
      → measure M z ≡ suc ((len - 1) * M.width + j) → pivot M z ≡ j → 0 < len → j < w
      → length (entry_at (row_at basis j) j) ≤ len
  member_longer z len j z_in z_measure z_pivot some less = go (cases_lt len (length (entry_at (row_at basis j) j)))
    where
      lead : Leading M rs (measure M z)
      lead = leading M (code_domain k) rs basis_weak z z_in (λ e. absurd (omega (arith, e, z_measure)))

      index_less : lead.index < w
      index_less = omega (arith, lead.below, basis_length)

      same : j ≡ lead.index
      same =
          sym z_pivot ∙ ap (column M.width) lead.is
          ∙ column_shift M.width M.positive lead.times (measure M (get_or rs lead.index M.𝟎)) lead.some
          ∙ (basis_measured lead.index index_less).2

      is : measure M z ≡ lead.times * M.width + measure M (get_or rs j M.𝟎)
      is = subst (λ i. measure M z ≡ lead.times * M.width + measure M (get_or rs i M.𝟎)) (sym same) lead.is

      go : (len < length (entry_at (row_at basis j) j)) ⊎ (length (entry_at (row_at basis j) j) ≤ len)
          → length (entry_at (row_at basis j) j) ≤ len
      go (inr le) = le
      go (inl shorter) =
          absurd (omega (
            arith,
            is,
            z_measure,
            (basis_measured j less).0,
            times_le (len - 1 + 1) (length (entry_at (row_at basis j) j) - 1) M.width (omega (arith, shorter, some)),
            add-mul (len - 1) 1 M.width,
            M.positive,
          ))

  -- it is a Popov basis of the module that it is read into, so that the theory speaks of it
  pub basis_popov : 0 < w → theory.IsPopov M rs
  basis_popov positive = record {
    size = omega (arith, basis_length, space_width k w, positive);
    some = λ i less z. absurd (omega (arith, z, (basis_measured i (inside i less)).0));
    pivot_at = λ i less. (basis_measured i (inside i less)).2;
    monic = λ i less. monic i (inside i less) (popov.monic i (inside i less));
    small = λ i j s i_less j_less differ le. small i j s (inside i i_less) (inside j j_less) differ le;
  }
    where
      inside : (i : ℕ) → i < M.width → i < w
      inside i less = omega (arith, less, space_width k w, positive)

      small : (i j s : ℕ) → i < w → j < w → ¬ (i ≡ j) → row_degree M (get_or rs j M.𝟎) ≤ s
          → M.coef (get_or rs i M.𝟎) (s * M.width + j) ≡ (code_ring k).𝟘
      small i j s i_less j_less differ le =
          ap (λ r. M.coef r (s * M.width + j)) (read_row_at k w basis i)
          ∙ coef_short k w (row_at basis i) s j (omega (arith, j_less, space_width k w, positive))
          (omega (arith, popov.smaller i j i_less j_less differ, le, (basis_measured j j_less).1))

      top_one : (a : List ℕ) → (lower : List ℕ) × (a ≡ lower ++ 1 ∷ [])
          → coeff_of (code_ring k).ops (value k a).0 (length a - 1) ≡ (code_ring k).𝟙
      top_one a (lower, e) =
          series_read k a (length a - 1)
          ∙ get_or-map (read_code k) a (length a - 1) 0 (code_ring k).𝟘 (omega (arith, size))
          ∙ ap (read_code k) (ap (λ x. get_or x (length a - 1) 0) e
          ∙ get_or-append_right lower (1 ∷ []) (length lower) (length a - 1) 0 refl (omega (arith, size))
          ∙ ap (λ n. get_or (1 ∷ []) n 0) none)
          ∙ same_code k (read_code k 1) (code_ring k).𝟙 (read_code_below k 1 k.laws.one_below)
        where
          size : length a ≡ length lower + 1
          size = ap length e ∙ length-append lower (1 ∷ [])

          none : length a - 1 - length lower ≡ 0
          none = omega (arith, size)

      monic : (i : ℕ) → i < w → (lower : List ℕ) × (entry_at (row_at basis i) i ≡ lower ++ 1 ∷ [])
          → M.coef (get_or rs i M.𝟎) (measure M (get_or rs i M.𝟎) - 1) ≡ (code_ring k).𝟙
      monic i less one =
          ap₂ (λ r n. M.coef r (n - 1)) (read_row_at k w basis i) (basis_measured i less).0
          ∙ ap (M.coef (R (row_at basis i))) (omega arith)
          ∙ coef_read k w (row_at basis i) (length (entry_at (row_at basis i) i) - 1) i
          (omega (arith, less, space_width k w, positive))
          ∙ top_one (entry_at (row_at basis i) i) one
