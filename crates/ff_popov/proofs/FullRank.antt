-- Rows in weak Popov form without a pivot in a column aren't of full rank; rows of width 0 are of full rank.
use Rattle.std.proofs.Common.{◌≡◌, ℕ, zero, suc, ◌-◌, ◌<◌, ◌≤◌, ◌⊎◌, inl, inr, List, [], ◌∷◌, length, get_or, refl, sym, ap, ap₂, ◌∙◌, arith, subst, replicate, Option, Some, None}
use Rattle.std.specs.Prelude.{All, MatchOption}
use Rattle.std.proofs.lemmas.Bool.{cases_lt}
use Rattle.std.proofs.lemmas.List.Elements.{All-nil, All-cons, All-replicate}
use Rattle.std.proofs.lemmas.List.{nil_from_length, length-replicate}
use Rattle.ff_fields.specs.Field.{CodeField}
use Rattle.ff_fields.specs.Code.{code_ring, code_domain}
use Rattle.ff_fields.specs.Over.{IsOver, IsOver_nil}
use Rattle.ring_lemmas.specs.Rows.{Row}
use Rattle.ring_lemmas.specs.Polynomials.{Pol}
use Rattle.ff_poly.specs.Value.{value}
use Rattle.ff_poly.specs.Polynomials.{codes_of, IsOver_codes_of, value_codes_of, value_not_zero}
use Rattle.ff_poly.specs.Popov.{row_at, IsRow, IsPivot, IsZeroRow, IsWeakPopovMatrix, HasFullRankMatrix, HasMultipleInRows, HaveSameRowSpan, IsPopovMatrix, multiple_of_row, combination_list}
use Rattle.popov_theory.specs.Module.{PolynomialModule, measure, pivot}
use Rattle.popov_theory.specs.Popov as theory
use Rattle.popov_theory.specs.Span as spans
use Rattle.popov_theory.proofs.Measure.{zero_from_measure}
use Rattle.popov_theory.proofs.Existence.{full_from_rank}
use Rattle.ff_popov.specs.Reading.{read_row, row_space, read_rows}
use Rattle.ff_popov.specs.Rows.{IsMissing}
use Rattle.ff_popov.proofs.OwnerBasis.{zero_or_pivot_of}
use Rattle.ff_popov.proofs.ReadRows.{over_at, read_row_at}
use Rattle.ff_popov.proofs.Measures.{measured, space_width, zero_read}
use Rattle.ff_popov.proofs.Pivots.{pivot_below}
use Rattle.ff_popov.proofs.Spans.{to_space, space_multiple, member_row, combination_row}
use Rattle.ff_popov.proofs.Transformations.{row_past as codes_past}

-- full rank is a matter of the lattice
pub full_rank_same : (k : CodeField) (w : ℕ) (rows rows' : List (List (List ℕ))) → HaveSameRowSpan k.ops w rows rows'
    → HasFullRankMatrix k.ops w rows → HasFullRankMatrix k.ops w rows'
full_rank_same k w rows rows' h full = record {
  multiple = λ v v_row.
      let m = full.multiple v v_row in
      record {
        factor = m.factor;
        factor_in = m.factor_in;
        factor_poly = m.factor_poly;
        factor_some = m.factor_some;
        in_span = h.left (multiple_of_row k.ops m.factor v) m.in_span;
      };
}

module _ (k : CodeField) where
  -- a row of codes for a row of polynomials
  codes_row : (n : ℕ) → Row (Pol (code_ring k)) n → List (List ℕ)
  codes_row zero v = []
  codes_row (suc n) (p, v) = codes_of k p ∷ codes_row n v

  codes_row_length : (n : ℕ) (v : Row (Pol (code_ring k)) n) → length (codes_row n v) ≡ n
  unfolding codes_row
  codes_row_length zero v = refl
  codes_row_length (suc n) (p, v) = ap suc (codes_row_length n v)

  codes_row_over : (n : ℕ) (v : Row (Pol (code_ring k)) n) → All (IsOver k.ops) (codes_row n v)
  unfolding codes_row
  codes_row_over zero v = All-nil (IsOver k.ops)
  codes_row_over (suc n) (p, v) = All-cons (IsOver k.ops) (codes_of k p) (codes_row n v) (IsOver_codes_of k p)
      (codes_row_over n v)

  read_codes_row : (n : ℕ) (v : Row (Pol (code_ring k)) n) → read_row k n (codes_row n v) ≡ v
  unfolding codes_row
  read_codes_row zero v = refl
  read_codes_row (suc n) (p, v) = ap₂ (λ a r. (a, r)) (value_codes_of k p) (read_codes_row n v)

  module _ (w : ℕ) (positive : 0 < w) (rows : List (List (List ℕ))) (all : All (IsRow k.ops w) rows) where
    abbrev M : PolynomialModule (code_ring k) (Row (Pol (code_ring k)) (suc (w - 1)))
    M = row_space k w

    abbrev rs : List (Row (Pol (code_ring k)) (suc (w - 1)))
    rs = read_rows k w rows

    pub space_full_rank : HasFullRankMatrix k.ops w rows → spans.HasFullRank M rs
    space_full_rank full = record { multiple = multiple }
      where
        multiple : (v : Row (Pol (code_ring k)) (suc (w - 1))) → spans.HasMultipleIn M rs v
        multiple v = record {
          factor = value k m.factor;
          some = value_not_zero k m.factor m.factor_in m.factor_poly m.factor_some;
          in_span =
              subst (spans.InSpan M rs)
              (space_multiple k w m.factor u m.factor_in u_row.over
              ∙ ap (M.◌·◌ (value k m.factor)) (read_codes_row (suc (w - 1)) v))
              (to_space k w rows all (multiple_of_row k.ops m.factor u) m.in_span);
        }
          where
            u : List (List ℕ)
            u = codes_row (suc (w - 1)) v

            u_row : IsRow k.ops w (codes_row (suc (w - 1)) v)
            u_row = record {
              size = omega (arith, codes_row_length (suc (w - 1)) v, positive);
              over = codes_row_over
                  (suc (w - 1)) v;
            }

            m : HasMultipleInRows k.ops w rows (codes_row (suc (w - 1)) v)
            m = full.multiple (codes_row (suc (w - 1)) v) u_row

    module _ (weak : IsWeakPopovMatrix rows) (j : ℕ) (less : j < w) (missing : IsMissing rows j) where
      position_below : (m p : ℕ) → IsPivot (row_at rows m) p → m < length rows
      position_below m p at = go (cases_lt m (length rows))
        where
          go : (m < length rows) ⊎ (length rows ≤ m) → m < length rows
          go (inl below) = below
          go (inr more) = absurd (omega (arith, pivot_below (row_at rows m) p at, ap length (codes_past rows m more)))

      pivot_read : (m p : ℕ) → IsPivot (row_at rows m) p → pivot M (get_or rs m M.𝟎) ≡ p
      pivot_read m p at =
          ap (pivot M) (read_row_at k w rows m)
          ∙ (measured k w (row_at rows m) p row.size at (over_at k (row_at rows m) row.over p)
          (missing.trimmed m (position_below m p at) p [] (pivot_below (row_at rows m) p at))).2
        where
          row : IsRow k.ops w (row_at rows m)
          row = all m [] (position_below m p at)

      -- a row that isn't zero has in codes the pivot of what it stands for
      pivot_of : (m : ℕ) → ¬ (measure M (get_or rs m M.𝟎) ≡ 0) → IsPivot (row_at rows m) (pivot M (get_or rs m M.𝟎))
      pivot_of m some = go (zero_or_pivot_of (row_at rows m))
        where
          go : IsZeroRow (row_at rows m) ⊎ ((p : ℕ) × IsPivot (row_at rows m) p)
              → IsPivot (row_at rows m) (pivot M (get_or rs m M.𝟎))
          go (inl null) = absurd (some (ap (measure M) (read_row_at k w rows m) ∙ zero_read k w (row_at rows m) null))
          go (inr (p, at)) = subst (IsPivot (row_at rows m)) (sym (pivot_read m p at)) at

      space_weak : theory.IsWeakPopov M rs
      space_weak = record {
        apart = λ m n differ m_some n_some e.
            differ (weak.apart m n (pivot M (get_or rs n M.𝟎))
            (subst (IsPivot (row_at rows m)) e (pivot_of m (λ z. m_some (zero_from_measure M _ z))))
            (pivot_of n (λ z. n_some (zero_from_measure M _ z))));
      }

      not_full : theory.IsFull M rs → ⊥
      not_full full = missing.none (full.owner j) (position_below (full.owner j) j at) at
        where
          in_width : j < M.width
          in_width = omega (arith, less, space_width k w)

          at : IsPivot (row_at rows (full.owner j)) j
          at = subst (IsPivot (row_at rows (full.owner j))) (full.owner_pivot j in_width)
              (pivot_of (full.owner j) (full.owner_some j in_width))

      -- a column without a pivot keeps the rank below the width
      pub rank_below : ¬ HasFullRankMatrix k.ops w rows
      rank_below rank = not_full (full_from_rank M (code_domain k) rs space_weak (space_full_rank rank))

empty_same : {X : Type 0} (u v : List X) → length u ≡ 0 → length v ≡ 0 → u ≡ v
empty_same u v u_size v_size = nil_from_length u u_size ∙ sym (nil_from_length v v_size)

module _ (k : CodeField) (w : ℕ) (rows : List (List (List ℕ))) (all : All (IsRow k.ops w) rows) where
  -- no rows, of a width above 0
  pub no_rows : 0 < w → length rows ≡ 0 → ¬ HasFullRankMatrix k.ops w rows
  no_rows positive none = rank_below k w positive rows all weak 0 positive missing
    where
      weak : IsWeakPopovMatrix rows
      weak = record {
        apart = λ i j column p q. absurd
            (omega (arith, pivot_below (row_at rows i) column p, ap length (codes_past rows i (omega (arith, none)))));
      }

      missing : IsMissing rows 0
      missing = record {
        none = λ m less. absurd (omega (arith, less, none));
        trimmed = λ m less. absurd (omega (arith, less, none));
      }

  -- rows without columns have no rows as their Popov basis
  pub no_columns : w ≡ 0 → IsPopovMatrix w [] × All (IsRow k.ops w) [] × HaveSameRowSpan k.ops w rows []
  no_columns none = (
    record {
      size = sym none;
      pivot_at = λ i less. absurd (omega (arith, less, none));
      monic = λ i less. absurd (omega (arith, less, none));
      smaller = λ i j less less' differ. absurd (omega (arith, less, none));
      trimmed = λ i j. record { trimmed = tt };
    },
    All-nil (IsRow k.ops w),
    record {
      left = λ v v_in. record {
        coefficients = [];
        is = record {
          size = refl;
          over = All-nil (IsOver k.ops);
          is = empty_same v (replicate w []) (omega (arith, (member_row k w rows all v v_in).size, none))
              (omega (arith, zeros_size [], none));
        };
      };
      right = λ v v_in. record {
        coefficients = replicate (length rows) [];
        is = record {
          size = length-replicate (length rows) [];
          over = zeros;
          is =
              empty_same v (combination_list k.ops w (replicate (length rows) []) rows)
              (omega (arith, (member_row k w [] (All-nil (IsRow k.ops w)) v v_in).size, none))
              (omega (arith, (combination_row k w (replicate (length rows) []) rows zeros all).size, none));
        };
      };
    },
  )
    where
      zeros_size : (a : List ℕ) → length (replicate w a) ≡ w
      zeros_size a = length-replicate w a

      zeros : All (IsOver k.ops) (replicate (length rows) [])
      zeros = All-replicate (IsOver k.ops) (length rows) [] IsOver_nil

  -- the Popov basis of the reduced rows is that of the rows, and they have no basis together
  pub found_of : {B : Type 0} → 0 < w → (reduced : List (List (List ℕ))) → HaveSameRowSpan k.ops w rows reduced
      → All (IsRow k.ops w) reduced → IsWeakPopovMatrix reduced → (found : Option B) (of : B → List (List (List ℕ)))
      → MatchOption found ((j : ℕ) × (j < w) × IsMissing reduced j)
      (λ basis. IsPopovMatrix w (of basis) × All (IsRow k.ops w) (of basis)
      × HaveSameRowSpan k.ops w reduced (of basis))
      → MatchOption found (¬ HasFullRankMatrix k.ops w rows)
      (λ basis. IsPopovMatrix w (of basis) × All (IsRow k.ops w) (of basis) × HaveSameRowSpan k.ops w rows (of basis))
  found_of positive reduced same reduced_in weak None of (j, less, missing) = λ rank. rank_below k w positive reduced
      reduced_in weak j less missing
      (full_rank_same k w rows reduced same rank)
  found_of positive reduced same reduced_in weak (Some basis) of (popov, basis_in, span) = (
    popov,
    basis_in,
    record {
      left = λ v v_in. span.left v (same.left v v_in);
      right = λ v v_in. same.right v (span.right v v_in);
    },
  )
