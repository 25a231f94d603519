-- Rows in weak Popov form with a pivot in each column, in the module that they are read into.
use Rattle.std.proofs.Common.{◌≡◌, ℕ, zero, suc, ◌+◌, ◌-◌, ◌*◌, ◌<◌, ◌≤◌, ◌⊎◌, inl, inr, List, [], ◌∷◌, length, get_or, sym, ap, ◌∙◌, arith, subst, add-mul}
use Rattle.std.specs.Prelude.{All}
use Rattle.std.proofs.lemmas.Bool.{cases_lt}
use Rattle.std.proofs.lemmas.List.{length-map, nil_from_length}
use native.Mathlib.Decide.{ℕ_discrete}
use Rattle.ff_fields.specs.Field.{CodeField}
use Rattle.ff_fields.specs.Code.{code_ring, code_domain, code_field}
use Rattle.ring_lemmas.specs.Rows.{Row}
use Rattle.ring_lemmas.specs.Polynomials.{Pol}
use Rattle.ff_poly.specs.Words.{IsPoly}
use Rattle.ff_poly.specs.Popov.{entry_at, row_at, IsRow, IsPivot, IsZeroRow, IsWeakPopovMatrix, IsPopovMatrix}
use Rattle.popov_theory.specs.Module.{PolynomialModule, measure, pivot, row_degree, column}
use Rattle.popov_theory.specs.Span.{InSpan, IsWithin, HaveSameSpan}
use Rattle.ff_poly.specs.Popov as codes
use Rattle.popov_theory.specs.Popov as theory
use Rattle.popov_theory.specs.Popov.{Leading}
use Rattle.popov_theory.proofs.Positions.{column_shift}
use Rattle.popov_theory.proofs.Measure.{zero_from_measure}
use Rattle.popov_theory.proofs.PredictableDegree.{leading}
use Rattle.popov_theory.proofs.Span.{within_rows, span_zero}
use Rattle.popov_theory.proofs.PopovForm.{row_past}
use Rattle.popov_theory.proofs.Monotone.{within_from_leading}
use Rattle.ff_popov.specs.Reading.{read_row, row_space, read_rows}
use Rattle.ff_popov.specs.Rows.{IsOwner, IsOwners, IsPopovRow, IsPopovRows, owner_length}
use Rattle.ff_popov.proofs.Entries.{any_default}
use Rattle.ff_popov.proofs.Spans.{same_lattice}
use Rattle.ff_popov.proofs.ReadRows.{past_row, over_at, read_row_at}
use Rattle.ff_popov.proofs.Measures.{measured, space_width, zero_read}
use Rattle.ff_popov.proofs.Pivots.{pivot_below}
use Rattle.ff_popov.proofs.Positions.{times_le}
use Rattle.ff_popov.proofs.Transformations.{row_past as codes_past}

-- a row is zero or has a pivot
pub zero_or_pivot_of : (row : List (List ℕ)) → IsZeroRow row ⊎ ((j : ℕ) × IsPivot row j)
zero_or_pivot_of [] = inl (record { zero_at = λ j. nil_from_length (entry_at [] j) (omega arith) })
zero_or_pivot_of (a ∷ row) = go (zero_or_pivot_of row)
  where
    first : 0 < length a → ((i : ℕ) → length (entry_at row i) < length a) → IsPivot (a ∷ row) 0
    first some less = record {
      some = some;
      greatest = elim [ zero ↦ omega arith | suc i ↦ omega (arith, less i) ];
      rightmost = elim [ zero ↦ λ after. absurd (omega (arith, after)) | suc i ↦ λ after. less i ];
    }

    at_zero : (n : ℕ) → length a ≡ n → IsZeroRow row → IsZeroRow (a ∷ row) ⊎ ((j : ℕ) × IsPivot (a ∷ row) j)
    at_zero zero e null = inl (record { zero_at = elim [ zero ↦ nil_from_length a e | suc i ↦ null.zero_at i ] })
    at_zero (suc n) e null = inr (0, first (omega (arith, e)) (λ i. omega (arith, ap length (null.zero_at i), e)))

    go : IsZeroRow row ⊎ ((j : ℕ) × IsPivot row j) → IsZeroRow (a ∷ row) ⊎ ((j : ℕ) × IsPivot (a ∷ row) j)
    go (inl null) = at_zero (length a) (omega arith) null
    go (inr (j, p)) = at (cases_lt (length (entry_at row j)) (length a))
      where
        at : (length (entry_at row j) < length a) ⊎ (length a ≤ length (entry_at row j))
            → IsZeroRow (a ∷ row) ⊎ ((i : ℕ) × IsPivot (a ∷ row) i)
        at (inl less) = inr (0, first (omega (arith, less)) (λ i. omega (arith, p.greatest i, less)))
        at (inr le) = inr (
          suc j,
          record {
            some = p.some;
            greatest = elim [ zero ↦ le | suc i ↦ p.greatest i ];
            rightmost = elim [
              | zero ↦ λ after. absurd (omega (arith, after))
              | suc i ↦ λ after. p.rightmost i
                  (omega (arith, after))
            ];
          },
        )

module _ (k : CodeField) (w : ℕ) (rows : List (List (List ℕ))) (os : List ℕ) (all : All (IsRow k.ops w) rows)
    (weak : IsWeakPopovMatrix rows) (owners : IsOwners w rows os) where
  abbrev M : PolynomialModule (code_ring k) (Row (Pol (code_ring k)) (suc (w - 1)))
  M = row_space k w

  abbrev R : List (List ℕ) → Row (Pol (code_ring k)) (suc (w - 1))
  R v = read_row k (suc (w - 1)) v

  abbrev rs : List (Row (Pol (code_ring k)) (suc (w - 1)))
  rs = read_rows k w rows

  abbrev O : ℕ → ℕ
  O j = get_or os j 0

  -- the position of a row with a pivot is one of the list
  position_below : (m p : ℕ) → IsPivot (row_at rows m) p → m < length rows
  position_below m p at = go (cases_lt m (length rows))
    where
      go : (m < length rows) ⊎ (length rows ≤ m) → m < length rows
      go (inl less) = less
      go (inr more) = absurd (omega (arith, pivot_below (row_at rows m) p at, ap length (codes_past rows m more)))

  owner_is_row : (j : ℕ) → j < w → IsRow k.ops w (row_at rows (O j))
  owner_is_row j less = all (O j) [] (position_below (O j) j (owners.owner_at j less).pivot)

  pub owner_measured : (j : ℕ) → j < w
      → (measure M (get_or rs (O j) M.𝟎) ≡ suc ((owner_length rows os j - 1) * M.width + j))
      × (row_degree M (get_or rs (O j) M.𝟎) ≡ owner_length rows os j - 1) × (pivot M (get_or rs (O j) M.𝟎) ≡ j)
  owner_measured j less =
      subst (λ r. (measure M r ≡ suc ((owner_length rows os j - 1) * M.width + j))
      × (row_degree M r ≡ owner_length rows os j - 1) × (pivot M r ≡ j))
      (sym (read_row_at k w rows (O j)))
      (measured k w (row_at rows (O j)) j row.size o.pivot (over_at k (row_at rows (O j)) row.over j)
      (o.trimmed j [] (omega (arith, less, row.size))))
    where
      o : IsOwner rows j (O j)
      o = owners.owner_at j less

      row : IsRow k.ops w (row_at rows (O j))
      row = owner_is_row j less

  -- a row that isn't zero is the one of its column
  owned : (m : ℕ) → ¬ (measure M (get_or rs m M.𝟎) ≡ 0) → (p : ℕ) × (p < w) × (m ≡ O p)
  owned m some = go (zero_or_pivot_of (row_at rows m))
    where
      go : IsZeroRow (row_at rows m) ⊎ ((p : ℕ) × IsPivot (row_at rows m) p) → (p : ℕ) × (p < w) × (m ≡ O p)
      go (inl null) = absurd (some (ap (measure M) (read_row_at k w rows m) ∙ zero_read k w (row_at rows m) null))
      go (inr (p, at)) = (p, in_w, weak.apart m (O p) p at (owners.owner_at p in_w).pivot)
        where
          in_w : p < w
          in_w = omega (arith, pivot_below (row_at rows m) p at, (all m [] (position_below m p at)).size)

  owned_pivot : (m p : ℕ) → p < w → m ≡ O p → pivot M (get_or rs m M.𝟎) ≡ p
  owned_pivot m p less is = ap (λ i. pivot M (get_or rs i M.𝟎)) is ∙ (owner_measured p less).2

  pub owners_weak : theory.IsWeakPopov M rs
  owners_weak = record {
    apart = λ m n differ m_some n_some e.
        let a = owned m (λ z. m_some (zero_from_measure M _ z)) in
        let b = owned n (λ z. n_some (zero_from_measure M _ z)) in
        differ (a.2 ∙ ap O (sym (owned_pivot m a.0 a.1 a.2) ∙ e ∙ owned_pivot n b.0 b.1 b.2) ∙ sym b.2);
  }

  pub owners_full : 0 < w → theory.IsFull M rs
  owners_full positive = record {
    owner = O;
    owner_some = λ j less z. absurd (omega
        (arith, z, (owner_measured j (omega (arith, less, space_width k w, positive))).0));
    owner_pivot = λ j less. (owner_measured j (omega (arith, less, space_width k w, positive))).2;
  }

  -- the pivot of a member of the lattice is no shorter than that of the row of its column
  pub owner_shortest : (z : List (List ℕ)) (j : ℕ) → IsRow k.ops w z → All IsPoly z → IsPivot z j → InSpan M rs (R z)
      → owner_length rows os j ≤ length (entry_at z j)
  owner_shortest z j z_row z_poly p z_in = go (cases_lt (length (entry_at z j)) (owner_length rows os j))
    where
      in_row : j < length z
      in_row = pivot_below z j p

      at : (measure M (R z) ≡ suc ((length (entry_at z j) - 1) * M.width + j))
          × (row_degree M (R z) ≡ length (entry_at z j) - 1) × (pivot M (R z) ≡ j)
      at = measured k w z j z_row.size p (over_at k z z_row.over j) (z_poly j [] in_row)

      lead : Leading M rs (measure M (R z))
      lead = leading M (code_domain k) rs owners_weak (R z) z_in (λ e. absurd (omega (arith, e, at.0)))

      of : (q : ℕ) × (q < w) × (lead.index ≡ O q)
      of = owned lead.index lead.some

      same : j ≡ of.0
      same =
          sym at.2 ∙ ap (column M.width) lead.is
          ∙ column_shift M.width M.positive lead.times (measure M (get_or rs lead.index M.𝟎)) lead.some
          ∙ owned_pivot lead.index of.0 of.1 of.2

      is : measure M (R z) ≡ lead.times * M.width + measure M (get_or rs (O j) M.𝟎)
      is = subst (λ m. measure M (R z) ≡ lead.times * M.width + measure M (get_or rs m M.𝟎)) (of.2 ∙ ap O (sym same))
          lead.is

      less : j < w
      less = omega (arith, in_row, z_row.size)

      go : (length (entry_at z j) < owner_length rows os j) ⊎ (owner_length rows os j ≤ length (entry_at z j))
          → owner_length rows os j ≤ length (entry_at z j)
      go (inr le) = le
      go (inl shorter) =
          absurd (omega (
            arith,
            is,
            at.0,
            (owner_measured j less).0,
            times_le (length (entry_at z j) - 1 + 1) (owner_length rows os j - 1) M.width
                (omega (arith, shorter, p.some)),
            add-mul (length (entry_at z j) - 1) 1 M.width,
            M.positive,
          ))

  module _ (positive : 0 < w) (ps : List (List (List ℕ))) (size : length ps ≡ w)
      (each : (i : ℕ) → i < w → IsPopovRow k w rows os i (row_at ps i)) where
    abbrev qs : List (Row (Pol (code_ring k)) (suc (w - 1)))
    qs = read_rows k w ps

    popov_pivot : (i : ℕ) → i < w → IsPivot (row_at ps i) i
    popov_pivot i less = go (zero_or_pivot_of (row_at ps i))
      where
        h : IsPopovRow k w rows os i (row_at ps i)
        h = each i less

        at : (j : ℕ) → IsPivot (row_at ps i) j → Dec (j ≡ i) → IsPivot (row_at ps i) i
        at j p (yes e) = subst (IsPivot (row_at ps i)) e p
        at j p (no off) =
            absurd (omega (
              arith,
              h.smaller j (omega (arith, pivot_below (row_at ps i) j p, h.over.size)) off,
              owner_shortest (row_at ps i) j h.over h.trimmed p h.in_span,
            ))

        go : IsZeroRow (row_at ps i) ⊎ ((j : ℕ) × IsPivot (row_at ps i) j) → IsPivot (row_at ps i) i
        go (inl null) = absurd (omega (arith, ap length (null.zero_at i), h.size, (owners.owner_at i less).pivot.some))
        go (inr (j, p)) = at j p (ℕ_discrete j i)

    trimmed_at : (row : List (List ℕ)) → All IsPoly row → (j : ℕ) → IsPoly (entry_at row j)
    trimmed_at row h j = go (cases_lt j (length row))
      where
        go : (j < length row) ⊎ (length row ≤ j) → IsPoly (entry_at row j)
        go (inl less) = h j [] less
        go (inr more) = subst IsPoly (sym (past_row row j more)) (record { trimmed = tt })

    pub rows_popov : IsPopovMatrix w ps
    rows_popov = record {
      size = size;
      pivot_at = popov_pivot;
      monic = λ i less. (each i less).monic;
      smaller = λ i j less less' differ. omega
          (arith, (each i less).smaller j less' (λ e. differ (sym e)), (each j less').size);
      trimmed = λ i j. trimmed i j (cases_lt i w);
    }
      where
        trimmed : (i j : ℕ) → (i < w) ⊎ (w ≤ i) → IsPoly (entry_at (row_at ps i) j)
        trimmed i j (inl less) = trimmed_at (row_at ps i) (each i less).trimmed j
        trimmed i j (inr more) = subst (λ r. IsPoly (entry_at r j)) (sym (codes_past ps i (omega (arith, more, size))))
            (record { trimmed = tt })

    pub rows_in : All (IsRow k.ops w) ps
    rows_in i d less = subst (IsRow k.ops w) (any_default ps i [] d less) (each i (omega (arith, less, size))).over

    qs_measured : (j : ℕ) → j < w → measure M (get_or qs j M.𝟎) ≡ suc ((owner_length rows os j - 1) * M.width + j)
    qs_measured j less =
        ap (measure M) (read_row_at k w ps j)
        ∙ (measured k w (row_at ps j) j h.over.size (popov_pivot j less) (over_at k (row_at ps j) h.over.over j)
        (trimmed_at (row_at ps j) h.trimmed j)).0
        ∙ ap (λ n. suc ((n - 1) * M.width + j)) h.size
      where
        h : IsPopovRow k w rows os j (row_at ps j)
        h = each j less

    within : IsWithin M qs rs
    within = within_rows M qs rs (λ i. member i (cases_lt i w))
      where
        member : (i : ℕ) → (i < w) ⊎ (w ≤ i) → InSpan M rs (get_or qs i M.𝟎)
        member i (inl less) = subst (InSpan M rs) (sym (read_row_at k w ps i)) (each i less).in_span
        member i (inr more) = subst (InSpan M rs) (sym (row_past M qs i (omega (arith, more, size, length-map ps R))))
            (span_zero M rs)

    leads : (e : ℕ) → Leading M rs (suc e) → Leading M qs (suc e)
    leads e l =
        let a = owned l.index l.some in
        record {
          index = a.0;
          below = omega (arith, a.1, size, length-map ps R);
          some = λ z. absurd (omega (arith, z, qs_measured a.0 a.1));
          times = l.times;
          is = l.is ∙ ap (λ m. l.times * M.width + m)
              (ap (λ i. measure M (get_or rs i M.𝟎)) a.2 ∙ (owner_measured a.0 a.1).0 ∙ sym (qs_measured a.0 a.1));
        }

    -- the rows of the Popov basis span the lattice
    pub rows_span : HaveSameSpan M rs qs
    rows_span = record { left = within_from_leading M (code_field k) qs rs owners_weak within leads; right = within }

  -- the rows of the Popov basis are the Popov basis of the lattice
  pub basis_is : (ps : List (List (List ℕ))) → 0 < w → IsPopovRows k w rows os w ps
      → IsPopovMatrix w ps × All (IsRow k.ops w) ps × codes.HaveSameRowSpan k.ops w rows ps
  basis_is ps positive h = (
    rows_popov positive ps h.size h.each,
    rows_in positive ps h.size h.each,
    same_lattice k w
        rows ps all (rows_in positive ps h.size h.each) (rows_span positive ps h.size h.each),
  )
