-- Lists of rows with the same entries have the same forms and row spaces.
use Rattle.std.proofs.Common.{◌≡◌, ℕ, suc, ◌<◌, ◌≤◌, List, [], ◌∷◌, length, sym, ◌∙◌, ap₂, subst, refl, arith}
use Rattle.ring_lemmas.specs.Ring.{Operations, CommRing}
use Rattle.linear_theory.specs.Module.{combine, sequence_ops}
use Rattle.linear_theory.specs.Echelon.{row, InRowSpace, SameRowSpace, IsReducedEchelon}

-- zeros and ones of a list of rows over one ring at the same positions as in one over another
module _ {A B : Type 0} (R : Operations A) (S : Operations B) (width : ℕ) (rows : List (ℕ → A)) (rows' : List (ℕ → B))
    (count : length rows' ≡ length rows)
    (zero_at : (i j : ℕ) → i < length rows → j < width → row R rows i j ≡ R.𝟘 → row S rows' i j ≡ S.𝟘)
    (one_at : (i j : ℕ) → i < length rows → j < width → row R rows i j ≡ R.𝟙 → row S rows' i j ≡ S.𝟙) where
  pub row_below : (r : IsReducedEchelon R width rows) (i : ℕ) → i < r.rank → i < length rows
  row_below r i l = let a = r.rank_within in omega arith

  pub left_below : (r : IsReducedEchelon R width rows) (i j : ℕ) → i < r.rank → j < r.pivot i → j < width
  left_below r i j l k = let a = r.pivot_below i l in omega arith

  -- the second is reduced where the first is
  abbrev pub reduced_across : IsReducedEchelon R width rows → IsReducedEchelon S width rows'
  reduced_across r = record {
    rank = r.rank;
    rank_within = subst (λ n. r.rank ≤ n) (sym count) r.rank_within;
    zero_rows = λ i j a b k. zero_at i j (subst (λ n. i < n) count b) k
        (r.zero_rows i j a (subst (λ n. i < n) count b) k);
    pivot = r.pivot;
    pivot_below = r.pivot_below;
    increasing = r.increasing;
    left_zero = λ i j l k. zero_at i j (row_below r i l) (left_below r i j l k) (r.left_zero i j l k);
    pivot_one = λ i l. one_at i (r.pivot i) (row_below r i l) (r.pivot_below i l) (r.pivot_one i l);
    column_zero = λ i l a b ne.
        zero_at l (r.pivot i) (subst (λ n. l < n) count b) (r.pivot_below i a)
        (r.column_zero i l a (subst (λ n. l < n) count b) ne);
  }

module _ {A : Type 0} (R : CommRing A) where
  -- the second list has the entries of the first
  pub record HasEntries (width : ℕ) (rows rows' : List (ℕ → A)) : Type 0 where
    pub count : length rows' ≡ length rows
    pub entry : (i j : ℕ) → i < length rows → j < width → row R.ops rows' i j ≡ row R.ops rows i j

  pub entries_back : (width : ℕ) (rows rows' : List (ℕ → A)) → HasEntries width rows rows' → HasEntries width rows' rows
  entries_back width rows rows' same = record {
    count = sym same.count;
    entry = λ i j l b. sym (same.entry i j (subst (λ n. i < n) same.count l) b);
  }

  combine_entries : (c : ℕ → A) (rows rows' : List (ℕ → A)) (j : ℕ) → length rows' ≡ length rows
      → ((i : ℕ) → i < length rows → row R.ops rows' i j ≡ row R.ops rows i j)
      → combine (sequence_ops R.ops) c rows' j ≡ combine (sequence_ops R.ops) c rows j
  combine_entries c [] [] j e h = refl
  combine_entries c [] (r' ∷ rows') j e h = absurd (omega arith)
  combine_entries c (r ∷ rows) [] j e h = absurd (omega arith)
  combine_entries c (r ∷ rows) (r' ∷ rows') j e h =
      ap₂ (λ x y. R.◌⊕◌ (R.◌⊗◌ (c 0) x) y) (h 0 (omega arith))
      (combine_entries (λ i. c (suc i)) rows rows' j (omega arith) (λ i l. h (suc i) (omega arith)))

  module _ (width : ℕ) (rows rows' : List (ℕ → A)) (same : HasEntries width rows rows') where
    pub space_of_entries : (v : ℕ → A) → InRowSpace R.ops width rows v → InRowSpace R.ops width rows' v
    space_of_entries v h = record {
      coefficient = h.coefficient;
      is = λ j l. h.is j l ∙ sym (combine_entries h.coefficient rows rows' j same.count (λ i k. same.entry i j k l));
    }

    -- what has the row space of the first has that of the second
    pub same_of_entries : (others : List (ℕ → A)) → SameRowSpace R.ops width rows others
        → SameRowSpace R.ops width rows' others
    same_of_entries others h = record {
      first_in = λ i l.
          let k : i < length rows = subst (λ n. i < n) same.count l in
          let m = h.first_in i k in
          record { coefficient = m.coefficient; is = λ j b. same.entry i j k b ∙ m.is j b };
      second_in = λ i l. space_of_entries (row R.ops others i) (h.second_in i l);
    }

  -- the form of the second list
  abbrev pub reduced_of_entries : (width : ℕ) (rows rows' : List (ℕ → A)) → HasEntries width rows rows'
      → IsReducedEchelon R.ops width rows → IsReducedEchelon R.ops width rows'
  reduced_of_entries width rows rows' same r =
      reduced_across R.ops R.ops width rows rows' same.count (λ i j l k e. same.entry i j l k ∙ e)
      (λ i j l k e. same.entry i j l k ∙ e) r
