-- Lines from the start of the elimination to its end.
use Rattle.std.proofs.Common.{◌≡◌, ◌≢◌, ℕ, zero, suc, ◌+◌, ◌-◌, ◌*◌, ◌<◌, ◌≤◌, inl, inr, List, [], ◌∷◌, length, get_or, take, drop, set, replicate, refl, sym, ap, ◌∙◌, arith, subst, All}
use Rattle.std.specs.Prelude.{remove}
use Rattle.std.proofs.lemmas.Bool.{cases_lt}
use Rattle.std.proofs.lemmas.List.{get_or_past, get_or_default, get_or-map, get_or-drop, get_or-take, get_or-set_same, get_or-set_other, get_or-replicate, length-map, length-take, length-replicate}
use Rattle.std.proofs.lemmas.List.Edits.{length-remove}
use Rattle.std.proofs.lemmas.List.Elements.{All-take}
use Rattle.ring_lemmas.specs.Rows.{row_zero, row_add, row_scale, row_one, row_mul}
use Rattle.ring_lemmas.proofs.Rows.{pair_path, row_add_comm, row_add_zero}
use Rattle.ff_fields.specs.Field.{CodeField}
use Rattle.ff_fields.specs.Over.{IsOver}
use Rattle.ff_poly.specs.Words.{IsPoly}
use Rattle.ff_poly.specs.Value.{value}
use Rattle.ff_poly.specs.Polynomials.{polynomials, value_nil}
use Rattle.function_field.specs.Values.{PresValue, row_of_list, equation_of}
use Rattle.ff_algebra.specs.RowProducts.{IsPolyRow, row_at}
use Rattle.ff_algebra.specs.Inverses.{line_entry, HasOwnEntry, eliminated_lines, IsEliminatedBy, ClearsColumn, IsInverseLine, AreEliminatedLines}
use Rattle.ff_algebra.proofs.Elimination.{skip, skip_other, skip_apart, skip_below, get_or_skip, cleared_here, cleared_kept, own_kept, line_eliminated}

-- past the last line, and past the end of a line, entries are empty
entry_past : (lines : List (List (List ℕ))) (i j : ℕ) → length lines ≤ i → line_entry lines i j ≡ []
entry_past lines i j past = ap (λ line. get_or line j []) (get_or_past lines i [] past)

module _ (k : CodeField) (p : PresValue) (v : List (List ℕ)) where
  -- ---- one column more

  module _ (column : ℕ) (old new : List (List (List ℕ))) (start : p.n < column) (is : AreEliminatedLines k p v column old)
    where
      kept : (((i : ℕ) → line_entry old i column ≡ []) × (new ≡ old)) → AreEliminatedLines k p v (column + 1) new
      kept (none, same) =
          let more : (i j : ℕ) → p.n < j → j < column + 1 → line_entry old i j ≡ []
          = λ i j late early. elim (cases_lt j column) as (λ _. line_entry old i j ≡ []) [
            | inl less ↦ is.cleared i j late less
            | inr past ↦ subst (λ c. line_entry old i c ≡ []) (omega arith) (none i)
          ] in
          subst (AreEliminatedLines k p v (column + 1)) (sym same) (record { each = is.each; cleared = more; own = is.own })

      module _ (i : ℕ) (by : IsEliminatedBy k.ops column old new i) where
        abbrev pivot : List (List ℕ)
        pivot = get_or old i []

        pivot_is : IsInverseLine k p v pivot
        pivot_is = is.each i by.within

        size : length new ≡ length (remove old i)
        size = ap length by.others ∙ length-map (remove old i) (eliminated_lines k.ops column pivot)

        pub one_less : length new + 1 ≡ length old
        one_less = ap (λ m. m + 1) size ∙ length-remove old i by.within

        -- each line is the elimination of another one
        line_is : (j : ℕ) → j < length new → get_or new j [] ≡ eliminated_lines k.ops column pivot (get_or old (skip i j) [])
        line_is j less =
            ap (λ lines. get_or lines j []) by.others
            ∙ get_or-map (eliminated_lines k.ops column pivot) (remove old i) j [] [] (omega (arith, size))
            ∙ ap (eliminated_lines k.ops column pivot) (get_or_skip old i j [] by.within)

        source_below : (j : ℕ) → j < length new → skip i j < length old
        source_below j less = omega (arith, skip_below i j, one_less)

        source : (j : ℕ) → j < length new → IsInverseLine k p v (get_or old (skip i j) [])
        source j less = is.each (skip i j) (source_below j less)

        -- an entry where the line and the pivot have nothing
        empty_at : (j c : ℕ) → line_entry old i c ≡ [] → ((m : ℕ) → m ≡ skip i j → line_entry old m c ≡ [])
            → line_entry new j c ≡ []
        empty_at j c pivot_none none =
            elim (cases_lt j (length new)) as (λ _. line_entry new j c ≡ []) [
              | inl less ↦ ap (λ line. get_or line c []) (line_is j less)
                  ∙ cleared_kept k (2 * p.n + 1) column pivot (get_or old (skip i j) [])
                  pivot_is.row (source j less).row
                  c pivot_none (none (skip i j) refl)
              | inr past ↦ entry_past new j c past
            ]

        empty_here : (j : ℕ) → line_entry new j column ≡ []
        empty_here j =
            elim (cases_lt j (length new)) as (λ _. line_entry new j column ≡ []) [
              | inl less ↦ ap (λ line. get_or line column []) (line_is j less)
                  ∙ cleared_here k (2 * p.n + 1) column pivot (get_or old (skip i j) [])
                  pivot_is.row (source j less).row
              | inr past ↦ entry_past new j column past
            ]

        cleared : (j c : ℕ) → p.n < c → c < column + 1 → line_entry new j c ≡ []
        cleared j c late early =
            elim (cases_lt c column) as (λ _. line_entry new j c ≡ []) [
              | inl less ↦ empty_at j c (is.cleared i c late less) (λ m e. is.cleared m c late less)
              | inr past ↦ subst (λ m. line_entry new j m ≡ []) (omega arith) (empty_here j)
            ]

        own : (j : ℕ) → j < length new → HasOwnEntry (p.n + 1) new j
        own j less =
            let mine = is.own (skip i j) (source_below j less) in
            let pivot_none = mine.alone i (λ e. skip_other i j (sym e)) in
            record {
              column = mine.column;
              within = mine.within;
              some = λ gone.
                  own_kept k (2 * p.n + 1) column pivot (get_or old (skip i j) []) pivot_is.row (source j less).row
                  mine.column pivot_none mine.some by.some
                  (sym (ap (λ line. get_or line mine.column []) (line_is j less)) ∙ gone);
              alone = λ m apart. empty_at m mine.column pivot_none
                  (λ s e. subst (λ t. line_entry old t mine.column ≡ []) (sym e)
                  (mine.alone (skip i m) (skip_apart i m j apart)));
            }

        eliminated_by : AreEliminatedLines k p v (column + 1) new
        eliminated_by = record {
          each = λ j less. subst (IsInverseLine k p v) (sym (line_is j less))
              (line_eliminated k p v column pivot (get_or old (skip i j) []) pivot_is (source j less));
          cleared = cleared;
          own = own;
        }

      pub eliminated_more : ClearsColumn k.ops column old new
          → AreEliminatedLines k p v (column + 1) new × (length old ≤ length new + 1)
      eliminated_more (inl same) = (kept same, let size = ap length same.1 in omega (arith, size))
      eliminated_more (inr by) = (eliminated_by by.0 by.1, let size = one_less by.0 by.1 in omega (arith, size))

  -- ---- the start

  -- line i of the start: only factor i isn't 0
  pub record IsStart (i : ℕ) (line : List (List ℕ)) : Type 0 where
    pub line_is : IsInverseLine k p v line
    pub factors : take (p.n + 1) line ≡ set (replicate (p.n + 1) []) i (1 ∷ [])

  factor_at : (i j : ℕ) (line : List (List ℕ)) → IsStart i line → j < p.n + 1
      → get_or line j [] ≡ get_or (set (replicate (p.n + 1) []) i (1 ∷ [])) j []
  factor_at i j line is less = sym (get_or-take (p.n + 1) line j [] less) ∙ ap (λ w. get_or w j []) is.factors

  pub eliminated_start : (lines : List (List (List ℕ))) → length lines ≡ p.n + 1
      → ((i : ℕ) → i < p.n + 1 → IsStart i (get_or lines i [])) → AreEliminatedLines k p v (p.n + 1) lines
  eliminated_start lines count starts = record {
    each = λ i less. (starts i (omega arith)).line_is;
    cleared = λ i j late early. absurd (omega arith);
    own = λ i less.
        let within : i < p.n + 1 = omega arith in
        record {
          column = i;
          within = within;
          some = λ e.
              let one : 1 ∷ [] ≡ []
              = sym (factor_at i i (get_or lines i []) (starts i within) within
              ∙ get_or-set_same (replicate (p.n + 1) []) i (1 ∷ []) []
              (omega (arith, length-replicate (p.n + 1) (let none : List ℕ = [] in none)))) ∙ e in
              cc;
          alone = λ j apart.
              elim (cases_lt j (p.n + 1)) as (λ _. line_entry lines j i ≡ []) [
                | inl less' ↦ factor_at j i (get_or lines j []) (starts j less') within
                    ∙ get_or-set_other (replicate (p.n + 1) []) j i (1 ∷ []) [] (λ e. apart (sym e))
                    ∙ get_or-replicate (p.n + 1) i [] [] within
                | inr past ↦ entry_past lines j i (omega arith)
              ];
        };
  }

  -- ---- the end

  row_of_nothing : (m : ℕ) (vs : List (List ℕ)) → ((j : ℕ) → j < m → get_or vs j [] ≡ [])
      → row_of_list k m vs ≡ row_zero (polynomials k).ops m
  unfolding row_zero
  row_of_nothing zero vs none = refl
  row_of_nothing (suc m) [] none = pair_path refl (row_of_nothing m [] (λ j less. refl))
  row_of_nothing (suc m) (v ∷ vs) none = pair_path (ap (value k) (none 0 (omega arith)) ∙ value_nil k)
      (row_of_nothing m vs (λ j less. none (suc j) (omega arith)))

  pub row_of_take : (m t : ℕ) (vs : List (List ℕ)) → m ≤ t → row_of_list k m (take t vs) ≡ row_of_list k m vs
  row_of_take zero t vs le = refl
  row_of_take (suc m) zero vs le = absurd (omega arith)
  row_of_take (suc m) (suc t) [] le = refl
  row_of_take (suc m) (suc t) (v ∷ vs) le = pair_path refl (row_of_take m t vs (omega arith))

  -- w, then a polynomial d, not all 0, with w·v equal to d
  pub record HasFactors (factors : List (List ℕ)) : Type 0 where
    pub row : IsPolyRow k.ops (p.n + 1) factors
    pub product :
        row_scale (polynomials k).ops (suc (p.n - 1)) (value k (get_or factors p.n []))
        (row_one (polynomials k).ring (p.n - 1))
        ≡ row_mul (polynomials k).ring (p.n - 1) (equation_of k p).coefficients (row_at k p factors) (row_at k p v)
    pub position : ℕ
    pub within : position < p.n + 1
    pub some : get_or factors position [] ≢ []

  -- the factors of a line whose last entries are all 0
  pub factors_of_line : (lines : List (List (List ℕ))) (factors : List (List ℕ)) → 1 ≤ p.n → 0 < length lines
      → AreEliminatedLines k p v (2 * p.n + 1) lines → factors ≡ take (p.n + 1) (get_or lines 0 []) → HasFactors factors
  factors_of_line lines factors positive some is factors_are =
      let m = suc (p.n - 1) in
      let line = get_or lines 0 [] in
      let is_line = is.each 0 some in
      let mine = is.own 0 some in
      let R = (polynomials k).ops in
      let S = (polynomials k).ring in
      let f = (equation_of k p).coefficients in
      let one = row_one S (p.n - 1) in
      let last = λ (j : ℕ) (less : j < m). get_or-drop (p.n + 1) line j []
      ∙ is.cleared 0 (p.n + 1 + j) (omega arith) (omega arith) in
      let at = λ (j : ℕ) (less : j < p.n + 1). get_or-take (p.n + 1) line j [] less in
      subst (HasFactors) (sym factors_are)
      (record {
        row = record {
          one_each = length-take (p.n + 1) line ∙ omega (arith, is_line.row.one_each);
          over = All-take (IsOver k.ops) (p.n + 1) line is_line.row.over;
          poly = All-take IsPoly (p.n + 1) line is_line.row.poly;
        };
        product =
            ap (λ d. row_scale R m (value k d) one) (at p.n (omega arith))
            ∙ sym (row_add_comm S m (row_zero R m) (row_scale R m (value k (get_or line p.n [])) one)
            ∙ row_add_zero S m (row_scale R m (value k (get_or line p.n [])) one))
            ∙ ap (λ r. row_add R m r (row_scale R m (value k (get_or line p.n [])) one))
            (sym (row_of_nothing m (drop (p.n + 1) line) last))
            ∙ is_line.product
            ∙ ap (λ r. row_mul S (p.n - 1) f r (row_at k p v)) (sym (row_of_take m (p.n + 1) line (omega arith)));
        position = mine.column;
        within = mine.within;
        some = λ e. mine.some (sym (at mine.column mine.within) ∙ e);
      })

  pub rows_in : (width column : ℕ) (lines : List (List (List ℕ))) → width ≡ 2 * p.n + 1
      → AreEliminatedLines k p v column lines → All (IsPolyRow k.ops width) lines
  rows_in width column lines width_is is i d less =
      subst (IsPolyRow k.ops width) (get_or_default lines i [] d less)
      (subst (λ w. IsPolyRow k.ops w (get_or lines i [])) (sym width_is) (is.each i less).row)
