-- One column's step of elimination on rows of codes is the step over the field.
use Rattle.std.proofs.Common.{◌≡◌, ◌≢◌, ℕ, zero, suc, ◌+◌, ◌-◌, ◌<◌, ◌≤◌, ◌⊎◌, inl, inr, List, [], ◌∷◌, length, get_or, take, drop, set, map, refl, sym, ◌∙◌, ap, ap₂, subst, arith}
use native.Mathlib.Decide.{ℕ_discrete}
use Rattle.std.proofs.lemmas.List.{length-map, length-take-le, length-append, length-drop, length-set, get_or_append_left, get_or-append_right, get_or-map, get_or-take, get_or-drop, get_or-set_same, get_or-set_other, set-get_or}
use Rattle.std.specs.Prelude.{All, swap}
use Rattle.std.proofs.lemmas.List.Elements.{All-get_or, All-from_get_or}
use Rattle.ff_fields.specs.Field.{FieldOps, CodeField}
use Rattle.ff_fields.specs.Code.{Code, code_ring, raw_ring, read_code, zero_in}
use Rattle.ff_fields.specs.Over.{IsOver}
use Rattle.ring_lemmas.specs.Ring.{CommRing}
use Rattle.ring_lemmas.specs.Lists.{add_lists, scale_list}
use Rattle.ring_lemmas.proofs.Ring.{neg_mul}
use Rattle.ring_lemmas.proofs.Lists.{get_or_scale_list, length_scale_list}
use Rattle.linear_theory.specs.Echelon.{row, IsReducedEchelon}
use Rattle.linear_theory.proofs.Elimination.{next, normal, normal_is, from, from_here, from_other, length_next, next_reduced, next_rank, next_same, row_pivot, row_other, skip_column, same_refl}
use Rattle.linear_theory.proofs.SameRows.{HasEntries, same_of_entries, reduced_of_entries}
use Rattle.ff_linalg.specs.Steps.{matrix_entry, normalized, cleared, eliminated}
use Rattle.ff_linalg.specs.Forms.{sequences_of, IsReducedBelow, HaveSameSpace, IsEliminationStep}
use Rattle.ff_linalg.proofs.Reading.{read_zero, read_add, read_mul, read_neg, read_one, read_same, row_entry, length_sequences, entry_in}

-- the rows after an exchange
module _ (rows : List (List ℕ)) (p i : ℕ) (p_in : p < length rows) (i_in : i < length rows) where
  swap_is : swap rows p i ≡ set (set rows p (get_or rows i [])) i (get_or rows p [])
  swap_is = go rows p_in i_in
    where
      same : (xs : List (List ℕ)) (j : ℕ) (d d' : List ℕ) → j < length xs → get_or xs j d ≡ get_or xs j d'
      same [] j d d' l = absurd (omega arith)
      same (x ∷ xs) zero d d' l = refl
      same (x ∷ xs) (suc j) d d' l = same xs j d d' (omega arith)

      go : (rows : List (List ℕ)) → p < length rows → i < length rows
          → swap rows p i ≡ set (set rows p (get_or rows i [])) i (get_or rows p [])
      go [] l m = absurd (omega arith)
      go (r ∷ rows) l m = ap₂ (λ x y. set (set (r ∷ rows) p x) i y) (same (r ∷ rows) i r [] m)
          (same (r ∷ rows) p r [] l)

  pub swap_here : get_or (swap rows p i) p [] ≡ get_or rows i []
  swap_here = ap (λ w. get_or w p []) swap_is ∙ go (ℕ_discrete p i)
    where
      go : Dec (p ≡ i) → get_or (set (set rows p (get_or rows i [])) i (get_or rows p [])) p [] ≡ get_or rows i []
      go (yes e) =
          ap (λ n. get_or (set (set rows p (get_or rows i [])) i (get_or rows p [])) n []) e
          ∙ get_or-set_same (set rows p (get_or rows i [])) i (get_or rows p []) []
          (omega (arith, length-set rows p (get_or rows i []))) ∙ ap (λ n. get_or rows n []) e
      go (no ne) =
          get_or-set_other (set rows p (get_or rows i [])) i p (get_or rows p []) [] ne
          ∙ get_or-set_same rows p (get_or rows i []) [] p_in

  pub swap_there : get_or (swap rows p i) i [] ≡ get_or rows p []
  swap_there = ap (λ w. get_or w i []) swap_is
      ∙ get_or-set_same (set rows p (get_or rows i [])) i (get_or rows p []) []
      (omega (arith, length-set rows p (get_or rows i [])))

  pub swap_other : (l : ℕ) → ¬ (l ≡ p) → ¬ (l ≡ i) → get_or (swap rows p i) l [] ≡ get_or rows l []
  swap_other l ne nf =
      ap (λ w. get_or w l []) swap_is ∙ get_or-set_other (set rows p (get_or rows i [])) i l (get_or rows p []) [] nf
      ∙ get_or-set_other rows p l (get_or rows i []) [] ne

  pub length_swap : length (swap rows p i) ≡ length rows
  length_swap = ap length swap_is ∙ length-set (set rows p (get_or rows i [])) i (get_or rows p [])
      ∙ length-set rows p (get_or rows i [])

-- an exchange of a row with itself
pub swap_self : (rows : List (List ℕ)) (p : ℕ) → p < length rows → swap rows p p ≡ rows
swap_self rows p l =
    swap_is rows p p l l ∙ ap (λ w. set w p (get_or rows p [])) (set-get_or rows p []) ∙ set-get_or rows p []

-- the rows after elimination
module _ (k : FieldOps) (p c : ℕ) (rows : List (List ℕ)) (p_in : p < length rows) where
  abbrev pivot : List ℕ
  pivot = normalized k c (get_or rows p [])

  front_length : length (map (cleared k c pivot) (take p rows)) ≡ p
  front_length = length-map (take p rows) (cleared k c pivot) ∙ length-take-le p rows (omega arith)

  pub eliminated_pivot : get_or (eliminated k p c rows) p [] ≡ pivot
  eliminated_pivot =
      get_or-append_right (map (cleared k c pivot) (take p rows)) (pivot ∷ map (cleared k c pivot) (drop (suc p) rows))
      p p [] front_length (omega arith)
      ∙ ap (λ n. get_or (pivot ∷ map (cleared k c pivot) (drop (suc p) rows)) n [])
      (let e : p - p ≡ 0 = omega arith in e)

  pub eliminated_other : (l : ℕ) → l < length rows → ¬ (l ≡ p)
      → get_or (eliminated k p c rows) l [] ≡ cleared k c pivot (get_or rows l [])
  eliminated_other l l_in ne = go (order l p)
    where
      order : (a b : ℕ) → (a < b) ⊎ (b ≤ a)
      order a b = grind arith

      go : (l < p) ⊎ (p ≤ l) → get_or (eliminated k p c rows) l [] ≡ cleared k c pivot (get_or rows l [])
      go (inl a) =
          get_or_append_left (map (cleared k c pivot) (take p rows))
          (pivot ∷ map (cleared k c pivot) (drop (suc p) rows)) [] l (omega (arith, front_length))
          ∙ get_or-map (cleared k c pivot) (take p rows) l [] [] (omega (arith, length-take-le p rows (omega arith)))
          ∙ ap (cleared k c pivot) (get_or-take p rows l [] a)
      go (inr a) =
          let e : l - p ≡ suc (l - suc p) = omega arith in
          let f : suc p + (l - suc p) ≡ l = omega arith in
          get_or-append_right (map (cleared k c pivot) (take p rows))
          (pivot ∷ map (cleared k c pivot) (drop (suc p) rows)) p l [] front_length a
          ∙ ap (λ n. get_or (pivot ∷ map (cleared k c pivot) (drop (suc p) rows)) n []) e
          ∙ get_or-map (cleared k c pivot) (drop (suc p) rows) (l - suc p) [] []
          (omega (arith, length-drop (suc p) rows))
          ∙ ap (cleared k c pivot) (get_or-drop (suc p) rows (l - suc p) [] ∙ ap (λ n. get_or rows n []) f)

  pub length_eliminated : length (eliminated k p c rows) ≡ length rows
  length_eliminated =
      length-append (map (cleared k c pivot) (take p rows)) (pivot ∷ map (cleared k c pivot) (drop (suc p) rows))
      ∙ omega (arith, front_length, length-map (drop (suc p) rows) (cleared k c pivot), length-drop (suc p) rows)

add_entry : (k : FieldOps) (xs ys : List ℕ) (j : ℕ) → j < length xs → length xs ≡ length ys
    → get_or (add_lists (raw_ring k) xs ys) j 0 ≡ k.add (get_or xs j 0) (get_or ys j 0)
add_entry k [] ys j l e = absurd (omega arith)
add_entry k (x ∷ xs) [] j l e = absurd (omega arith)
add_entry k (x ∷ xs) (y ∷ ys) zero l e = refl
add_entry k (x ∷ xs) (y ∷ ys) (suc j) l e = add_entry k xs ys j (omega arith) (omega arith)

-- one column's step, with the row i at the position of the rank
module _ (k : CodeField) (width : ℕ) (rows : List (List ℕ)) (wide : All (λ r. length r ≡ width) rows)
    (over : All (IsOver k.ops) rows)
    (c : ℕ) (c_below : c < width) (r : IsReducedEchelon (code_ring k).ops c (sequences_of k rows)) (i : ℕ)
    (i_late : r.rank ≤ i) (i_in : i < length rows)
    (nonzero : matrix_entry rows i c ≢ 0) where
  abbrev R : CommRing (Code k)
  R = (code_ring k).ring

  abbrev F : List (ℕ → Code k)
  F = sequences_of k rows

  abbrev p : ℕ
  p = r.rank

  abbrev stepped : List (List ℕ)
  stepped = eliminated k.ops p c (swap rows p i)

  abbrev v : Code k
  v = read_code k (k.inv (matrix_entry rows i c))

  entry_below_size : (l j : ℕ) → matrix_entry rows l j < k.size
  entry_below_size l j = entry_in k rows l j over

  inverse_below : k.inv (matrix_entry rows i c) < k.size
  inverse_below = k.laws.inv_below _ (entry_below_size i c) nonzero

  inverts : R.◌⊗◌ (row R.ops F i c) v ≡ R.𝟙
  inverts =
      ap (λ x. R.◌⊗◌ x v) (row_entry k rows i c) ∙ R.mul_comm _ _
      ∙ sym (read_mul k _ _ inverse_below (entry_below_size i c))
      ∙ ap (read_code k) (k.laws.inv_mul _ (entry_below_size i c) nonzero) ∙ read_one k

  p_in : p < length rows
  p_in = omega arith

  below : i < length F
  below = omega (arith, length_sequences k rows)

  abbrev N : List (ℕ → Code k)
  N = next R width F c c_below r i i_late below v inverts

  wide_row : (l : ℕ) → l < length rows → length (get_or rows l []) ≡ width
  wide_row l m = All-get_or (λ r. length r ≡ width) rows l [] m wide

  -- the entries of the pivot's row
  pivot_entry : (j : ℕ) → j < width → get_or (normalized k.ops c (get_or rows i [])) j 0
      ≡ k.mul (k.inv (matrix_entry rows i c)) (matrix_entry rows i j)
  pivot_entry j l = get_or_scale_list (raw_ring k.ops) (k.inv (matrix_entry rows i c)) (get_or rows i []) j 0
      (omega (arith, wide_row i i_in))

  at_pivot : (j : ℕ) → j < width → row R.ops (sequences_of k stepped) p j ≡ row R.ops N p j
  at_pivot j l =
      row_entry k stepped p j
      ∙ ap (λ w. read_code k (get_or w j 0))
      (eliminated_pivot k.ops p c (swap rows p i) (omega (arith, p_in, length_swap rows p i p_in i_in))
      ∙ ap (normalized k.ops c) (swap_here rows p i p_in i_in))
      ∙ ap (read_code k) (pivot_entry j l) ∙ read_mul k _ _ inverse_below (entry_below_size i j)
      ∙ ap (λ x. R.◌⊗◌ v x) (sym (row_entry k rows i j))
      ∙ sym (row_pivot R width F c c_below r i i_late below v inverts j
      ∙ normal_is R width F c c_below r i i_late below v inverts j)

  -- where a row comes from
  record Source (l : ℕ) : Type 0 where
    pub position : ℕ
    pub position_in : position < length rows
    pub from_is : from R width F c c_below r i i_late below v inverts l ≡ position
    pub row_is : get_or (swap rows p i) l [] ≡ get_or rows position []

  source : (l : ℕ) → l < length rows → ¬ (l ≡ p) → Source l
  source l m ne = go (ℕ_discrete l i)
    where
      go : Dec (l ≡ i) → Source l
      go (yes e) = record {
        position = p;
        position_in = p_in;
        from_is = ap (from R width F c c_below r i i_late below v inverts) e
            ∙ from_here R width F c c_below r i i_late below v inverts;
        row_is = ap (λ n. get_or (swap rows p i) n []) e ∙ swap_there rows p i p_in i_in;
      }
      go (no nf) = record {
        position = l;
        position_in = m;
        from_is = from_other R width F c c_below r i i_late below v inverts l nf;
        row_is = swap_other rows p i p_in i_in l ne nf;
      }

  at_other : (l j : ℕ) → l < length rows → j < width → ¬ (l ≡ p)
      → row R.ops (sequences_of k stepped) l j ≡ row R.ops N l j
  at_other l j l_in j_in ne =
      row_entry k stepped l j
      ∙ ap (λ w. read_code k (get_or w j 0))
      (eliminated_other k.ops p c (swap rows p i) (omega (arith, p_in, length_swap rows p i p_in i_in)) l
      (omega (arith, length_swap rows p i p_in i_in)) ne
      ∙ ap₂ (λ x y. cleared k.ops c (normalized k.ops c x) y) (swap_here rows p i p_in i_in) s.row_is)
      ∙ ap (read_code k) entry
      ∙ read_add k e _ (entry_below_size s.position j) product_below
      ∙ ap (λ x. R.◌⊕◌ (read_code k e) x)
      (read_mul k _ _ (k.laws.neg_below ec (entry_below_size s.position c)) quotient_below
      ∙ ap₂ R.◌⊗◌ (read_neg k ec (entry_below_size s.position c))
      (read_mul k _ _ inverse_below (entry_below_size i j) ∙ ap (λ x. R.◌⊗◌ v x) (sym (row_entry k rows i j)))
      ∙ neg_mul R (read_code k ec) _)
      ∙ sym (row_other R width F c c_below r i i_late below v inverts l j (omega (arith, length_sequences k rows)) ne
      ∙ ap (λ n. R.◌⊕◌ (row R.ops F n j)
      (R.⊖◌ (R.◌⊗◌ (row R.ops F n c) (normal R width F c c_below r i i_late below v inverts j)))) s.from_is
      ∙ ap₂ (λ x y. R.◌⊕◌ x (R.⊖◌ (R.◌⊗◌ y (normal R width F c c_below r i i_late below v inverts j))))
      (row_entry k rows s.position j) (row_entry k rows s.position c)
      ∙ ap (λ x. R.◌⊕◌ (read_code k e) (R.⊖◌ (R.◌⊗◌ (read_code k ec) x)))
      (normal_is R width F c c_below r i i_late below v inverts j))
    where
      s : Source l
      s = source l l_in ne

      e : ℕ
      e = matrix_entry rows s.position j

      ec : ℕ
      ec = matrix_entry rows s.position c

      quotient_below : k.mul (k.inv (matrix_entry rows i c)) (matrix_entry rows i j) < k.size
      quotient_below = k.laws.mul_below _ _ inverse_below (entry_below_size i j)

      product_below : k.mul (k.neg ec) (k.mul (k.inv (matrix_entry rows i c)) (matrix_entry rows i j)) < k.size
      product_below = k.laws.mul_below _ _ (k.laws.neg_below ec (entry_below_size s.position c)) quotient_below

      wide_pivot : length (normalized k.ops c (get_or rows i [])) ≡ width
      wide_pivot = length_scale_list (raw_ring k.ops) (k.inv (matrix_entry rows i c)) (get_or rows i []) ∙ wide_row i i_in

      entry : get_or (cleared k.ops c (normalized k.ops c (get_or rows i [])) (get_or rows s.position [])) j 0
          ≡ k.add e (k.mul (k.neg ec) (k.mul (k.inv (matrix_entry rows i c)) (matrix_entry rows i j)))
      entry =
          add_entry k.ops (get_or rows s.position [])
          (scale_list (raw_ring k.ops) (k.neg ec) (normalized k.ops c (get_or rows i []))) j
          (omega (arith, wide_row s.position s.position_in))
          (wide_row s.position s.position_in
          ∙ sym (length_scale_list (raw_ring k.ops) (k.neg ec) (normalized k.ops c (get_or rows i []))
          ∙ wide_pivot))
          ∙ ap (k.add e)
          (get_or_scale_list (raw_ring k.ops) (k.neg ec) (normalized k.ops c (get_or rows i [])) j 0
          (omega (arith, wide_pivot)) ∙ ap (k.mul (k.neg ec)) (pivot_entry j j_in))

  count : length (sequences_of k stepped) ≡ length N
  count =
      length_sequences k stepped ∙ length_eliminated k.ops p c (swap rows p i)
      (omega (arith, p_in, length_swap rows p i p_in i_in)) ∙ length_swap rows p i p_in i_in
      ∙ sym (length_next R width F c c_below r i i_late below v inverts ∙ length_sequences k rows)

  has_entries : HasEntries R width N (sequences_of k stepped)
  has_entries = record {
    count = count;
    entry = λ l j a b. go l j
        (omega (arith, a, length_next R width F c c_below r i i_late below v inverts, length_sequences k rows)) b
        (ℕ_discrete l p);
  }
    where
      go : (l j : ℕ) → l < length rows → j < width → Dec (l ≡ p)
          → row R.ops (sequences_of k stepped) l j ≡ row R.ops N l j
      go l j a b (yes e) = subst (λ n. row R.ops (sequences_of k stepped) n j ≡ row R.ops N n j) (sym e) (at_pivot j b)
      go l j a b (no ne) = at_other l j a b ne

  stepped_reduced : IsReducedBelow k (suc c) stepped (suc p)
  stepped_reduced = record {
    form = reduced_of_entries R (suc c) N (sequences_of k stepped)
        (record { count = has_entries.count; entry = λ l j a b. has_entries.entry l j a (omega arith) })
        (next_reduced R width F c c_below r i i_late below v inverts);
    rank_is = next_rank R width F c c_below r i i_late below v inverts;
  }

  stepped_same : HaveSameSpace k width stepped rows
  stepped_same = same_of_entries R width N (sequences_of k stepped) has_entries F
      (next_same R width F c c_below r i i_late below v inverts)

pub pivot_step : (k : CodeField) (width : ℕ) (rows : List (List ℕ)) → All (λ r. length r ≡ width) rows
    → All (IsOver k.ops) rows → (c : ℕ) → c < width
    → (p : ℕ) → IsReducedBelow k c rows p → (i : ℕ) → p ≤ i → i < length rows → matrix_entry rows i c ≢ 0
    → IsEliminationStep k width c rows (eliminated k.ops p c (swap rows p i)) (suc p)
pivot_step k width rows wide over c c_below p below i late i_in some =
    subst (λ n. IsEliminationStep k width c rows (eliminated k.ops n c (swap rows n i)) (suc n)) below.rank_is
    (record {
      reduced = stepped_reduced k width rows wide over c c_below below.form i i_late i_in some;
      same = stepped_same k width rows wide over c c_below below.form i i_late i_in some;
    })
  where
    i_late : below.form.rank ≤ i
    i_late = omega (arith, below.rank_is)

pub skip_step : (k : CodeField) (width : ℕ) (rows : List (List ℕ)) (c : ℕ) (p : ℕ) → IsReducedBelow k c rows p
    → ((l : ℕ) → p ≤ l → l < length rows → matrix_entry rows l c ≡ 0) → IsEliminationStep k width c rows rows p
skip_step k width rows c p below none = record {
  reduced = record {
    form = skip_column (code_ring k).ring (sequences_of k rows) c below.form (λ l a b.
        row_entry k rows l c ∙ ap (read_code k)
        (none l (omega (arith, below.rank_is)) (omega (arith, length_sequences k rows))) ∙ read_zero k);
    rank_is = below.rank_is;
  };
  same = same_refl (code_ring k).ring width (sequences_of k rows);
}

-- before the first column nothing is asked
pub reduced_start : (k : CodeField) (rows : List (List ℕ)) → IsReducedBelow k 0 rows 0
reduced_start k rows = record {
  form = record {
    rank = 0;
    rank_within = omega arith;
    zero_rows = λ i j a b l. absurd (omega arith);
    pivot = λ i. i;
    pivot_below = λ i l. absurd (omega arith);
    increasing = λ i j l m. absurd (omega arith);
    left_zero = λ i j l m. absurd (omega arith);
    pivot_one = λ i l. absurd (omega arith);
    column_zero = λ i l a b ne. absurd (omega arith);
  };
  rank_is = refl;
}

-- what holds of each row holds of each after an exchange
pub all_swap : (P : List ℕ → Type 0) (rows : List (List ℕ)) (p i : ℕ) → p < length rows → i < length rows → All P rows
    → All P (swap rows p i)
all_swap P rows p i p_in i_in h =
    All-from_get_or P (swap rows p i) []
    (λ l l_in. go l (omega (arith, l_in, length_swap rows p i p_in i_in)) (ℕ_discrete l p) (ℕ_discrete l i))
  where
    go : (l : ℕ) → l < length rows → Dec (l ≡ p) → Dec (l ≡ i) → P (get_or (swap rows p i) l [])
    go l l_in (yes e) d =
        subst P (sym (ap (λ n. get_or (swap rows p i) n []) e ∙ swap_here rows p i p_in i_in))
        (All-get_or P rows i [] i_in h)
    go l l_in (no ne) (yes e) =
        subst P (sym (ap (λ n. get_or (swap rows p i) n []) e ∙ swap_there rows p i p_in i_in))
        (All-get_or P rows p [] p_in h)
    go l l_in (no ne) (no nf) = subst P (sym (swap_other rows p i p_in i_in l ne nf)) (All-get_or P rows l [] l_in h)

-- before column c the rows from the rank on are 0
pub left_zero_at : (k : CodeField) (c rank : ℕ) (rows : List (List ℕ)) → All (IsOver k.ops) rows
    → IsReducedBelow k c rows rank
    → (i j : ℕ) → rank ≤ i → i < length rows → j < c → matrix_entry rows i j ≡ 0
left_zero_at k c rank rows over reduced i j late within less =
    read_same k (matrix_entry rows i j) 0 (entry_in k rows i j over) (zero_in k)
    (sym (row_entry k rows i j)
    ∙ reduced.form.zero_rows i j (omega (arith, reduced.rank_is, late)) (omega (arith, length_sequences k rows, within))
    less
    ∙ sym (read_zero k))
