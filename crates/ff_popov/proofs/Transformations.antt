-- What a simple transformation and an exchange of two rows keep.
use Rattle.std.proofs.Common.{◌≡◌, ◌≢◌, ℕ, zero, suc, ◌+◌, ◌-◌, ◌<◌, ◌≤◌, ◌⊎◌, inl, inr, List, [], ◌∷◌, length, get_or, set, refl, sym, ap, ap₂, ◌∙◌, arith, subst, length-set}
use Rattle.std.specs.Prelude.{All, swap}
use Rattle.std.proofs.lemmas.List.{length-map, get_or-set_other}
use Rattle.std.proofs.lemmas.List.Elements.{All-set}
use Rattle.std.proofs.lemmas.List.Edits.{Swapped, swapped_from_swap, length-swap}
use Rattle.std.proofs.lemmas.List.Sorted.{IsPermutation-swap, sum_by-IsPermutation}
use Rattle.std.proofs.lemmas.List.Sums.{sum_by-set}
use Rattle.std.specs.Global.{Vec}
use native.Mathlib.Decide.{ℕ_discrete}
use Rattle.ff_fields.specs.Field.{FieldOps, CodeField}
use Rattle.ff_fields.specs.Code.{code_ring}
use Rattle.ff_fields.specs.Over.{IsOver}
use Rattle.ring_lemmas.specs.Rows.{Row}
use Rattle.ring_lemmas.specs.Polynomials.{Pol}
use Rattle.ff_poly.specs.Value.{value}
use Rattle.ff_poly.specs.Terms.{term, IsOver_less_multiple}
use Rattle.ff_poly.specs.Popov.{rows_of, entry_at, row_at, width_of, IsRow, IsPivot, IsWeakPopovMatrix}
use Rattle.popov_theory.specs.Module.{PolynomialModule}
use Rattle.popov_theory.specs.Span.{InSpan, HaveSameSpan}
use Rattle.popov_theory.specs.Popov.{put}
use Rattle.popov_theory.proofs.Span.{span_row, within_rows, same_span_refl, same_span_trans}
use Rattle.popov_theory.proofs.Reduction.{changed_span}
use Rattle.ff_popov.specs.Reading.{read_row, row_space, read_rows}
use Rattle.ff_popov.specs.Rows.{IsRowLess, IsClash, IsApartAt, IsApartBelow, Keeps, position, total_position}
use Rattle.ff_popov.proofs.Entries.{any_default, rows_swap, read_entry}
use Rattle.ff_popov.proofs.Pivots.{one_pivot, pivot_below}
use Rattle.ff_popov.proofs.ReadRows.{over_at, read_row_at, read_set, space_less}

-- the row at a position of rows of the width
pub row_in : (k : FieldOps) (w : ℕ) (rows : List (List (List ℕ))) → All (IsRow k w) rows → (i : ℕ) → i < length rows
    → IsRow k w (row_at rows i)
row_in k w rows all i less = all i [] less

pub width_is : (k : FieldOps) (w i : ℕ) (rows : List (List (List ℕ))) → All (IsRow k w) rows → i < length rows
    → width_of rows ≡ w
width_is k w i rows all less = (all 0 [] (omega (arith, less))).size

-- a row less a multiple of another is a row
pub less_row : (k : CodeField) (w : ℕ) (a b row : List (List ℕ)) (c s : ℕ) → IsRow k.ops w a → IsRow k.ops w b
    → c < k.size → IsRowLess k.ops a c s b row → IsRow k.ops w row
less_row k w a b row c s a_row b_row c_in less = record {
  size = less.size ∙ a_row.size;
  over = λ j d in_row.
      let in_a : j < length a = omega (arith, in_row, less.size) in
      subst (IsOver k.ops) (sym (any_default row j d [] in_row ∙ less.entries j in_a))
      (IsOver_less_multiple k (entry_at a j) c s (entry_at b j) (a_row.over j [] in_a) c_in (over_at k b b_row.over j));
}

module _ (k : CodeField) (w : ℕ) where
  abbrev M : PolynomialModule (code_ring k) (Row (Pol (code_ring k)) (suc (w - 1)))
  M = row_space k w

  abbrev R : List (List ℕ) → Row (Pol (code_ring k)) (suc (w - 1))
  R v = read_row k (suc (w - 1)) v

  pub keeps_refl : (rows : List (List (List ℕ))) → All (IsRow k.ops w) rows → Keeps k w rows rows
  keeps_refl rows all = record { count = refl; rows = all; span = same_span_refl M (read_rows k w rows) }

  pub keeps_trans : (a b c : List (List (List ℕ))) → Keeps k w a b → Keeps k w b c → Keeps k w a c
  keeps_trans a b c h h' = record {
    count = h'.count ∙ h.count;
    rows = h'.rows;
    span = same_span_trans M (read_rows k w a) (read_rows k w b) (read_rows k w c) h.span h'.span;
  }

  -- a row less a multiple of another takes its position
  pub keeps_less : (rows : List (List (List ℕ))) (i j c s : ℕ) (row : List (List ℕ)) → All (IsRow k.ops w) rows
      → i < length rows → j < length rows → i ≢ j → c < k.size
      → IsRowLess k.ops (row_at rows i) c s (row_at rows j) row → Keeps k w rows (set rows i row)
  keeps_less rows i j c s row all i_in j_in differ c_in less = record {
    count = length-set rows i row;
    rows = All-set (IsRow k.ops w) rows i row
        (less_row k w (row_at rows i) (row_at rows j) row c s i_row j_row c_in less) all;
    span =
        subst (HaveSameSpan M (read_rows k w rows))
        (ap (λ v. put i v (read_rows k w rows)) (sym is) ∙ sym (read_set k w rows i row))
        (changed_span M (read_rows k w rows) i j (value k (term c s)) (omega (arith, i_in, length-map rows R)) differ);
  }
    where
      i_row : IsRow k.ops w (row_at rows i)
      i_row = row_in k.ops w rows all i i_in

      j_row : IsRow k.ops w (row_at rows j)
      j_row = row_in k.ops w rows all j j_in

      is : R row ≡ M.◌⊞◌ (get_or (read_rows k w rows) i M.𝟎)
          (M.⊟◌ (M.◌·◌ (value k (term c s)) (get_or (read_rows k w rows) j M.𝟎)))
      is =
          space_less k w (row_at rows i) (row_at rows j) row c s (j_row.size ∙ sym i_row.size) i_row.over j_row.over
          c_in less
          ∙ ap₂ (λ x y. M.◌⊞◌ x (M.⊟◌ (M.◌·◌ (value k (term c s)) y))) (sym (read_row_at k w rows i))
          (sym (read_row_at k w rows j))

  -- two rows are exchanged
  swapped_at : (old new : List (List (List ℕ))) (i j l : ℕ) → Swapped (λ n. row_at old n) (λ n. row_at new n) i j
      → Dec (l ≡ i) → Dec (l ≡ j) → (m : ℕ) × (row_at new l ≡ row_at old m)
  swapped_at old new i j l s (yes e) there = (j, ap (row_at new) e ∙ s.0)
  swapped_at old new i j l s (no off) (yes e) = (i, ap (row_at new) e ∙ s.1)
  swapped_at old new i j l s (no off) (no off') = (l, s.2 l off off')

  within_moved : (old new : List (List (List ℕ))) → ((l : ℕ) → (m : ℕ) × (row_at new l ≡ row_at old m)) → (l : ℕ)
      → InSpan M (read_rows k w old) (get_or (read_rows k w new) l M.𝟎)
  within_moved old new moved l =
      let m = moved l in
      subst (InSpan M (read_rows k w old))
      (read_row_at k w old m.0 ∙ ap R (sym m.1) ∙ sym (read_row_at k w new l))
      (span_row M (read_rows k w old) m.0)

  unswapped : (old new : List (List (List ℕ))) (i j : ℕ) → Swapped (λ n. row_at old n) (λ n. row_at new n) i j
      → Swapped (λ n. row_at new n) (λ n. row_at old n) i j
  unswapped old new i j s = (sym s.1, sym s.0, λ m off off'. sym (s.2 m off off'))

  pub keeps_swap : (old : List (List (List ℕ))) (i j : ℕ) → All (IsRow k.ops w) old → i < length old → j < length old
      → Keeps k w old (swap old i j)
  keeps_swap old i j all i_in j_in = record {
    count = length-swap old i j;
    rows = λ l d less.
        let m = swapped_at old new i j l s (ℕ_discrete l i) (ℕ_discrete l j) in
        subst (IsRow k.ops w) (sym (any_default new l d [] less)) (row_moved l less (ℕ_discrete l i) (ℕ_discrete l j));
    span = record {
      left = within_rows M (read_rows k w old) (read_rows k w new)
          (within_moved new old (λ l. swapped_at new old i j l (unswapped old new i j s) (ℕ_discrete l i)
          (ℕ_discrete l j)));
      right = within_rows M (read_rows k w new) (read_rows k w old)
          (within_moved old new (λ l. swapped_at old new i j l s (ℕ_discrete l i) (ℕ_discrete l j)));
    };
  }
    where
      new : List (List (List ℕ))
      new = swap old i j

      s : Swapped (λ n. row_at old n) (λ n. row_at (swap old i j) n) i j
      s = swapped_from_swap old (swap old i j) i j [] i_in j_in refl

      row_moved : (l : ℕ) → l < length (swap old i j) → Dec (l ≡ i) → Dec (l ≡ j)
          → IsRow k.ops w (row_at (swap old i j) l)
      row_moved l less (yes e) there = subst (IsRow k.ops w) (sym (ap (row_at (swap old i j)) e ∙ s.0)) (all j [] j_in)
      row_moved l less (no off) (yes e) = subst (IsRow k.ops w) (sym (ap (row_at (swap old i j)) e ∙ s.1))
          (all i [] i_in)
      row_moved l less (no off) (no off') = subst (IsRow k.ops w) (sym (s.2 l off off'))
          (all l [] (omega (arith, less, length-swap old i j)))

-- the sum of the positions
pub total_set : (w : ℕ) (rows : List (List (List ℕ))) (i : ℕ) (row : List (List ℕ)) → i < length rows
    → position w row < position w (row_at rows i) → total_position w (set rows i row) < total_position w rows
total_set w rows i row less falls = omega (arith, sum_by-set (position w) rows i row [] less, falls)

pub total_swap : (w : ℕ) (rows : List (List (List ℕ))) (i j : ℕ) → i < length rows → j < length rows
    → total_position w (swap rows i j) ≡ total_position w rows
total_swap w rows i j i_in j_in = sum_by-IsPermutation (position w) rows (swap rows i j)
    (IsPermutation-swap rows (swap rows i j) i j i_in j_in refl)

-- the pivots of the rows below i
pub apart_set : (n i : ℕ) (rows : List (List (List ℕ))) (row : List (List ℕ)) → n ≤ i → IsApartBelow n rows
    → IsApartBelow n (set rows i row)
apart_set n i rows row le apart = record {
  apart = λ a b column a_less b_less p q.
      apart.apart a b column a_less b_less
      (subst (λ r. IsPivot r column) (kept a (omega (arith, a_less, le))) p)
      (subst (λ r. IsPivot r column) (kept b (omega (arith, b_less, le))) q);
}
  where
    kept : (a : ℕ) → a < i → row_at (set rows i row) a ≡ row_at rows a
    kept a less = let off : a ≢ i = omega (arith, less) in get_or-set_other rows i a row [] off

pub apart_swap : (i j column : ℕ) (old : List (List (List ℕ))) → i < length old → IsClash old i j column
    → IsApartBelow i old → IsApartBelow i (swap old i j)
apart_swap i j column old i_in clash apart = record
    { apart = λ a b p a_less b_less at_a at_b. go a b p a_less b_less at_a at_b (ℕ_discrete a j) (ℕ_discrete b j) }
  where
    s : Swapped (λ n. row_at old n) (λ n. row_at (swap old i j) n) i j
    s = swapped_from_swap old (swap old i j) i j [] i_in (omega (arith, clash.before, i_in)) refl

    moved : (a p : ℕ) → a ≡ j → IsPivot (row_at (swap old i j) a) p → p ≡ column
    moved a p e at_a = one_pivot (row_at old i) p column
        (subst (λ r. IsPivot r p) (ap (row_at (swap old i j)) e ∙ s.1) at_a) clash.second

    kept : (a p : ℕ) → a < i → a ≢ j → IsPivot (row_at (swap old i j) a) p → IsPivot (row_at old a) p
    kept a p less off at_a = subst (λ r. IsPivot r p) (s.2 a (λ e. absurd (omega (arith, e, less))) off) at_a

    go : (a b p : ℕ) → a < i → b < i → IsPivot (row_at (swap old i j) a) p → IsPivot (row_at (swap old i j) b) p
        → Dec (a ≡ j) → Dec (b ≡ j) → a ≡ b
    go a b p a_less b_less at_a at_b (yes e) (yes e') = e ∙ sym e'
    go a b p a_less b_less at_a at_b (yes e) (no off) =
        e ∙ apart.apart j b column clash.before b_less clash.first
        (subst (λ q. IsPivot (row_at old b) q) (moved a p e at_a) (kept b p b_less off at_b))
    go a b p a_less b_less at_a at_b (no off) (yes e) =
        sym (e ∙ apart.apart j a column clash.before a_less clash.first
        (subst (λ q. IsPivot (row_at old a) q) (moved b p e at_b) (kept a p a_less off at_a)))
    go a b p a_less b_less at_a at_b (no off) (no off') = apart.apart a b p a_less b_less (kept a p a_less off at_a)
        (kept b p b_less off' at_b)

pub apart_more : (i : ℕ) (rows : List (List (List ℕ))) → IsApartBelow i rows → IsApartAt rows i
    → IsApartBelow (i + 1) rows
apart_more i rows apart here = record {
  apart = λ a b p a_less b_less at_a at_b. go a b p a_less b_less at_a at_b
      (ℕ_discrete a i) (ℕ_discrete b i);
}
  where
    go : (a b p : ℕ) → a < i + 1 → b < i + 1 → IsPivot (row_at rows a) p → IsPivot (row_at rows b) p → Dec (a ≡ i)
        → Dec (b ≡ i) → a ≡ b
    go a b p a_less b_less at_a at_b (yes e) (yes e') = e ∙ sym e'
    go a b p a_less b_less at_a at_b (yes e) (no off) = absurd
        (here.apart b p (omega (arith, b_less, off)) at_b (subst (λ n. IsPivot (row_at rows n) p) e at_a))
    go a b p a_less b_less at_a at_b (no off) (yes e) = absurd
        (here.apart a p (omega (arith, a_less, off)) at_a (subst (λ n. IsPivot (row_at rows n) p) e at_b))
    go a b p a_less b_less at_a at_b (no off) (no off') = apart.apart a b p (omega (arith, a_less, off))
        (omega (arith, b_less, off')) at_a at_b

pub apart_none : (rows : List (List (List ℕ))) → IsApartBelow 0 rows
apart_none rows = record { apart = λ a b p a_less. absurd (omega (arith, a_less)) }

pub row_past : (rows : List (List (List ℕ))) (i : ℕ) → length rows ≤ i → row_at rows i ≡ []
row_past [] i le = refl
row_past (r ∷ rows) zero le = absurd (omega (arith, le))
row_past (r ∷ rows) (suc i) le = row_past rows i (omega (arith, le))

pub weak_from_apart : (rows : List (List (List ℕ))) → IsApartBelow (length rows) rows → IsWeakPopovMatrix rows
weak_from_apart rows apart = record {
  apart = λ a b p at_a at_b. apart.apart a b p (within a p at_a) (within b p at_b)
      at_a at_b;
}
  where
    within : (a p : ℕ) → IsPivot (row_at rows a) p → a < length rows
    within a p at_a = go (ℕ_less a)
      where
        ℕ_less : (a : ℕ) → (a < length rows) ⊎ (length rows ≤ a)
        ℕ_less a = grind arith

        go : (a < length rows) ⊎ (length rows ≤ a) → a < length rows
        go (inl less) = less
        go (inr more) = absurd (omega (arith, pivot_below (row_at rows a) p at_a, ap length (row_past rows a more)))

pub order_longer : (old new : List (Vec (List ℕ))) (i j column len len' : ℕ) (u v : Vec (List ℕ)) (x y : List ℕ)
    → new ≡ swap old i j → i < length old → IsClash (rows_of old) i j column
    → len ≡ length x → x ≡ get_or (get_or old i u).items column x → len' ≡ length y
    → y ≡ get_or (get_or old j v).items column y → len < len'
    → length (entry_at (row_at (rows_of new) j) column) ≤ length (entry_at (row_at (rows_of new) i) column)
order_longer old new i j column len len' u v x y new_is i_in clash len_is x_is len'_is y_is less =
    let size = length-map old (λ v. v.items) in
    let s = swapped_from_swap (rows_of old) (rows_of new) i j [] (omega (arith, size, i_in))
    (omega (arith, size, i_in, clash.before)) (ap rows_of new_is ∙ rows_swap old i j) in
    omega (
      arith,
      ap (λ r. length (entry_at r column)) s.0,
      ap (λ r. length (entry_at r column)) s.1,
      len_is,
      len'_is,
      less,
      ap length (read_entry old i column u x i_in (pivot_below (row_at (rows_of old) i) column clash.second) x_is),
      ap length (read_entry old j column v y (omega (arith, i_in, clash.before))
          (pivot_below (row_at (rows_of old) j) column clash.first) y_is),
    )
