-- Rows of codes with unit rows on their right, reduced, are the eliminated matrix of the theory.
use Rattle.std.proofs.Common.{◌≡◌, ℕ, zero, suc, ◌+◌, ◌-◌, ◌<◌, ◌≤◌, ◌⊎◌, inl, inr, List, [], length, get_or, replicate, refl, sym, ◌∙◌, ap, subst, arith}
use native.Mathlib.Decide.{ℕ_discrete}
use Rattle.std.proofs.lemmas.List.{length-replicate, get_or_append_left, get_or-append_right, get_or-set_same, get_or-set_other}
use Rattle.std.proofs.lemmas.List.Elements.{All-get_or}
use Rattle.std.specs.Prelude.{All}
use Rattle.ff_fields.specs.Field.{CodeField}
use Rattle.ff_fields.specs.Code.{Code, code_ring, code_domain, read_code}
use Rattle.ring_lemmas.specs.Ring.{CommRing}
use Rattle.linear_theory.specs.Fields.{Domain}
use Rattle.linear_theory.specs.Echelon.{row, SameRowSpace}
use Rattle.linear_theory.specs.Kernel.{augment, unit, size, Eliminated}
use Rattle.linear_theory.proofs.Augment.{length_augment, row_augment, row_augment_right, unit_here, unit_other}
use Rattle.linear_theory.proofs.Echelon.{same_rank}
use Rattle.linear_theory.proofs.Elimination.{same_refl, same_trans}
use Rattle.linear_theory.proofs.Kernel.{eliminated, left_reduced, left_rank}
use Rattle.linear_theory.proofs.SameRows.{HasEntries, same_of_entries}
use Rattle.ff_linalg.specs.Steps.{unit_row, IsBesideUnit}
use Rattle.ff_linalg.specs.Forms.{sequences_of, IsReducedBelow, HaveSameSpace, IsEliminated}
use Rattle.ff_linalg.proofs.Reading.{read_zero, read_one, row_entry, length_sequences}

zero_entry : (n j : ℕ) → ◌≡◌ {A = ℕ} (get_or (replicate n 0) j 0) 0
zero_entry zero j = refl
zero_entry (suc n) zero = refl
zero_entry (suc n) (suc j) = zero_entry n j

abbrev pub domain_of_codes : (k : CodeField) → Domain (Code k)
domain_of_codes k = record { tested = code_ring k; is_domain = code_domain k }

module _ (k : CodeField) (cols : ℕ) (rows whole : List (List ℕ)) (wide : All (λ r. length r ≡ cols) rows)
    (count : length whole ≡ length rows)
    (beside : IsBesideUnit (length rows) rows whole) where
  abbrev R : CommRing (Code k)
  R = (code_ring k).ring

  abbrev F : List (ℕ → Code k)
  F = sequences_of k rows

  unit_entry : (i j : ℕ) → i < length rows → Dec (i ≡ j)
      → read_code k (get_or (unit_row (length rows) i) j 0) ≡ unit R.ops i j
  unit_entry i j l (yes e) =
      ap (λ n. read_code k (get_or (unit_row (length rows) i) n 0)) (sym e)
      ∙ ap (read_code k) (get_or-set_same (replicate (length rows) 0) i 1 0
      (omega (arith, length-replicate {A = ℕ} (length rows) 0)))
      ∙ read_one k ∙ sym (ap (unit R.ops i) (sym e) ∙ unit_here R i)
  unit_entry i j l (no ne) =
      ap (read_code k) (get_or-set_other (replicate (length rows) 0) i j 1 0 (λ e. ne (sym e))
      ∙ zero_entry (length rows) j)
      ∙ read_zero k ∙ sym (unit_other R i j ne)

  entries : (i j : ℕ) → i < length rows → j < cols + length rows → (j < cols) ⊎ (cols ≤ j)
      → row R.ops (sequences_of k whole) i j ≡ row R.ops (augment R.ops cols 0 F) i j
  entries i j l b (inl a) =
      row_entry k whole i j
      ∙ ap (read_code k)
      (ap (λ r. get_or r j 0) (beside i l)
      ∙ get_or_append_left (get_or rows i []) (unit_row (length rows) i) 0 j
      (omega (arith, All-get_or (λ r. length r ≡ cols) rows i [] l wide)))
      ∙ sym (row_augment R cols 0 F i j a ∙ row_entry k rows i j)
  entries i j l b (inr a) =
      let e : cols + (j - cols) ≡ j = omega arith in
      let f : 0 + i ≡ i = omega arith in
      row_entry k whole i j
      ∙ ap (read_code k)
      (ap (λ r. get_or r j 0) (beside i l)
      ∙ get_or-append_right (get_or rows i []) (unit_row (length rows) i) cols j 0
      (All-get_or (λ r. length r ≡ cols) rows i [] l wide) a)
      ∙ unit_entry i (j - cols) l (ℕ_discrete i (j - cols))
      ∙ sym (ap (row R.ops (augment R.ops cols 0 F) i) (sym e)
      ∙ row_augment_right R cols 0 F i (j - cols) (omega (arith, length_sequences k rows))
      ∙ ap (λ n. unit R.ops n (j - cols)) f)

  pub beside_entries : HasEntries R (size R cols F) (augment R.ops cols 0 F) (sequences_of k whole)
  beside_entries = record {
    count = length_sequences k whole ∙ count ∙ sym (length_augment R.ops cols 0 F ∙ length_sequences k rows);
    entry = λ i j l b. entries i j (omega (arith, l, length_augment R.ops cols 0 F, length_sequences k rows))
        (omega (arith, b, length_sequences k rows)) (order j cols);
  }
    where
      order : (a b : ℕ) → (a < b) ⊎ (b ≤ a)
      order a b = grind arith

  -- the rows after the columns of the matrix, and after the rest
  module _ (first second : List (List ℕ)) (rank others : ℕ) where
    from_size : IsReducedBelow k cols first rank → HaveSameSpace k (size R cols F) first whole
        → IsReducedBelow k (size R cols F) second others
        → HaveSameSpace k (size R cols F) second first → IsEliminated k cols rows second rank
    from_size f same f' same' = record {
      elimination = E;
      form_is = refl;
      split_is =
          sym (left_rank R cols F E)
          ∙ same_rank (domain_of_codes k) cols (sequences_of k second) (sequences_of k first) (left_reduced R cols F E)
          f.form
          (record {
            first_in = λ i l. let h = same'.first_in i l in record
                { coefficient = h.coefficient; is = λ j b. h.is j (omega arith) };
            second_in = λ i l. let h = same'.second_in i l in record
                { coefficient = h.coefficient; is = λ j b. h.is j (omega arith) };
          })
          ∙ f.rank_is;
    }
      where
        with_unit : SameRowSpace R.ops (size R cols F) (sequences_of k whole) (augment R.ops cols 0 F)
        with_unit =
            same_of_entries R (size R cols F) (augment R.ops cols 0 F) (sequences_of k whole) beside_entries
            (augment R.ops cols 0 F)
            (same_refl R (size R cols F) (augment R.ops cols 0 F))

        E : Eliminated R cols F
        E = eliminated R cols F (sequences_of k second) f'.form
            (same_trans R (size R cols F) (sequences_of k second) (sequences_of k whole) (augment R.ops cols 0 F)
            (same_trans R (size R cols F) (sequences_of k second) (sequences_of k first) (sequences_of k whole) same'
            same) with_unit)

    pub whole_eliminated : IsReducedBelow k cols first rank → HaveSameSpace k (cols + length rows) first whole
        → IsReducedBelow k (cols + length rows) second others → HaveSameSpace k (cols + length rows) second first
        → IsEliminated k cols rows second rank
    whole_eliminated =
        subst (λ w. IsReducedBelow k cols first rank → HaveSameSpace k w first whole → IsReducedBelow k w second others
        → HaveSameSpace k w second first
        → IsEliminated k cols rows second rank) (ap (λ n. cols + n) (length_sequences k rows)) from_size

pub eliminated_at : (k : CodeField) (cols n : ℕ) (rows whole first second : List (List ℕ)) (rank others : ℕ)
    → length rows ≡ n
    → All (λ r. length r ≡ cols) rows → length whole ≡ n → IsBesideUnit n rows whole
    → IsReducedBelow k cols first rank → HaveSameSpace k (cols + n) first whole
    → IsReducedBelow k (cols + n) second others → HaveSameSpace k (cols + n) second first
    → IsEliminated k cols rows second rank
eliminated_at k cols n rows whole first second rank others e wide =
    subst (λ n. length whole ≡ n → IsBesideUnit n rows whole → IsReducedBelow k cols first rank
    → HaveSameSpace k (cols + n) first whole
    → IsReducedBelow k (cols + n) second others → HaveSameSpace k (cols + n) second first
    → IsEliminated k cols rows second rank) e
    (λ count beside. whole_eliminated k cols rows whole wide count beside first second rank others)
