-- The reduced row echelon form of codes is unique.
use Rattle.std.proofs.Common.{◌≡◌, ℕ, ◌<◌, List, [], ◌∷◌, length, get_or, map, refl, sym, ◌∙◌, ap, ap₂, subst, ◌↔◌}
use Rattle.std.proofs.lemmas.List.{length-map}
use Rattle.std.proofs.lemmas.List.Elements.{All-nil, All-cons, All-head, All-tail}
use Rattle.std.specs.Prelude.{All}
use Rattle.ff_fields.specs.Field.{CodeField}
use Rattle.ff_fields.specs.Code.{Code, code_ring, read_code}
use Rattle.ff_fields.specs.Numbers.{read, numbers, numbers_read}
use Rattle.ff_fields.specs.Over.{IsOver}
use Rattle.ring_lemmas.specs.Ring.{CommRing}
use Rattle.linear_theory.specs.Echelon.{SameRowSpace, InRowSpace, HasWidth, row}
use Rattle.linear_theory.proofs.Echelon.{echelon_unique, same_rank}
use Rattle.ff_linalg.specs.Matrix.{MatrixValue, IsMatrixOver, HasShape}
use Rattle.ff_linalg.specs.Forms.{sequences_of, IsReducedBelow}
use Rattle.ff_linalg.specs.Space.{IsInRowSpace, IsReducedForm}
use Rattle.ff_linalg.proofs.Reading.{length_sequences}
use Rattle.ff_linalg.proofs.Bridge.{codes_of_form, space_of_codes, own_row_codes, row_look}
use Rattle.ff_linalg.proofs.Beside.{domain_of_codes}

module _ (k : CodeField) where
  abbrev R : CommRing (Code k)
  R = (code_ring k).ring

  read_wide : (n : ℕ) (rows : List (List ℕ)) → All (λ r. length r ≡ n) rows → HasWidth n (map (read k) rows)
  read_wide n [] h = All-nil (λ r. length r ≡ n)
  read_wide n (r ∷ rows) h =
      All-cons (λ r. length r ≡ n) (read k r) (map (read k) rows)
      (length-map r (read_code k) ∙ All-head (λ r. length r ≡ n) r rows h)
      (read_wide n rows (All-tail (λ r. length r ≡ n) r rows h))

  written : (rows : List (List ℕ)) → All (IsOver k.ops) rows → map (numbers k) (map (read k) rows) ≡ rows
  written [] h = refl
  written (r ∷ rows) h = ap₂ ◌∷◌ (numbers_read k r (All-head (IsOver k.ops) r rows h))
      (written rows (All-tail (IsOver k.ops) r rows h))

  -- rows of one matrix in the row space of the other
  pub rows_within : (a b : MatrixValue) → a.cols ≡ b.cols → IsMatrixOver k.ops a → IsMatrixOver k.ops b
      → All (λ r. length r ≡ a.cols) a.rows
      → ((v : List ℕ) → IsInRowSpace k.ops a v → IsInRowSpace k.ops b v) → (i : ℕ) → i < length (sequences_of k a.rows)
      → InRowSpace R.ops a.cols (sequences_of k b.rows) (row R.ops (sequences_of k a.rows) i)
  rows_within a b e a_in b_in wide into i l =
      let r = get_or a.rows i [] in
      let h = subst (λ n. InRowSpace R.ops n (sequences_of k b.rows) (λ j. row R.ops (sequences_of k (r ∷ [])) 0 j))
      (sym e)
      (space_of_codes k b r b_in.each (into r
      (own_row_codes k a a_in.each wide i (subst (λ n. i < n) (length_sequences k a.rows) l)))) in
      record { coefficient = h.coefficient; is = λ j m. row_look k a.rows i j ∙ h.is j m }

  pub unique_form : (a b : MatrixValue) (r s : ℕ) → HasShape a (length a.rows) a.cols
      → HasShape b (length a.rows) a.cols → IsMatrixOver k.ops a → IsMatrixOver k.ops b
      → IsReducedForm k.ops a r → IsReducedForm k.ops b s
      → ((v : List ℕ) → IsInRowSpace k.ops a v ↔ IsInRowSpace k.ops b v) → (a ≡ b) × (r ≡ s)
  unique_form a b r s a_shape b_shape a_in b_in f g same = (
    ap₂ (λ c rows. record { cols = c; rows = rows }) (sym b_shape.col_count) rows_same,
    sym fa.rank_is ∙ same_rank (domain_of_codes k) a.cols (sequences_of k a.rows) (sequences_of k b.rows) fa.form
        fb.form spaces ∙ fb.rank_is,
  )
    where
      fa : IsReducedBelow k a.cols a.rows r
      fa = codes_of_form k a r f

      fb : IsReducedBelow k a.cols b.rows s
      fb = subst (λ n. IsReducedBelow k n b.rows s) b_shape.col_count (codes_of_form k b s g)

      b_wide : All (λ r. length r ≡ b.cols) b.rows
      b_wide = subst (λ n. All (λ r. length r ≡ n) b.rows) (sym b_shape.col_count) b_shape.each

      spaces : SameRowSpace R.ops a.cols (sequences_of k a.rows) (sequences_of k b.rows)
      spaces = record {
        first_in = rows_within a b (sym b_shape.col_count) a_in b_in a_shape.each (λ v. (same v).0);
        second_in = λ i l.
            subst (λ n. InRowSpace R.ops n (sequences_of k a.rows) (row R.ops (sequences_of k b.rows) i))
            b_shape.col_count
            (rows_within b a b_shape.col_count b_in a_in b_wide (λ v. (same v).1) i l);
      }

      read_same : map (read k) a.rows ≡ map (read k) b.rows
      read_same =
          echelon_unique (domain_of_codes k) a.cols (map (read k) a.rows) (map (read k) b.rows)
          (read_wide a.cols a.rows a_shape.each) (read_wide a.cols b.rows b_shape.each)
          (length-map a.rows (read k) ∙ sym b_shape.row_count ∙ sym (length-map b.rows (read k))) fa.form fb.form spaces

      rows_same : a.rows ≡ b.rows
      rows_same = sym (written a.rows a_in.each) ∙ ap (map (numbers k)) read_same ∙ written b.rows b_in.each
