-- Sums of rows entry by entry, and combinations from the last row on.
use Rattle.std.proofs.Common.{◌≡◌, ℕ, zero, suc, ◌+◌, ◌-◌, ◌<◌, List, [], ◌∷◌, ◌++◌, length, get_or, take, drop, refl, sym, ◌∙◌, ap, ap₂, arith, All}
use Rattle.std.proofs.lemmas.List.{length-map, length-take-le, take_more}
use Rattle.std.proofs.lemmas.List.Elements.{All-tail}
use Rattle.ff_fields.specs.Field.{FieldOps, CodeField}
use Rattle.ff_fields.specs.Over.{IsOver}
use Rattle.ff_poly.specs.Words.{sum_of, product_of}
use Rattle.ff_poly.specs.Popov.{row_at, entry_at, IsRow, sum_of_rows, multiple_of_row, combination_list}
use Rattle.ff_popov.proofs.Spans.{combination_row}
use Rattle.ff_popov.proofs.Entries.{any_default}
use Rattle.ff_lattice.proofs.SumsAndProducts.{map_join}

module _ (k : FieldOps) where
  sums_join : (u v x y : List (List ℕ)) → length u ≡ length v
      → sum_of_rows k (u ++ x) (v ++ y) ≡ sum_of_rows k u v ++ sum_of_rows k x y
  sums_join [] [] x y size = refl
  sums_join [] (b ∷ v) x y size = absurd (omega (arith, size))
  sums_join (a ∷ u) [] x y size = absurd (omega (arith, size))
  sums_join (a ∷ u) (b ∷ v) x y size = ap (λ r. sum_of k a b ∷ r) (sums_join u v x y (omega (arith, size)))

  -- the sum up to one entry more
  pub sums_more : (c : List ℕ) (row total : List (List ℕ)) (j : ℕ) (a b : List ℕ) → length row ≡ length total
      → j < length row → a ≡ get_or row j a → b ≡ get_or total j b
      → sum_of_rows k (multiple_of_row k c (take (j + 1) row)) (take (j + 1) total)
      ≡ sum_of_rows k (multiple_of_row k c (take j row)) (take j total) ++ sum_of k (product_of k c a) b ∷ []
  sums_more c row total j a b size less a_is b_is =
      ap₂ (λ u v. sum_of_rows k (multiple_of_row k c u) v) (take_more row j a less)
      (take_more total j b (omega (arith, less, size)))
      ∙ ap (λ u. sum_of_rows k u (take j total ++ get_or total j b ∷ []))
      (map_join (product_of k c) (take j row) (get_or row j a ∷ []))
      ∙ sums_join (multiple_of_row k c (take j row)) (take j total) (product_of k c (get_or row j a) ∷ [])
      (get_or total j b ∷ [])
      (length-map (take j row) (product_of k c) ∙ length-take-le j row (omega (arith, less))
      ∙ sym (length-take-le j total (omega (arith, less, size))))
      ∙ ap₂ (λ x y. sum_of_rows k (multiple_of_row k c (take j row)) (take j total)
      ++ sum_of k (product_of k c x) y ∷ []) (sym a_is) (sym b_is)

  -- the combination of the rows from one position on
  pub combination_step : (n : ℕ) (cs : List (List ℕ)) (rows : List (List (List ℕ))) (i : ℕ) → i < length cs
      → i < length rows
      → combination_list k n (drop i cs) (drop i rows)
      ≡ sum_of_rows k (multiple_of_row k (entry_at cs i) (row_at rows i))
      (combination_list k n (drop (suc i) cs) (drop (suc i) rows))
  combination_step n [] rows i less less' = absurd (omega (arith, less))
  combination_step n (c ∷ cs) [] i less less' = absurd (omega (arith, less'))
  combination_step n (c ∷ cs) (r ∷ rows) zero less less' = refl
  combination_step n (c ∷ cs) (r ∷ rows) (suc i) less less' = combination_step n cs rows i (omega (arith, less))
      (omega (arith, less'))

  -- one row more, from the last on
  pub total_step : (n len i : ℕ) (cs : List (List ℕ)) (rows : List (List (List ℕ))) (c : List ℕ)
      (v total new : List (List ℕ)) → length cs ≡ len → length rows ≡ len → i < len
      → c ≡ get_or cs (len - 1 - i) c → v ≡ row_at rows (len - 1 - i)
      → total ≡ combination_list k n (drop (len - i) cs) (drop (len - i) rows)
      → new ≡ sum_of_rows k (multiple_of_row k c v) total
      → new ≡ combination_list k n (drop (len - (i + 1)) cs) (drop (len - (i + 1)) rows)
  total_step n len i cs rows c v total new cs_size rows_size less c_is v_is total_is new_is =
      let j : ℕ = len - 1 - i in
      let position : len - 1 - i ≡ len - (i + 1) = omega arith in
      let next : len - i ≡ suc (len - 1 - i) = omega (arith, less) in
      let entry : c ≡ entry_at cs (len - 1 - i) = c_is
      ∙ any_default cs (len - 1 - i) c [] (omega (arith, less, cs_size)) in
      new_is
      ∙ ap₂ (λ a u. sum_of_rows k (multiple_of_row k a u) total) entry v_is
      ∙ ap (sum_of_rows k (multiple_of_row k (entry_at cs (len - 1 - i)) (row_at rows (len - 1 - i))))
      (total_is ∙ ap (λ m. combination_list k n (drop m cs) (drop m rows)) next)
      ∙ sym (combination_step n cs rows (len - 1 - i) (omega (arith, less, cs_size)) (omega (arith, less, rows_size)))
      ∙ ap (λ m. combination_list k n (drop m cs) (drop m rows)) position

all_drop : {X : Type 0} (P : X → Type 0) (i : ℕ) (xs : List X) → All P xs → All P (drop i xs)
all_drop P zero xs h = h
all_drop P (suc i) [] h = h
all_drop P (suc i) (x ∷ xs) h = all_drop P i xs (All-tail P x xs h)

-- a combination of last rows is a row of the width
pub last_row : (k : CodeField) (n i : ℕ) (cs : List (List ℕ)) (rows : List (List (List ℕ))) → All (IsOver k.ops) cs
    → All (IsRow k.ops n) rows → IsRow k.ops n (combination_list k.ops n (drop i cs) (drop i rows))
last_row k n i cs rows cs_in rows_in = combination_row k n (drop i cs) (drop i rows)
    (all_drop (IsOver k.ops) i cs cs_in) (all_drop (IsRow k.ops n) i rows rows_in)
