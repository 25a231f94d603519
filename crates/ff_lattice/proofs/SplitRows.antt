-- A row of polynomials cut into a left and a right part.
use Rattle.std.proofs.Common.{◌≡◌, ℕ, zero, suc, ◌+◌, ◌-◌, ◌*◌, ◌<◌, ◌≤◌, ◌/◌, ◌%◌, ◌⊎◌, inl, inr, List, [], take, drop, refl, sym, ◌∙◌, ap, subst, arith, le_of_suc-le-suc}
use Rattle.std.proofs.lemmas.Bool.{cases_lt}
use Rattle.std.proofs.lemmas.List.{get_or-take, get_or-drop}
use Rattle.ring_lemmas.specs.Ring.{TestedRing}
use Rattle.ring_lemmas.specs.Lists.{coeff_of}
use Rattle.ring_lemmas.specs.Rows.{Row, entry}
use Rattle.ring_lemmas.proofs.Rows.{pair_path}
use Rattle.ring_lemmas.specs.Polynomials.{Pol}
use Rattle.ring_theory.specs.PolynomialRing.{pol_ring}
use Rattle.ff_fields.specs.Field.{CodeField}
use Rattle.ff_fields.specs.Code.{code_ring}
use Rattle.ff_poly.specs.Value.{value}
use Rattle.popov_theory.specs.Module.{PolynomialModule}
use Rattle.popov_theory.proofs.Module.{split, column_below}
use Rattle.popov_theory.specs.RowModule.{row_module}
use Rattle.popov_theory.proofs.PolynomialRows.{row_width, row_entry}
use Rattle.ring_theory.proofs.PolynomialRows.{same_entries}
use Rattle.popov_theory.proofs.Product.{product_module, product_width, product_left, product_right}
use Rattle.ff_popov.specs.Reading.{read_row}
use Rattle.ff_popov.proofs.ReadRows.{entry_read}

module _ {P : Type 0} where
  -- the row with these entries
  unfoldable pub row_from : (n : ℕ) → (ℕ → P) → Row P n
  row_from zero f = tt
  row_from (suc n) f = (f 0, row_from n (λ i. f (suc i)))

pub entry_row_from : {A : Type 0} (k : TestedRing A) (n i : ℕ) (f : ℕ → Pol k) → i < n
    → entry (pol_ring k).ops n i (row_from n f) ≡ f i
unfolding entry row_from
entry_row_from k zero i f less = absurd (omega arith)
entry_row_from k (suc n) zero f less = refl
entry_row_from k (suc n) (suc i) f less = entry_row_from k n i (λ j. f (suc j)) (le_of_suc-le-suc less)

module _ {A : Type 0} (k : TestedRing A) (r c w : ℕ) (width : suc w ≡ suc r + suc c) where
  abbrev Left : Type 0
  Left = Row (Pol k) (suc r)

  abbrev Right : Type 0
  Right = Row (Pol k) (suc c)

  abbrev Whole : Type 0
  Whole = Row (Pol k) (suc w)

  abbrev at : (n i : ℕ) → Row (Pol k) n → Pol k
  at n i v = entry (pol_ring k).ops n i v

  -- the two parts
  unfoldable pub cut : Row (Pol k) (suc w) → Row (Pol k) (suc r) × Row (Pol k) (suc c)
  cut v = (
    row_from (suc r) (λ j. entry (pol_ring k).ops (suc w) j v),
    row_from (suc c)
        (λ j. entry (pol_ring k).ops (suc w) (suc r + j) v),
  )

  pub cut_left : (v : Whole) (j : ℕ) → j < suc r → at (suc r) j (cut v).0 ≡ at (suc w) j v
  unfolding cut
  cut_left v j less = entry_row_from k (suc r) j (λ i. at (suc w) i v) less

  pub cut_right : (v : Whole) (j : ℕ) → j < suc c → at (suc c) j (cut v).1 ≡ at (suc w) (suc r + j) v
  unfolding cut
  cut_right v j less = entry_row_from k (suc c) j (λ i. at (suc w) (suc r + i) v) less

  joined_at : Left × Right → (j : ℕ) → (j < suc r) ⊎ (suc r ≤ j) → Pol k
  joined_at q j (inl _) = at (suc r) j q.0
  joined_at q j (inr _) = at (suc c) (j - suc r) q.1

  joined_left : (q : Left × Right) (j : ℕ) → j < suc r → (x : (j < suc r) ⊎ (suc r ≤ j))
      → joined_at q j x ≡ at (suc r) j q.0
  unfolding joined_at
  joined_left q j less (inl _) = refl
  joined_left q j less (inr more) = absurd (omega (arith, less, more))

  joined_right : (q : Left × Right) (j : ℕ) → (x : (suc r + j < suc r) ⊎ (suc r ≤ suc r + j))
      → joined_at q (suc r + j) x ≡ at (suc c) j q.1
  unfolding joined_at
  joined_right q j (inl less) = absurd (omega (arith, less))
  joined_right q j (inr _) = let e : suc r + j - suc r ≡ j = omega arith in ap (λ i. at (suc c) i q.1) e

  -- the row with these parts
  pub join : Row (Pol k) (suc r) × Row (Pol k) (suc c) → Row (Pol k) (suc w)
  join q = row_from (suc w) (λ j. joined_at q j (cases_lt j (suc r)))

  pub cut_join : (q : Row (Pol k) (suc r) × Row (Pol k) (suc c)) → cut (join q) ≡ q
  unfolding join
  cut_join (u, y) =
      let q : Left × Right = (u, y) in
      pair_path
      (same_entries k (suc r) (cut (join q)).0 u (λ j less.
      cut_left (join q) j less ∙ entry_row_from k (suc w) j (λ i. joined_at q i (cases_lt i (suc r)))
      (omega (arith, less, width)) ∙ joined_left q j less (cases_lt j (suc r))))
      (same_entries k (suc c) (cut (join q)).1 y (λ j less.
      cut_right (join q) j less ∙ entry_row_from k (suc w) (suc r + j) (λ i. joined_at q i (cases_lt i (suc r)))
      (omega (arith, less, width)) ∙ joined_right q j (cases_lt (suc r + j) (suc r))))

  abbrev M : PolynomialModule k (Row (Pol k) (suc r))
  M = row_module k r

  abbrev N : PolynomialModule k (Row (Pol k) (suc c))
  N = row_module k c

  abbrev W : PolynomialModule k (Row (Pol k) (suc r) × Row (Pol k) (suc c))
  W = product_module M N

  abbrev whole : PolynomialModule k (Row (Pol k) (suc w))
  whole = row_module k w

  pub cut_width : W.width ≡ whole.width
  cut_width = omega (arith, product_width M N, row_width k r, row_width k c, row_width k w, width)

  -- the coefficients stay
  coef_at : (v : Whole) (s j : ℕ) → j < W.width → (j < suc r) ⊎ (suc r ≤ j)
      → W.coef (cut v) (s * W.width + j) ≡ whole.coef v (s * W.width + j)
  coef_at v s j less (inl left) =
      product_left M N (cut v) s j (omega (arith, left, row_width k r))
      ∙ row_entry k r (cut v).0 s j left
      ∙ ap (λ p. coeff_of k.ops p.0 s) (cut_left v j left)
      ∙ sym (row_entry k w v s j (omega (arith, left, width)))
      ∙ ap (λ n. whole.coef v (s * n + j)) (sym cut_width)
  coef_at v s j less (inr right) =
      let i : ℕ = j - suc r in
      let i_less : j - suc r < suc c = omega (arith, less, right, product_width M N, row_width k r, row_width k c) in
      let position : j ≡ M.width + (j - suc r) = omega (arith, right, row_width k r) in
      let position' : suc r + (j - suc r) ≡ j = omega (arith, right) in
      ap (λ n. W.coef (cut v) (s * W.width + n)) position
      ∙ product_right M N (cut v) s (j - suc r) (omega (arith, i_less, row_width k c))
      ∙ row_entry k c (cut v).1 s (j - suc r) i_less
      ∙ ap (λ p. coeff_of k.ops p.0 s) (cut_right v (j - suc r) i_less ∙ ap (λ n. at (suc w) n v) position')
      ∙ sym (row_entry k w v s j (omega (arith, less, cut_width, row_width k w)))
      ∙ ap (λ n. whole.coef v (s * n + j)) (sym cut_width)

  pub cut_coef : (v : Row (Pol k) (suc w)) (e : ℕ) → W.coef (cut v) e ≡ whole.coef v e
  cut_coef v e =
      subst (λ n. W.coef (cut v) n ≡ whole.coef v n) (split W e)
      (coef_at v (e / W.width) (e % W.width) (column_below W e) (cases_lt (e % W.width) (suc r)))

module _ (k : CodeField) (r c w : ℕ) (width : suc w ≡ suc r + suc c) where
  -- the parts of a row of codes
  pub cut_read : (v : List (List ℕ)) → cut (code_ring k) r c w width (read_row k (suc w) v)
      ≡ (read_row k (suc r) (take (suc r) v), read_row k (suc c) (drop (suc r) v))
  cut_read v =
      let R = read_row k (suc w) v in
      pair_path
      (same_entries (code_ring k) (suc r) (cut (code_ring k) r c w width R).0 (read_row k (suc r) (take (suc r) v))
      (λ j less.
      cut_left (code_ring k) r c w width R j less
      ∙ entry_read k (suc w) j v (omega (arith, less, width))
      ∙ ap (value k) (sym (get_or-take (suc r) v j [] less))
      ∙ sym (entry_read k (suc r) j (take (suc r) v) less)))
      (same_entries (code_ring k) (suc c) (cut (code_ring k) r c w width R).1 (read_row k (suc c) (drop (suc r) v))
      (λ j less.
      cut_right (code_ring k) r c w width R j less
      ∙ entry_read k (suc w) (suc r + j) v (omega (arith, less, width))
      ∙ ap (value k) (sym (get_or-drop (suc r) v j []))
      ∙ sym (entry_read k (suc c) j (drop (suc r) v) less)))
