-- The steps of the calls that read codes and combine rows by codes.
use Rattle.std.proofs.Common.{◌≡◌, ℕ, zero, suc, ◌+◌, ◌-◌, ◌*◌, ◌/◌, ◌%◌, ◌<◌, ◌≤◌, ◌⊎◌, inl, inr, subst, Bool, true, false, cond, nat_lt, List, [], ◌∷◌, ◌++◌, length, get_or, drop, take, max, replicate, refl, sym, ap, ap₂, ◌∙◌, arith, append_assoc, All}
use Rattle.std.proofs.lemmas.List.Elements.{All-nil, All-cons, All-replicate}
use Rattle.std.proofs.lemmas.Bool.{lt-ltb, le-ltb, cases_lt}
use Rattle.std.proofs.lemmas.Nat.{div-mul-add, mod-mul-add}
use Rattle.std.proofs.Math.Nat.{le-max_left}
use Rattle.ff_fields.specs.Field.{FieldOps, CodeField}
use Rattle.ff_poly.specs.Words.{IsPoly}
use Rattle.ff_poly.specs.Terms.{less_multiple, IsPoly_less_multiple}
use Rattle.ff_poly.specs.Popov.{entry_at, row_at, longest, IsRow, IsPopovMatrix}
use Rattle.ff_popov.proofs.ReadRows.{same_row}
use Rattle.ff_popov.specs.Rows.{IsRowLess}
use Rattle.ff_popov.proofs.Transformations.{less_row}
use Rattle.ff_lattice.specs.PositionLists.{IsDeepest, pivot_length, row_less, is_outside, is_kept, lift_power, cleared, code_count, codes_below, spread_onto, IsReadDown, IsSpreadDown}
use Rattle.ff_lattice.proofs.PositionCodes.{cond_true, cond_false, row_less_length, row_less_at, row_less_is}

-- a row with the entries of a row less a multiple
pub row_less_from : (k : FieldOps) (a : List (List ℕ)) (c s : ℕ) (b row : List (List ℕ)) → IsRowLess k a c s b row
    → row ≡ row_less k a c s b
row_less_from k a c s b row h =
    same_row row (row_less k a c s b) (h.size ∙ sym (row_less_length k a c s b))
    (λ j less. h.entries j (omega (arith, less, h.size)) ∙ sym (row_less_at k a c s b j (omega (arith, less, h.size))))

-- what rows less multiples and combinations of rows are made of has no zero on top
row_less_poly : (k : FieldOps) (a : List (List ℕ)) (c s : ℕ) (b : List (List ℕ)) → All IsPoly (row_less k a c s b)
row_less_poly k [] c s b = All-nil IsPoly
row_less_poly k (u ∷ a) c s [] = All-cons IsPoly (less_multiple k u c s []) (row_less k a c s [])
    (IsPoly_less_multiple k u c s []) (row_less_poly k a c s [])
row_less_poly k (u ∷ a) c s (v ∷ b) = All-cons IsPoly (less_multiple k u c s v) (row_less k a c s b)
    (IsPoly_less_multiple k u c s v) (row_less_poly k a c s b)

cond_poly : (x y : Bool) (a b : List (List ℕ)) → All IsPoly a → All IsPoly b → All IsPoly (cond x a (cond y b a))
cond_poly true y a b a_poly b_poly = a_poly
cond_poly false true a b a_poly b_poly = b_poly
cond_poly false false a b a_poly b_poly = a_poly

spread_onto_poly : (n : ℕ) (W J : List (List (List ℕ))) (k : FieldOps) (rows : List (List (List ℕ))) (e : ℕ)
    (a : List ℕ) (row : List (List ℕ)) → All IsPoly row → All IsPoly (spread_onto n W J k rows e a row)
spread_onto_poly n W J k rows zero a row h = h
spread_onto_poly n W J k rows (suc e) a row h =
    let less = row_less k row (k.neg (get_or a 0 0)) (lift_power n W J W e) (row_at rows (e % n)) in
    cond_poly (is_outside n W J e) (is_kept n W J e) (spread_onto n W J k rows e a row)
    (spread_onto n W J k rows e (drop 1 a) less)
    (spread_onto_poly n W J k rows e a row h)
    (spread_onto_poly n W J k rows e (drop 1 a) less
    (row_less_poly k row (k.neg (get_or a 0 0)) (lift_power n W J W e) (row_at rows (e % n))))

pub spread_poly : (n : ℕ) (W J : List (List (List ℕ))) (k : FieldOps) (rows : List (List (List ℕ))) (e : ℕ) (a : List ℕ)
    → All IsPoly (spread_onto n W J k rows e a (replicate n []))
spread_poly n W J k rows e a = spread_onto_poly n W J k rows e a (replicate n [])
    (All-replicate IsPoly n [] (record { trimmed = tt }))

pub deepest_none : (rows : List (List (List ℕ))) → IsDeepest rows 0 0
deepest_none rows = record { bound = λ j less. absurd (omega (arith, less)); least = λ d h. omega arith }

-- the greatest length with one pivot more
pub deepest_more : (rows : List (List (List ℕ))) (j most len next : ℕ) → IsDeepest rows j most
    → len ≡ pivot_length rows j → most ≤ next → len ≤ next → (next ≡ most) ⊎ (next ≡ len) → IsDeepest rows (j + 1) next
deepest_more rows j most len next h len_is most_le len_le one_of = record
    { bound = λ i less. bound i less (cases_lt i j); least = λ d g. least d g one_of }
  where
    bound : (i : ℕ) → i < j + 1 → (i < j) ⊎ (j ≤ i) → pivot_length rows i ≤ next
    bound i less (inl lower) = omega (arith, h.bound i lower, most_le)
    bound i less (inr more) = subst (λ m. pivot_length rows m ≤ next) (omega (arith, less, more))
        (subst (λ l. l ≤ next) len_is len_le)

    least : (d : ℕ) → ((i : ℕ) → i < j + 1 → pivot_length rows i ≤ d) → (next ≡ most) ⊎ (next ≡ len) → next ≤ d
    least d g (inl e) = omega (arith, e, h.least d (λ i less. g i (omega (arith, less))))
    least d g (inr e) = omega (arith, e, len_is, g j (omega arith))

-- a pivot is the longest entry of its row, so that its multiples fit
pub pivot_fits : (n : ℕ) (rows : List (List (List ℕ))) (j t s bound : ℕ) → IsPopovMatrix n rows → j < n
    → s ≡ t + 1 - pivot_length rows j → pivot_length rows j ≤ t + 1 → t + 1 < bound → (i : ℕ)
    → s + length (entry_at (row_at rows j) i) < bound
pivot_fits n rows j t s bound popov less s_is reaches fits i = omega
    (arith, s_is, reaches, fits, (popov.pivot_at j less).greatest i)

module _ (k : FieldOps) (n : ℕ) (W J : List (List (List ℕ))) (t j : ℕ) (less : j < n) where
  abbrev e : ℕ
  e = t * n + j

  pub high : (t * n + j) / n ≡ t
  high = div-mul-add t n j less

  pub column : (t * n + j) % n ≡ j
  column = mod-mul-add t n j less

  cleared_row_is : (rows : List (List (List ℕ))) (v : List (List ℕ))
      → cleared n W J k rows (t * n + j) v
      ≡ row_less k v (get_or (entry_at v j) t 0) (suc t - pivot_length rows j) (row_at rows j)
  cleared_row_is rows v = ap₂ (λ a b. row_less k v (get_or (entry_at v b) a 0) (suc a - pivot_length rows b)
      (row_at rows b)) high column

  outside_at : suc t < pivot_length W j → is_outside n W J (t * n + j) ≡ true
  outside_at h = ap₂ (λ a b. nat_lt (suc a) (pivot_length W b)) high column ∙ lt-ltb (suc t) (pivot_length W j) h

  inside_at : pivot_length W j ≤ suc t → is_outside n W J (t * n + j) ≡ false
  inside_at h = ap₂ (λ a b. nat_lt (suc a) (pivot_length W b)) high column ∙ le-ltb (suc t) (pivot_length W j) h

  kept_at : suc t < pivot_length J j → is_kept n W J (t * n + j) ≡ true
  kept_at h = ap₂ (λ a b. nat_lt (suc a) (pivot_length J b)) high column ∙ lt-ltb (suc t) (pivot_length J j) h

  ideal_at : pivot_length J j ≤ suc t → is_kept n W J (t * n + j) ≡ false
  ideal_at h = ap₂ (λ a b. nat_lt (suc a) (pivot_length J b)) high column ∙ le-ltb (suc t) (pivot_length J j) h

  -- nothing is read
  pub read_outside : (v : List (List ℕ)) (codes : List ℕ) → IsRow k n v → suc t < pivot_length W j
      → IsReadDown k n W J (suc (t * n + j)) (t * n + j) v codes v codes
  read_outside v codes v_in h = record {
    row_in = v_in;
    codes_are = ap (λ xs. codes ++ xs)
        (sym (cond_true (is_outside n W J (t * n + j)) _ _ (outside_at h)));
  }

  pub read_ideal : (v row : List (List ℕ)) (codes : List ℕ) → IsRow k n row → pivot_length W j ≤ suc t
      → pivot_length J j ≤ suc t
      → row ≡ row_less k v (get_or (entry_at v j) t 0) (suc t - pivot_length J j) (row_at J j)
      → IsReadDown k n W J (suc (t * n + j)) (t * n + j) v codes row codes
  read_ideal v row codes row_in h q row_is = record {
    row_in = row_in;
    codes_are =
        ap (λ xs. codes ++ xs)
        (ap (codes_below n W J k (t * n + j)) (row_is ∙ sym (cleared_row_is J v))
        ∙ sym (cond_false (is_outside n W J (t * n + j)) _ _ (inside_at h)
        ∙ cond_false (is_kept n W J (t * n + j)) _ _ (ideal_at q)));
  }

  pub read_kept : (v row : List (List ℕ)) (codes more : List ℕ) (c : ℕ) → IsRow k n row → pivot_length W j ≤ suc t
      → suc t < pivot_length J j → c ≡ get_or (entry_at v j) t 0 → more ≡ codes ++ c ∷ []
      → row ≡ row_less k v (get_or (entry_at v j) t 0) (suc t - pivot_length W j) (row_at W j)
      → IsReadDown k n W J (suc (t * n + j)) (t * n + j) v codes row more
  read_kept v row codes more c row_in h q c_is more_is row_is = record {
    row_in = row_in;
    codes_are =
        ap (λ xs. xs ++ codes_below n W J k (t * n + j) row) more_is
        ∙ append_assoc codes (c ∷ []) (codes_below n W J k (t * n + j) row)
        ∙ ap (λ xs. codes ++ xs)
        (ap₂ ◌∷◌ (c_is ∙ sym (ap₂ (λ a b. get_or (entry_at v b) a 0) high column))
        (ap (codes_below n W J k (t * n + j)) (row_is ∙ sym (cleared_row_is W v)))
        ∙ sym (cond_false (is_outside n W J (t * n + j)) _ _ (inside_at h)
        ∙ cond_true (is_kept n W J (t * n + j)) _ _ (kept_at q)));
  }

module _ (k : FieldOps) (n : ℕ) (W J : List (List (List ℕ))) where
  pub read_none : (e : ℕ) (v : List (List ℕ)) (codes : List ℕ) → IsRow k n v → IsReadDown k n W J e e v codes v codes
  read_none e v codes v_in = record { row_in = v_in; codes_are = refl }

  pub read_on : (a b d : ℕ) (v u x : List (List ℕ)) (xs ys zs : List ℕ) → IsReadDown k n W J a b v xs u ys
      → IsReadDown k n W J b d u ys x zs → IsReadDown k n W J a d v xs x zs
  read_on a b d v u x xs ys zs h g = record { row_in = g.row_in; codes_are = g.codes_are ∙ h.codes_are }

-- a row less a multiple is a row
pub row_less_row : (k : CodeField) (n : ℕ) (a b : List (List ℕ)) (c s : ℕ) → IsRow k.ops n a → IsRow k.ops n b
    → c < k.size → IsRow k.ops n (row_less k.ops a c s b)
row_less_row k n a b c s a_in b_in c_in = less_row k n a b (row_less k.ops a c s b) c s a_in b_in c_in
    (row_less_is k.ops a c s b)

-- one entry more, and the longest of all entries
pub longest_take : (row : List (List ℕ)) (i : ℕ) → i < length row
    → longest (take (i + 1) row) ≡ max (longest (take i row)) (length (entry_at row i))
longest_take [] i less = absurd (omega (arith, less))
longest_take (a ∷ row) zero less = omega (arith, le-max_left (length a) 0)
longest_take (a ∷ row) (suc i) less =
    let back : suc i + 1 ≡ suc (i + 1) = omega arith in
    ap (λ m. longest (take m (a ∷ row))) back
    ∙ ap (max (length a)) (longest_take row i (omega (arith, less)))
    ∙ omega arith

module _ (k : FieldOps) (n : ℕ) (W J rows : List (List (List ℕ))) (t j : ℕ) (less : j < n) where
  -- no code is spread
  pub spread_outside : (v : List (List ℕ)) (codes : List ℕ) → IsRow k n v
      → length codes ≡ code_count n W J (suc (t * n + j)) → suc t < pivot_length W j
      → IsSpreadDown k n W J rows (suc (t * n + j)) (t * n + j) v codes v codes
  spread_outside v codes v_in size h =
      let o = outside_at k n W J t j less h in
      record {
        row_in = v_in;
        left_in = size ∙ cond_true (is_outside n W J (t * n + j)) _ _ o;
        row_is = sym (cond_true (is_outside n W J (t * n + j)) _ _ o);
      }

  pub spread_ideal : (v : List (List ℕ)) (codes : List ℕ) → IsRow k n v
      → length codes ≡ code_count n W J (suc (t * n + j)) → pivot_length W j ≤ suc t → pivot_length J j ≤ suc t
      → IsSpreadDown k n W J rows (suc (t * n + j)) (t * n + j) v codes v codes
  spread_ideal v codes v_in size h q_le =
      let o = inside_at k n W J t j less h in
      let q = ideal_at k n W J t j less q_le in
      record {
        row_in = v_in;
        left_in = size ∙ cond_false (is_outside n W J (t * n + j)) _ _ o ∙ cond_false (is_kept n W J (t * n + j)) _ _ q;
        row_is = sym (cond_false (is_outside n W J (t * n + j)) _ _ o ∙ cond_false (is_kept n W J (t * n + j)) _ _ q);
      }

  -- there is a code to spread
  pub spread_some : (codes : List ℕ) → length codes ≡ code_count n W J (suc (t * n + j)) → pivot_length W j ≤ suc t
      → suc t < pivot_length J j → length codes ≡ suc (code_count n W J (t * n + j))
  spread_some codes size h q_less =
      size ∙ cond_false (is_outside n W J (t * n + j)) _ _ (inside_at k n W J t j less h)
      ∙ cond_true (is_kept n W J (t * n + j)) _ _ (kept_at k n W J t j less q_less)

  pub spread_kept : (v row : List (List ℕ)) (codes left : List ℕ) → IsRow k n row
      → length codes ≡ code_count n W J (suc (t * n + j)) → pivot_length W j ≤ suc t → suc t < pivot_length J j
      → left ≡ drop 1 codes → suc (length left) ≡ length codes
      → row ≡ row_less k v (k.neg (get_or codes 0 0)) (suc t - pivot_length W j) (row_at rows j)
      → IsSpreadDown k n W J rows (suc (t * n + j)) (t * n + j) v codes row left
  spread_kept v row codes left row_in size h q_less left_is left_size row_is =
      let o = inside_at k n W J t j less h in
      let q = kept_at k n W J t j less q_less in
      record {
        row_in = row_in;
        left_in = omega (arith, spread_some codes size h q_less, left_size);
        row_is =
            ap₂ (spread_onto n W J k rows (t * n + j)) left_is
            (row_is ∙ sym (ap₂ (λ a b. row_less k v (k.neg (get_or codes 0 0)) (suc a - pivot_length W b)
            (row_at rows b)) (high k n W J t j less) (column k n W J t j less)))
            ∙ sym (cond_false (is_outside n W J (t * n + j)) _ _ o ∙ cond_true (is_kept n W J (t * n + j)) _ _ q);
      }

module _ (k : FieldOps) (n : ℕ) (W J rows : List (List (List ℕ))) where
  pub spread_on : (a b d : ℕ) (v u x : List (List ℕ)) (xs ys zs : List ℕ) → IsSpreadDown k n W J rows a b v xs u ys
      → IsSpreadDown k n W J rows b d u ys x zs → IsSpreadDown k n W J rows a d v xs x zs
  spread_on a b d v u x xs ys zs h g = record { row_in = g.row_in; left_in = g.left_in; row_is = g.row_is ∙ h.row_is }

-- the codes from a position of the list on
pub drop_at : (xs : List ℕ) (i d : ℕ) → get_or (drop i xs) 0 d ≡ get_or xs i d
drop_at [] zero d = refl
drop_at [] (suc i) d = refl
drop_at (x ∷ xs) zero d = refl
drop_at (x ∷ xs) (suc i) d = drop_at xs i d

pub drop_next : (xs : List ℕ) (i : ℕ) → drop (i + 1) xs ≡ drop 1 (drop i xs)
drop_next [] zero = refl
drop_next [] (suc i) =
    let back : suc i + 1 ≡ suc (i + 1) = omega arith in
    ap (λ m. drop m []) back
drop_next (x ∷ xs) zero = refl
drop_next (x ∷ xs) (suc i) =
    let back : suc i + 1 ≡ suc (i + 1) = omega arith in
    ap (λ m. drop m (x ∷ xs)) back ∙ drop_next xs i

pub drop_size : (xs : List ℕ) (i : ℕ) → i < length xs → suc (length (drop (i + 1) xs)) ≡ length (drop i xs)
drop_size [] i less = absurd (omega (arith, less))
drop_size (x ∷ xs) zero less = refl
drop_size (x ∷ xs) (suc i) less =
    let back : suc i + 1 ≡ suc (i + 1) = omega arith in
    ap (λ m. suc (length (drop m (x ∷ xs)))) back ∙ drop_size xs i (omega (arith, less))

pub drop_some : (xs : List ℕ) (i m : ℕ) → length (drop i xs) ≡ suc m → i < length xs
drop_some [] zero m e = absurd (omega (arith, e))
drop_some [] (suc i) m e = absurd (omega (arith, e))
drop_some (x ∷ xs) zero m e = omega arith
drop_some (x ∷ xs) (suc i) m e = omega (arith, drop_some xs i m e)
