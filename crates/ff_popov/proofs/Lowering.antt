-- Rows that are lowered by the rows whose pivots are in the columns.
use Rattle.std.proofs.Common.{◌≡◌, ◌≢◌, ℕ, suc, ◌+◌, ◌-◌, ◌<◌, ◌≤◌, ◌⊎◌, inl, inr, List, [], ◌∷◌, ◌++◌, length, get_or, sym, ap, ◌∙◌, arith, subst, length-append}
use Rattle.std.proofs.lemmas.Bool.{cases_lt}
use Rattle.std.proofs.lemmas.List.{length-map, get_or_append_left, get_or-append_right}
use Rattle.std.specs.Prelude.{All}
use Rattle.std.specs.Global.{Vec}
use native.Mathlib.Decide.{ℕ_discrete}
use Rattle.ff_fields.specs.Field.{FieldOps, CodeField}
use Rattle.ff_poly.specs.Terms.{less_multiple}
use Rattle.ff_poly.specs.Popov.{rows_of, entry_at, row_at, IsRow, IsPivot}
use Rattle.ff_popov.specs.Rows.{IsRowLess, IsShortened, IsOwner, IsOwners, IsLow, owner_length}
use Rattle.ff_popov.proofs.Entries.{read_row_of}
use Rattle.ff_popov.proofs.Transformations.{row_past}
use Rattle.ff_popov.proofs.Pivots.{pivot_below}
use Rattle.ff_popov.proofs.Lengths.{less_multiple_length}
use Rattle.ff_popov.proofs.ReadRows.{past_row, over_at}

module _ (k : CodeField) (a b row : List (List ℕ)) (column c s : ℕ) (a_row : IsRow k.ops (length a) a)
    (b_row : IsRow k.ops (length a) b) (q : IsPivot b column) (c_in : c < k.size) where
  shortened_at : s + length (entry_at b column) ≡ length (entry_at a column)
      → length (less_multiple k.ops (entry_at a column) c s (entry_at b column)) < length (entry_at a column)
      → IsRowLess k.ops a c s b row → IsShortened k.ops a b column row
  shortened_at degrees shorter less = record {
    scalar = c;
    scalar_in = c_in;
    power = s;
    is = less;
    at = omega (arith, ap length (less.entries column (omega (arith, pivot_below b column q, b_row.size))), shorter);
    left = λ i n own of_column. grown i n own (omega (arith, q.greatest i, degrees, of_column)) (cases_lt i (length a));
    right = λ i n past own of_column. grown i n own (omega (arith, q.rightmost i past, degrees, of_column))
        (cases_lt i (length a));
  }
    where
      grown : (i n : ℕ) → length (entry_at a i) ≤ n → s + length (entry_at b i) ≤ n → (i < length a) ⊎ (length a ≤ i)
          → length (entry_at row i) ≤ n
      grown i n own other (inr more) = omega (arith, ap length (past_row row i (omega (arith, less.size, more))))
      grown i n own other (inl in_a) =
          omega (
            arith,
            ap length (less.entries i in_a),
            less_multiple_length k (entry_at a i) c s (entry_at b i) (over_at k a a_row.over i) c_in
                (over_at k b b_row.over i) n own other,
          )

  -- the same, as the call reads the entries
  pub shortened : (x y : List ℕ) → x ≡ entry_at a column → y ≡ entry_at b column → s + length y ≡ length x
      → length (less_multiple k.ops x c s y) < length x
      → IsRowLess k.ops a c s b row → IsShortened k.ops a b column row
  shortened x y x_is y_is degrees shorter less =
      shortened_at
      (subst (λ w. s + length (entry_at b column) ≡ length w) x_is (subst (λ w. s + length w ≡ length x) y_is degrees))
      (subst (λ w. length (less_multiple k.ops w c s (entry_at b column)) < length w) x_is
      (subst (λ w. length (less_multiple k.ops x c s w) < length x) y_is shorter))
      less

  -- an entry of the multiple is no longer than the entry that is shortened
  pub shortened_fits : (x y : List ℕ) → y ≡ entry_at b column → s + length y ≡ length x → (n : ℕ) → length x < n
      → (i : ℕ) → s + length (entry_at b i) < n
  shortened_fits x y y_is degrees n fits i = omega (arith, q.greatest i, ap length y_is, degrees, fits)

-- a column more
pub owners_more : (n i : ℕ) (rows : List (List (List ℕ))) (os : List ℕ) → IsOwners n rows os → IsOwner rows n i
    → IsOwners (n + 1) rows (os ++ i ∷ [])
owners_more n i rows os h p = record {
  size = length-append os (i ∷ []) ∙ ap (λ m. m + 1) h.size;
  owner_at = λ j less. at j less (cases_lt j n);
}
  where
    at : (j : ℕ) → j < n + 1 → (j < n) ⊎ (n ≤ j) → IsOwner rows j (get_or (os ++ i ∷ []) j 0)
    at j less (inl lower) = subst (IsOwner rows j)
        (sym (get_or_append_left os (i ∷ []) 0 j (omega (arith, lower, h.size)))) (h.owner_at j lower)
    at j less (inr more) =
        subst (λ l. IsOwner rows l (get_or (os ++ i ∷ []) l 0)) (omega (arith, less, more))
        (subst (IsOwner rows n) (sym (get_or-append_right os (i ∷ []) n n 0 h.size (omega arith)
        ∙ ap (λ m. get_or (i ∷ []) m 0) zero_is)) p)
      where
        zero_is : n - n ≡ 0
        zero_is = omega arith

module _ (rows : List (List (List ℕ))) (os : List ℕ) (len column : ℕ) (old : List (List ℕ)) where
  abbrev L : ℕ → ℕ
  L j = owner_length rows os j

  -- nothing to do in the column
  pub low_skip : IsLow rows os len (suc column) old → (length (entry_at old column) ≢ len) ⊎ (len < L column)
      → IsLow rows os len column old
  low_skip h done = record { upto = h.upto; right = λ j le less. right j le less (ℕ_discrete j column) }
    where
      here : (length (entry_at old column) ≢ len) ⊎ (len < L column)
          → (length (entry_at old column) ≤ len) ⊎ (length (entry_at old column) < L column)
          → (length (entry_at old column) < len) ⊎ (length (entry_at old column) < L column)
      here d (inr short) = inr short
      here (inl off) (inl le) = inl (omega (arith, off, le))
      here (inr more) (inl le) = inr (omega (arith, more, le))

      right : (j : ℕ) → column ≤ j → j < length old → Dec (j ≡ column)
          → (length (entry_at old j) < len) ⊎ (length (entry_at old j) < L j)
      right j le less (yes e) = subst (λ i. (length (entry_at old i) < len) ⊎ (length (entry_at old i) < L i)) (sym e)
          (here done (h.upto column))
      right j le less (no off) = h.right j (omega (arith, le, off)) less

  -- the entry in the column is shortened
  pub low_step : (ops : FieldOps) (b new : List (List ℕ)) → IsLow rows os len (suc column) old
      → length (entry_at old column) ≡ len → IsShortened ops old b column new → IsLow rows os len column new
  low_step ops b new h is s = record {
    upto = λ j. upto j (h.upto j) (cases_lt len (length (entry_at old j)));
    right = λ j le less. right j le less (ℕ_discrete j column);
  }
    where
      upto : (j : ℕ) → (length (entry_at old j) ≤ len) ⊎ (length (entry_at old j) < L j)
          → (len < length (entry_at old j)) ⊎ (length (entry_at old j) ≤ len)
          → (length (entry_at new j) ≤ len) ⊎ (length (entry_at new j) < L j)
      upto j x (inr le) = inl (s.left j len le (omega (arith, is)))
      upto j (inl le) (inl more) = absurd (omega (arith, le, more))
      upto j (inr short) (inl more) = inr
          (omega (arith, s.left j (length (entry_at old j)) (omega arith) (omega (arith, is, more)), short))

      past : (j : ℕ) → column < j → (length (entry_at old j) < len) ⊎ (length (entry_at old j) < L j)
          → (length (entry_at old j) < len) ⊎ (len ≤ length (entry_at old j))
          → (length (entry_at new j) < len) ⊎ (length (entry_at new j) < L j)
      past j after x (inl less) = inl (omega
          (arith, s.right j (len - 1) after (omega (arith, less)) (omega (arith, is)), less))
      past j after (inl less) (inr more) = absurd (omega (arith, less, more))
      past j after (inr short) (inr more) = inr
          (omega (arith, s.left j (length (entry_at old j)) (omega arith) (omega (arith, is, more)), short))

      right : (j : ℕ) → column ≤ j → j < length new → Dec (j ≡ column)
          → (length (entry_at new j) < len) ⊎ (length (entry_at new j) < L j)
      right j le less (yes e) = subst (λ i. (length (entry_at new i) < len) ⊎ (length (entry_at new i) < L i)) (sym e)
          (inl (omega (arith, s.at, is)))
      right j le less (no off) = past j (omega (arith, le, off))
          (h.right j (omega (arith, le, off)) (omega (arith, less, s.is.size))) (cases_lt (length (entry_at old j)) len)

-- the row that is read for a column
pub owner_row : (ops : FieldOps) (w : ℕ) (vs : List (Vec (List ℕ))) (os : List ℕ) (j i : ℕ) (u : Vec (List ℕ))
    (b : List (List ℕ)) → All (IsRow ops w) (rows_of vs) → IsOwners w (rows_of vs) os → j < w
    → i ≡ get_or os j 0 → u ≡ get_or vs i u → b ≡ u.items
    → (b ≡ row_at (rows_of vs) (get_or os j 0)) × IsRow ops w b × IsPivot b j
owner_row ops w vs os j i u b all h less i_is u_is b_is = (
  is,
  subst (IsRow ops w) (sym is) (all (get_or os j 0) [] below),
  subst (λ r. IsPivot r j) (sym is)
      (h.owner_at j less).pivot,
)
  where
    go : (get_or os j 0 < length (rows_of vs)) ⊎ (length (rows_of vs) ≤ get_or os j 0)
        → get_or os j 0 < length (rows_of vs)
    go (inl lower) = lower
    go (inr more) = absurd (omega (
      arith,
      pivot_below (row_at (rows_of vs) (get_or os j 0)) j (h.owner_at j less).pivot,
      ap length (row_past (rows_of vs) (get_or os j 0) more),
    ))

    below : get_or os j 0 < length (rows_of vs)
    below = go (cases_lt (get_or os j 0) (length (rows_of vs)))

    is : b ≡ row_at (rows_of vs) (get_or os j 0)
    is = read_row_of vs (get_or os j 0) u b (omega (arith, below, length-map vs (λ x. x.items)))
        (u_is ∙ ap (λ m. get_or vs m u) i_is) b_is

-- the next shorter length
pub low_next : (rows : List (List (List ℕ))) (os : List ℕ) (w n : ℕ) (row : List (List ℕ)) → IsLow rows os (n + 1) 0 row
    → length row ≡ w → IsLow rows os n w row
low_next rows os w n row h size = record
    { upto = λ j. upto j (cases_lt j (length row)); right = λ j le less. absurd (omega (arith, le, less, size)) }
  where
    lower : (j : ℕ) → (length (entry_at row j) < n + 1) ⊎ (length (entry_at row j) < owner_length rows os j)
        → (length (entry_at row j) ≤ n) ⊎ (length (entry_at row j) < owner_length rows os j)
    lower j (inl less) = inl (omega (arith, less))
    lower j (inr short) = inr short

    upto : (j : ℕ) → (j < length row) ⊎ (length row ≤ j)
        → (length (entry_at row j) ≤ n) ⊎ (length (entry_at row j) < owner_length rows os j)
    upto j (inl less) = lower j (h.right j (omega arith) less)
    upto j (inr more) = inl (omega (arith, ap length (past_row row j more)))

pub low_start : (rows : List (List (List ℕ))) (os : List ℕ) (w n : ℕ) (row : List (List ℕ))
    → ((j : ℕ) → length (entry_at row j) ≤ n) → length row ≡ w → IsLow rows os n w row
low_start rows os w n row h size = record
    { upto = λ j. inl (h j); right = λ j le less. absurd (omega (arith, le, less, size)) }

pub low_done : (rows : List (List (List ℕ))) (os : List ℕ) (w w' : ℕ) (row : List (List ℕ)) → IsOwners w rows os
    → IsLow rows os 0 w' row → (j : ℕ) → j < w → length (entry_at row j) < owner_length rows os j
low_done rows os w w' row owners h j less = go (h.upto j)
  where
    go : (length (entry_at row j) ≤ 0) ⊎ (length (entry_at row j) < owner_length rows os j)
        → length (entry_at row j) < owner_length rows os j
    go (inl null) = omega (arith, null, (owners.owner_at j less).pivot.some)
    go (inr short) = short
