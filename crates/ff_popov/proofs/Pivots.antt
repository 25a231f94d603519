-- The search for the pivot of a row.
use Rattle.std.proofs.Common.{◌≡◌, ◌≢◌, ℕ, zero, suc, ◌+◌, ◌<◌, ◌≤◌, ◌⊎◌, inl, inr, List, [], ◌∷◌, length, get_or, refl, sym, ap, ◌∙◌, arith, subst}
use Rattle.std.specs.Prelude.{All}
use Rattle.std.proofs.lemmas.List.{nil_from_length}
use Rattle.std.proofs.lemmas.Bool.{cases_lt}
use Rattle.ff_poly.specs.Words.{IsPoly}
use Rattle.ff_poly.specs.Popov.{entry_at, IsPivot, IsZeroRow}

-- of the columns below n, the last with the greatest length
pub record PivotSoFar (row : List (List ℕ)) (n column longest : ℕ) : Type 0 where
  pub upto : (i : ℕ) → i < n → i ≤ column → length (entry_at row i) ≤ longest
  pub after : (i : ℕ) → i < n → column < i → length (entry_at row i) < longest
  pub at : 0 < n → length (entry_at row column) ≡ longest
  pub none : n ≡ 0 → longest ≡ 0
  pub trimmed : (i : ℕ) → i < n → IsPoly (entry_at row i)

pub so_far_none : (row : List (List ℕ)) → PivotSoFar row 0 0 0
so_far_none row = record {
  upto = λ i less. absurd (omega (arith, less));
  after = λ i less. absurd (omega (arith, less));
  at = λ less. absurd (omega (arith, less));
  none = λ _. refl;
  trimmed = λ i less. absurd (omega (arith, less));
}

trimmed_more : (row : List (List ℕ)) (n : ℕ) → ((i : ℕ) → i < n → IsPoly (entry_at row i)) → IsPoly (entry_at row n)
    → (i : ℕ) → i < n + 1 → IsPoly (entry_at row i)
trimmed_more row n before here i less = go (cases_lt i n)
  where
    go : (i < n) ⊎ (n ≤ i) → IsPoly (entry_at row i)
    go (inl lower) = before i lower
    go (inr more) = subst (λ j. IsPoly (entry_at row j)) (omega (arith, less, more)) here

pub so_far_more : (row : List (List ℕ)) (n column longest len : ℕ) → PivotSoFar row n column longest
    → len ≡ length (entry_at row n) → longest ≤ len → IsPoly (entry_at row n) → PivotSoFar row (n + 1) n len
so_far_more row n column longest len so_far len_is le is_poly = record {
  upto = λ i less i_le. upto i less (cases_lt i n);
  after = λ i less past. absurd (omega (arith, less, past));
  at = λ _. sym len_is;
  none = λ e. absurd (omega (arith, e));
  trimmed = trimmed_more row n so_far.trimmed is_poly;
}
  where
    before : (i : ℕ) → i < n → (column < i) ⊎ (i ≤ column) → length (entry_at row i) ≤ len
    before i less (inl past) = omega (arith, so_far.after i less past, le)
    before i less (inr i_le) = omega (arith, so_far.upto i less i_le, le)

    upto : (i : ℕ) → i < n + 1 → (i < n) ⊎ (n ≤ i) → length (entry_at row i) ≤ len
    upto i less (inl lower) = before i lower (cases_lt column i)
    upto i less (inr more) = let e : i ≡ n = omega (arith, less, more) in omega
        (arith, ap (λ j. length (entry_at row j)) e, len_is)

pub so_far_skip : (row : List (List ℕ)) (n column longest len : ℕ) → PivotSoFar row n column longest
    → len ≡ length (entry_at row n) → len < longest → IsPoly (entry_at row n) → PivotSoFar row (n + 1) column longest
so_far_skip row n column longest len so_far len_is shorter is_poly = record {
  upto = λ i less i_le. upto i less i_le (cases_lt i n);
  after = λ i less past. after i less past (cases_lt i n);
  at = λ _. so_far.at some;
  none = λ e. absurd (omega (arith, e));
  trimmed = trimmed_more row n so_far.trimmed is_poly;
}
  where
    some_at : (m : ℕ) → n ≡ m → 0 < n
    some_at zero e = absurd (omega (arith, so_far.none e, shorter))
    some_at (suc m) e = omega (arith, e)

    some : 0 < n
    some = some_at n refl

    here : (i : ℕ) → i < n + 1 → n ≤ i → length (entry_at row i) ≡ len
    here i less more = let e : i ≡ n = omega (arith, less, more) in ap (λ j. length (entry_at row j)) e ∙ sym len_is

    upto : (i : ℕ) → i < n + 1 → i ≤ column → (i < n) ⊎ (n ≤ i) → length (entry_at row i) ≤ longest
    upto i less i_le (inl lower) = so_far.upto i lower i_le
    upto i less i_le (inr more) = omega (arith, here i less more, shorter)

    after : (i : ℕ) → i < n + 1 → column < i → (i < n) ⊎ (n ≤ i) → length (entry_at row i) < longest
    after i less past (inl lower) = so_far.after i lower past
    after i less past (inr more) = omega (arith, here i less more, shorter)

past_end : (row : List (List ℕ)) (i : ℕ) → length row ≤ i → length (entry_at row i) ≡ 0
past_end [] i le = refl
past_end (a ∷ row) zero le = absurd (omega (arith, le))
past_end (a ∷ row) (suc i) le = past_end row i (omega (arith, le))

pub so_far_trimmed : (row : List (List ℕ)) (n column longest : ℕ) → PivotSoFar row n column longest → length row ≤ n
    → All IsPoly row
so_far_trimmed row n column longest so_far le i d less = subst IsPoly (default row i d less)
    (so_far.trimmed i (omega (arith, le, less)))
  where
    default : (xs : List (List ℕ)) (i : ℕ) (d : List ℕ) → i < length xs → get_or xs i [] ≡ get_or xs i d
    default [] i d less = absurd (omega (arith, less))
    default (x ∷ xs) zero d less = refl
    default (x ∷ xs) (suc i) d less = default xs i d (omega (arith, less))

pub so_far_zero : (row : List (List ℕ)) (n column longest : ℕ) → PivotSoFar row n column longest → length row ≤ n
    → longest ≡ 0 → IsZeroRow row
so_far_zero row n column longest so_far le null = record
    { zero_at = λ j. nil_from_length (entry_at row j) (at j (cases_lt j n) (cases_lt column j)) }
  where
    at : (j : ℕ) → (j < n) ⊎ (n ≤ j) → (column < j) ⊎ (j ≤ column) → length (entry_at row j) ≡ 0
    at j (inr more) side = past_end row j (omega (arith, le, more))
    at j (inl less) (inl past) = omega (arith, so_far.after j less past, null)
    at j (inl less) (inr j_le) = omega (arith, so_far.upto j less j_le, null)

pub so_far_pivot : (row : List (List ℕ)) (n column longest : ℕ) → PivotSoFar row n column longest → length row ≤ n
    → longest ≢ 0 → IsPivot row column
so_far_pivot row n column longest so_far le some = record {
  some = omega (arith, at, some);
  greatest = λ i. greatest i (cases_lt i n) (cases_lt column i);
  rightmost = λ i past. rightmost i past (cases_lt i n);
}
  where
    some_at : (m : ℕ) → n ≡ m → 0 < n
    some_at zero e = absurd (some (so_far.none e))
    some_at (suc m) e = omega (arith, e)

    at : length (entry_at row column) ≡ longest
    at = so_far.at (some_at n refl)

    greatest : (i : ℕ) → (i < n) ⊎ (n ≤ i) → (column < i) ⊎ (i ≤ column)
        → length (entry_at row i) ≤ length (entry_at row column)
    greatest i (inr more) side = omega (arith, past_end row i (omega (arith, le, more)))
    greatest i (inl less) (inl past) = omega (arith, so_far.after i less past, at)
    greatest i (inl less) (inr i_le) = omega (arith, so_far.upto i less i_le, at)

    rightmost : (i : ℕ) → column < i → (i < n) ⊎ (n ≤ i) → length (entry_at row i) < length (entry_at row column)
    rightmost i past (inl less) = omega (arith, so_far.after i less past, at)
    rightmost i past (inr more) = omega (arith, past_end row i (omega (arith, le, more)), at, some)

-- a row has one pivot, and the zero row none
pub one_pivot : (row : List (List ℕ)) (i j : ℕ) → IsPivot row i → IsPivot row j → i ≡ j
one_pivot row i j p q = go (cases_lt i j) (cases_lt j i)
  where
    go : (i < j) ⊎ (j ≤ i) → (j < i) ⊎ (i ≤ j) → i ≡ j
    go (inl less) side = absurd (omega (arith, p.rightmost j less, q.greatest i))
    go (inr le) (inl less) = absurd (omega (arith, q.rightmost i less, p.greatest j))
    go (inr le) (inr le') = omega (arith, le, le')

pub zero_no_pivot : (row : List (List ℕ)) (j : ℕ) → IsZeroRow row → ¬ IsPivot row j
zero_no_pivot row j null p = absurd (omega (arith, p.some, ap length (null.zero_at j)))

-- the column of a pivot is one of the row
pub pivot_below : (row : List (List ℕ)) (j : ℕ) → IsPivot row j → j < length row
pivot_below row j p = go (cases_lt j (length row))
  where
    go : (j < length row) ⊎ (length row ≤ j) → j < length row
    go (inl less) = less
    go (inr more) = absurd (omega (arith, p.some, past_end row j more))
