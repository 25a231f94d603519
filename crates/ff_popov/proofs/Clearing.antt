-- The steps of the calls that clear a pivot.
use Rattle.std.proofs.Common.{◌≡◌, ℕ, ◌+◌, ◌-◌, ◌^◌, ◌<◌, ◌≤◌, ◌⊎◌, inl, inr, List, [], ◌++◌, length, get_or, take, sym, ap, ◌∙◌, arith, subst}
use Rattle.std.proofs.lemmas.Bool.{cases_lt}
use Rattle.std.proofs.lemmas.List.{take_at}
use native.Mathlib.Decide.{ℕ_discrete}
use Rattle.ff_fields.specs.Field.{CodeField}
use Rattle.ff_poly.specs.Terms.{less_multiple}
use Rattle.ff_poly.specs.Popov.{entry_at, IsRow, IsPivot}
use Rattle.ff_popov.specs.Rows.{IsRowLess, IsCleared, IsClearedBy}
use Rattle.ff_popov.proofs.Entries.{any_default}
use Rattle.ff_popov.proofs.Pivots.{pivot_below}
use Rattle.ff_popov.proofs.Lengths.{less_multiple_length}
use Rattle.ff_popov.proofs.ReadRows.{past_row, over_at}

module _ (k : CodeField) (a b row : List (List ℕ)) (column c s : ℕ) (a_row : IsRow k.ops (length a) a)
    (b_row : IsRow k.ops (length a) b) (p : IsPivot a column) (q : IsPivot b column) (c_in : c < k.size) where
  cleared_at : s + length (entry_at b column) ≡ length (entry_at a column)
      → length (less_multiple k.ops (entry_at a column) c s (entry_at b column)) < length (entry_at a column)
      → IsRowLess k.ops a c s b row → IsCleared k.ops a b column row
  cleared_at degrees shorter less = record {
    scalar = c;
    scalar_in = c_in;
    power = s;
    is = less;
    left = λ i i_less. left i (cases_lt i (length a));
    right = λ i le. right i le (cases_lt i (length a)) (ℕ_discrete i column);
  }
    where
      left : (i : ℕ) → (i < length a) ⊎ (length a ≤ i) → length (entry_at row i) ≤ length (entry_at a column)
      left i (inr more) = omega (arith, ap length (past_row row i (omega (arith, less.size, more))))
      left i (inl in_a) =
          omega (
            arith,
            ap length (less.entries i in_a),
            less_multiple_length k (entry_at a i) c s (entry_at b i) (over_at k a a_row.over i) c_in
                (over_at k b b_row.over i) (length (entry_at a column)) (p.greatest i)
                (omega (arith, q.greatest i, degrees)),
          )

      right : (i : ℕ) → column ≤ i → (i < length a) ⊎ (length a ≤ i) → Dec (i ≡ column)
          → length (entry_at row i) < length (entry_at a column)
      right i le (inr more) d = omega (arith, ap length (past_row row i (omega (arith, less.size, more))), p.some)
      right i le (inl in_a) (yes e) =
          subst (λ j. length (entry_at row j) < length (entry_at a column)) (sym e)
          (omega (arith, ap length (less.entries column (pivot_below a column p)), shorter))
      right i le (inl in_a) (no off) =
          let past : column < i = omega (arith, le, off) in
          omega (
            arith,
            ap length (less.entries i in_a),
            less_multiple_length k (entry_at a i) c s (entry_at b i) (over_at k a a_row.over i) c_in
                (over_at k b b_row.over i) (length (entry_at a column) - 1)
                (omega (arith, p.rightmost i past)) (omega (arith, q.rightmost i past, degrees)),
            p.some,
          )

  read_at : (xs : List (List ℕ)) (x : List ℕ) → IsPivot xs column → x ≡ get_or xs column x → x ≡ entry_at xs column
  read_at xs x at is = is ∙ any_default xs column x [] (pivot_below xs column at)

  pub cleared_is : (x y : List ℕ) → x ≡ get_or a column x → y ≡ get_or b column y → s + length y ≡ length x
      → length (less_multiple k.ops x c s y) < length x
      → IsRowLess k.ops a c s b row → IsCleared k.ops a b column row
  cleared_is x y x_is y_is degrees shorter less =
      let e = read_at a x p x_is in
      let f = read_at b y q y_is in
      cleared_at
      (subst (λ w. s + length (entry_at b column) ≡ length w) e (subst (λ w. s + length w ≡ length x) f degrees))
      (subst (λ w. length (less_multiple k.ops w c s (entry_at b column)) < length w) e
      (subst (λ w. length (less_multiple k.ops x c s w) < length x) f shorter))
      less

  pub cleared_by : (x y : List ℕ) → x ≡ get_or a column x → y ≡ get_or b column y → s + length y ≡ length x
      → length x < 2 ^ 64 → length (less_multiple k.ops x c s y) < length x
      → IsRowLess k.ops a c s b row → IsClearedBy k.ops a b column c s row
  cleared_by x y x_is y_is degrees fits shorter less = record {
    scalar_in = c_in;
    fits = omega (arith, degrees, fits, q.some, ap length (read_at b y q y_is));
    is = less;
    cleared = cleared_is x y x_is y_is degrees shorter less;
  }

  -- an entry of the multiple is no longer than the pivot
  pub multiple_fits : (x y : List ℕ) → x ≡ get_or a column x → y ≡ get_or b column y → s + length y ≡ length x → (n : ℕ)
      → length x < n → (i : ℕ) → s + length (entry_at b i) < n
  multiple_fits x y x_is y_is degrees n fits i = omega
      (arith, q.greatest i, ap length (read_at b y q y_is), degrees, fits)

-- a vector whose whole slice was written
pub written_row : (now rest : List (List ℕ)) (n : ℕ) → length now ≡ n → now ≡ take n (now ++ rest)
written_row now rest n same = sym (take_at now rest n same)
