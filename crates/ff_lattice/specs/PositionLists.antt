-- The normal form of a row of an order modulo an ideal, as a list of codes. The coefficient of x^t in column j stands
-- at the position t·n + j. There is one code for each position at which a row of the order ends and none of the ideal,
-- from the highest position down (Becker and Weispfenning, Gröbner Bases, on normal forms).
use Rattle.std.specs.Prelude.{◌≡◌, ℕ, zero, suc, ◌-◌, ◌/◌, ◌%◌, ◌<◌, ◌≤◌, Bool, cond, nat_lt, List, [], ◌∷◌, ◌++◌, length, get_or, drop}
use Rattle.ff_fields.specs.Field.{FieldOps}
use Rattle.ff_poly.specs.Terms.{less_multiple}
use Rattle.ff_poly.specs.Popov.{entry_at, row_at, IsRow}

-- the length of the pivot in a column
abbrev pub pivot_length : List (List (List ℕ)) → ℕ → ℕ
pivot_length rows j = length (entry_at (row_at rows j) j)

-- the greatest length of the pivots in the first columns
pub record IsDeepest (rows : List (List (List ℕ))) (count depth : ℕ) : Type 0 where
  pub bound : (j : ℕ) → j < count → pivot_length rows j ≤ depth
  pub least : (d : ℕ) → ((j : ℕ) → j < count → pivot_length rows j ≤ d) → depth ≤ d

-- a row less c·x^s times another
abbrev pub row_less : FieldOps → List (List ℕ) → ℕ → ℕ → List (List ℕ) → List (List ℕ)
row_less k [] c s b = []
row_less k (u ∷ a) c s [] = less_multiple k u c s [] ∷ row_less k a c s []
row_less k (u ∷ a) c s (v ∷ b) = less_multiple k u c s v ∷ row_less k a c s b

-- n columns, and the Popov bases of an order and of an ideal, over one denominator
module _ (n : ℕ) (order ideal : List (List (List ℕ))) where
  -- no row of the order ends at the position
  abbrev pub is_outside : ℕ → Bool
  is_outside e = nat_lt (suc (e / n)) (pivot_length order (e % n))

  -- no row of the ideal ends there
  abbrev pub is_kept : ℕ → Bool
  is_kept e = nat_lt (suc (e / n)) (pivot_length ideal (e % n))

  -- the power of x that brings the pivot of the rows' column to the position
  abbrev pub lift_power : List (List (List ℕ)) → ℕ → ℕ
  lift_power rows e = suc (e / n) - pivot_length rows (e % n)

  -- the code at the position
  abbrev pub code_at_position : List (List ℕ) → ℕ → ℕ
  code_at_position v e = get_or (entry_at v (e % n)) (e / n) 0

  -- v less the multiple of the row of the column that ends at the position as v does
  abbrev pub cleared : FieldOps → List (List (List ℕ)) → ℕ → List (List ℕ) → List (List ℕ)
  cleared k rows e v = row_less k v (code_at_position v e) (lift_power rows e) (row_at rows (e % n))

  -- how many positions below e have a code
  abbrev pub code_count : ℕ → ℕ
  code_count zero = 0
  code_count (suc e) = cond (is_outside e) (code_count e) (cond (is_kept e) (suc (code_count e)) (code_count e))

  -- the codes of v at the positions below e
  abbrev pub codes_below : FieldOps → ℕ → List (List ℕ) → List ℕ
  codes_below k zero v = []
  codes_below k (suc e) v =
      cond (is_outside e) (codes_below k e v)
      (cond (is_kept e) (code_at_position v e ∷ codes_below k e (cleared k order e v)) (codes_below k e (cleared k ideal e v)))

  -- the sum of what the codes stand for, each with the power of x and the column of its position
  abbrev pub sum_of_codes : {V : Type 0} → (V → V → V) → V → (ℕ → ℕ → ℕ → V) → ℕ → List ℕ → V
  sum_of_codes add null term zero a = null
  sum_of_codes add null term (suc e) a =
      cond (is_outside e) (sum_of_codes add null term e a)
      (cond (is_kept e) (add (term (get_or a 0 0) (lift_power order e) (e % n))
      (sum_of_codes add null term e (drop 1 a))) (sum_of_codes add null term e a))

  -- the row, and for each code c the multiple by c·x^s of the row of its column
  abbrev pub spread_onto : FieldOps → List (List (List ℕ)) → ℕ → List ℕ → List (List ℕ) → List (List ℕ)
  spread_onto k rows zero a row = row
  spread_onto k rows (suc e) a row =
      cond (is_outside e) (spread_onto k rows e a row)
      (cond (is_kept e) (spread_onto k rows e (drop 1 a)
      (row_less k row (k.neg (get_or a 0 0)) (lift_power order e) (row_at rows (e % n))))
      (spread_onto k rows e a row))

-- from one position down to another: the codes that were appended, and the row that is left
pub record IsReadDown (k : FieldOps) (n : ℕ) (order ideal : List (List (List ℕ))) (high low : ℕ) (row : List (List ℕ))
    (codes : List ℕ) (rest : List (List ℕ)) (more : List ℕ) : Type 0 where
  pub row_in : IsRow k n rest
  pub codes_are : more ++ codes_below n order ideal k low rest ≡ codes ++ codes_below n order ideal k high row

-- from one position down to another: the codes that are left, and the row to which multiples were added
pub record IsSpreadDown (k : FieldOps) (n : ℕ) (order ideal rows : List (List (List ℕ))) (high low : ℕ)
    (row : List (List ℕ)) (codes : List ℕ) (more : List (List ℕ)) (left : List ℕ) : Type 0 where
  pub row_in : IsRow k n more
  pub left_in : length left ≡ code_count n order ideal low
  pub row_is : spread_onto n order ideal k rows low left more ≡ spread_onto n order ideal k rows high codes row
