-- How rows of polynomials are added and multiplied, as lists of lists of codes.
use Rattle.std.specs.Prelude.{◌≡◌, ℕ, suc, ◌-◌, List, [], ◌∷◌, length, All}
use Rattle.ring_lemmas.specs.Rows.{Row, row_zero, row_add, row_scale, times_y}
use Rattle.ff_fields.specs.Field.{FieldOps, CodeField}
use Rattle.ff_fields.specs.Over.{IsOver}
use Rattle.ff_poly.specs.Words.{IsPoly, sum_of, multiple_of, product_of}
use Rattle.ff_poly.specs.Value.{value}
use Rattle.ff_poly.specs.Polynomials.{Polynomial, polynomials}
use Rattle.function_field.specs.Values.{PresValue, row_of_list, equation_of}

module _ (k : FieldOps) where
  -- n polynomials over the field
  pub record IsPolyRow (n : ℕ) (vs : List (List ℕ)) : Type 0 where
    pub one_each : length vs ≡ n
    pub over : All (IsOver k) vs
    pub poly : All IsPoly vs

  -- c·a·w is added to the entry at the position of each w
  abbrev pub add_products : ℕ → List ℕ → List (List ℕ) → List (List ℕ) → List (List ℕ)
  add_products c a [] ws = []
  add_products c a (v ∷ vs) [] = v ∷ vs
  add_products c a (v ∷ vs) (w ∷ ws) = sum_of k v (multiple_of k (product_of k a w) c) ∷ add_products c a vs ws

  -- e·v + d·w for each v and w
  abbrev pub cross_sums : List ℕ → List ℕ → List (List ℕ) → List (List ℕ) → List (List ℕ)
  cross_sums d e [] ws = []
  cross_sums d e (v ∷ vs) [] = []
  cross_sums d e (v ∷ vs) (w ∷ ws) = sum_of k (product_of k e v) (multiple_of k (product_of k d w) 1) ∷ cross_sums d e
      vs ws

module _ (k : CodeField) (p : PresValue) where
  -- a row of n polynomials, as coefficients of 1, y, up to y^(n-1)
  abbrev pub row_at : List (List ℕ) → Row (Polynomial k) (suc (p.n - 1))
  row_at vs = row_of_list k (suc (p.n - 1)) vs

  -- y times a row, modulo f
  abbrev pub y_times : Row (Polynomial k) (suc (p.n - 1)) → Row (Polynomial k) (suc (p.n - 1))
  y_times v = times_y (polynomials k).ops (suc (p.n - 1)) (equation_of k p).coefficients v

  -- the sum of vs_i·y^i, times a row, modulo f
  abbrev pub list_times : List (List ℕ) → Row (Polynomial k) (suc (p.n - 1)) → Row (Polynomial k) (suc (p.n - 1))
  list_times [] w = row_zero (polynomials k).ops (suc (p.n - 1))
  list_times (v ∷ vs) w =
      row_add (polynomials k).ops (suc (p.n - 1)) (row_scale (polynomials k).ops (suc (p.n - 1)) (value k v) w)
      (y_times (list_times vs w))
