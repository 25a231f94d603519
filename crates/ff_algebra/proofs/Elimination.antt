-- One step of the elimination on lines, and what lines keep of it.
use Rattle.std.proofs.Common.{◌≡◌, ◌≢◌, ℕ, zero, suc, ◌+◌, ◌-◌, ◌*◌, ◌<◌, ◌≤◌, inl, inr, List, [], ◌∷◌, length, get_or, drop, refl, sym, ap, ap₂, ◌∙◌, arith, subst, All}
use Rattle.std.specs.Prelude.{remove}
use Rattle.std.proofs.lemmas.Bool.{cases_lt}
use Rattle.std.proofs.lemmas.List.{get_or_past}
use Rattle.std.proofs.lemmas.List.Elements.{All-head, All-tail, All-drop}
use Rattle.ring_lemmas.specs.Ring.{CommRing}
use Rattle.ring_lemmas.specs.Rows.{Row, row_add, row_scale, row_one, row_mul}
use Rattle.ring_lemmas.proofs.Ring.{mul_zero, one_mul, neg_mul, add_add, neg_zero, product_not_zero}
use Rattle.ring_theory.specs.RowRing.{row_ring}
use Rattle.ring_lemmas.proofs.Rows.{row_add_scale, row_scale_add, row_scale_scale, scale_row_mul, row_mul_comm, row_mul_add}
use Rattle.ff_fields.specs.Field.{FieldOps, CodeField}
use Rattle.ff_fields.specs.Over.{IsOver, IsOver_nil}
use Rattle.ff_poly.specs.Words.{IsPoly, multiple_of, product_of}
use Rattle.ff_poly.specs.PolyOver.{IsOver_multiple_of, IsOver_product_of}
use Rattle.ff_poly.specs.Value.{value, value_product, same_from_value}
use Rattle.ff_poly.specs.Polynomials.{Polynomial, polynomials, polynomials_domain, value_nil, value_one, value_not_zero}
use Rattle.ff_poly.proofs.Parts.{value_sum_with_product, value_multiple_minus}
use Rattle.function_field.specs.Values.{PresValue, equation_of}
use Rattle.ff_algebra.specs.RowProducts.{IsPolyRow, cross_sums, row_at}
use Rattle.ff_algebra.specs.Inverses.{eliminated_lines, IsInverseLine}
use Rattle.ff_algebra.proofs.RowProducts.{over_cross_sums, poly_cross_sums, length_cross_sums, row_of_cross_sums}

-- ---- positions after one is removed

-- where the element at position j stood before the one at position i was removed
pub skip : ℕ → ℕ → ℕ
skip zero j = suc j
skip (suc i) zero = zero
skip (suc i) (suc j) = suc (skip i j)

pub skip_other : (i j : ℕ) → skip i j ≢ i
unfolding skip
skip_other zero j = omega arith
skip_other (suc i) zero = omega arith
skip_other (suc i) (suc j) = let rest = skip_other i j in omega (arith, rest)

pub skip_apart : (i j m : ℕ) → j ≢ m → skip i j ≢ skip i m
unfolding skip
skip_apart zero j m apart = omega arith
skip_apart (suc i) zero zero apart = absurd (apart refl)
skip_apart (suc i) zero (suc m) apart = omega arith
skip_apart (suc i) (suc j) zero apart = omega arith
skip_apart (suc i) (suc j) (suc m) apart =
    let rest = skip_apart i j m (λ e. apart (ap suc e)) in omega (arith, rest)

pub skip_below : (i j : ℕ) → skip i j ≤ suc j
unfolding skip
skip_below zero j = omega arith
skip_below (suc i) zero = omega arith
skip_below (suc i) (suc j) = let rest = skip_below i j in omega (arith, rest)

pub get_or_skip : {X : Type 0} (xs : List X) (i j : ℕ) (d : X) → i < length xs
    → get_or (remove xs i) j d ≡ get_or xs (skip i j) d
unfolding skip
get_or_skip [] i j d less = absurd (omega arith)
get_or_skip (x ∷ xs) zero j d less = refl
get_or_skip (x ∷ xs) (suc i) zero d less = refl
get_or_skip (x ∷ xs) (suc i) (suc j) d less = get_or_skip xs i j d (omega arith)

-- ---- entries of sums

drop_cross_sums : (k : FieldOps) (d e : List ℕ) (n : ℕ) (vs ws : List (List ℕ)) → length vs ≡ length ws
    → drop n (cross_sums k d e vs ws) ≡ cross_sums k d e (drop n vs) (drop n ws)
drop_cross_sums k d e zero vs ws same = refl
drop_cross_sums k d e (suc n) [] [] same = refl
drop_cross_sums k d e (suc n) [] (w ∷ ws) same = absurd (omega arith)
drop_cross_sums k d e (suc n) (v ∷ vs) [] same = absurd (omega arith)
drop_cross_sums k d e (suc n) (v ∷ vs) (w ∷ ws) same = drop_cross_sums k d e n vs ws (omega arith)

length_drop_same : (n : ℕ) (vs ws : List (List ℕ)) → length vs ≡ length ws → length (drop n vs) ≡ length (drop n ws)
length_drop_same zero vs ws same = same
length_drop_same (suc n) [] [] same = refl
length_drop_same (suc n) [] (w ∷ ws) same = absurd (omega arith)
length_drop_same (suc n) (v ∷ vs) [] same = absurd (omega arith)
length_drop_same (suc n) (v ∷ vs) (w ∷ ws) same = length_drop_same n vs ws (omega arith)

module _ (k : CodeField) where
  abbrev S : CommRing (Polynomial k)
  S = (polynomials k).ring

  -- a list is empty where it stands for 0
  pub empty_of_zero : (a : List ℕ) → IsOver k.ops a → IsPoly a → value k a ≡ S.𝟘 → a ≡ []
  empty_of_zero a a_in a_poly none = same_from_value k a [] a_in IsOver_nil a_poly (record { trimmed = tt })
      (none ∙ sym (value_nil k))

  -- the entries of a row, and past its end, are polynomials over the field
  pub over_at : (n : ℕ) (vs : List (List ℕ)) → IsPolyRow k.ops n vs → (j : ℕ) → IsOver k.ops (get_or vs j [])
  over_at n vs row j =
      elim (cases_lt j (length vs)) [
        | inl less ↦ row.over j [] less
        | inr past ↦ subst (IsOver k.ops)
            (sym (get_or_past vs j [] past)) IsOver_nil
      ]

  pub poly_at : (n : ℕ) (vs : List (List ℕ)) → IsPolyRow k.ops n vs → (j : ℕ) → IsPoly (get_or vs j [])
  poly_at n vs row j =
      elim (cases_lt j (length vs)) [
        | inl less ↦ row.poly j [] less
        | inr past ↦ subst IsPoly
            (sym (get_or_past vs j [] past)) (record { trimmed = tt })
      ]

  pub entry_cross_sums : (d e : List ℕ) (vs ws : List (List ℕ)) (j : ℕ) → length vs ≡ length ws → IsOver k.ops d
      → IsOver k.ops e → All (IsOver k.ops) vs → All (IsOver k.ops) ws
      → value k (get_or (cross_sums k.ops d e vs ws) j [])
      ≡ S.◌⊕◌ (S.◌⊗◌ (value k e) (value k (get_or vs j []))) (S.◌⊗◌ (value k d) (value k (get_or ws j [])))
  entry_cross_sums d e [] [] j same d_in e_in vs_in ws_in =
      let none : (a : List ℕ) → S.◌⊗◌ (value k a) (value k []) ≡ S.𝟘 = λ a. ap (S.◌⊗◌ (value k a)) (value_nil k)
      ∙ mul_zero S (value k a) in
      value_nil k ∙ sym (ap₂ S.◌⊕◌ (none e) (none d) ∙ S.add_zero S.𝟘)
  entry_cross_sums d e [] (w ∷ ws) j same d_in e_in vs_in ws_in = absurd (omega arith)
  entry_cross_sums d e (v ∷ vs) [] j same d_in e_in vs_in ws_in = absurd (omega arith)
  entry_cross_sums d e (v ∷ vs) (w ∷ ws) zero same d_in e_in vs_in ws_in =
      let v_in = All-head (IsOver k.ops) v vs vs_in in
      let w_in = All-head (IsOver k.ops) w ws ws_in in
      value_sum_with_product k (product_of k.ops e v) d w 1 (IsOver_product_of k e_in v_in) k.laws.one_below d_in w_in
      ∙ ap₂ S.◌⊕◌ (value_product k e v e_in v_in)
      (ap (λ u. S.◌⊗◌ u (S.◌⊗◌ (value k d) (value k w))) (value_one k) ∙ one_mul S (S.◌⊗◌ (value k d) (value k w)))
  entry_cross_sums d e (v ∷ vs) (w ∷ ws) (suc j) same d_in e_in vs_in ws_in =
      entry_cross_sums d e vs ws j (omega arith) d_in e_in (All-tail (IsOver k.ops) v vs vs_in)
      (All-tail (IsOver k.ops) w ws ws_in)

  -- ---- a line less its part at a pivot

  module _ (width column : ℕ) (pivot line : List (List ℕ)) (pivot_in : IsPolyRow k.ops width pivot)
      (line_in : IsPolyRow k.ops width line) where
    abbrev new_line : List (List ℕ)
    new_line = eliminated_lines k.ops column pivot line

    abbrev minus : List ℕ
    minus = multiple_of k.ops (get_or line column []) (k.neg 1)

    minus_in : IsOver k.ops minus
    minus_in = IsOver_multiple_of k (over_at width line line_in column) (k.laws.neg_below 1 k.laws.one_below)

    same_length : length line ≡ length pivot
    same_length = line_in.one_each ∙ sym pivot_in.one_each

    pub IsRow_eliminated : IsPolyRow k.ops width new_line
    IsRow_eliminated = record {
      one_each = length_cross_sums k.ops minus (get_or pivot column []) line pivot same_length ∙ line_in.one_each;
      over = over_cross_sums k minus (get_or pivot column []) line pivot minus_in (over_at width pivot pivot_in column)
          line_in.over pivot_in.over;
      poly = poly_cross_sums k.ops minus (get_or pivot column []) line pivot;
    }

    -- b·(entry of the line) - a·(entry of the pivot)
    entry_eliminated : (j : ℕ)
        → value k (get_or new_line j [])
        ≡ S.◌⊕◌ (S.◌⊗◌ (value k (get_or pivot column [])) (value k (get_or line j [])))
        (S.⊖◌ (S.◌⊗◌ (value k (get_or line column [])) (value k (get_or pivot j []))))
    entry_eliminated j =
        entry_cross_sums minus (get_or pivot column []) line pivot j same_length minus_in
        (over_at width pivot pivot_in column) line_in.over pivot_in.over
        ∙ ap (S.◌⊕◌ (S.◌⊗◌ (value k (get_or pivot column [])) (value k (get_or line j []))))
        (ap (λ u. S.◌⊗◌ u (value k (get_or pivot j [])))
        (value_multiple_minus k (get_or line column []) (over_at width line line_in column))
        ∙ neg_mul S (value k (get_or line column [])) (value k (get_or pivot j [])))

    empty_entry : (j : ℕ) → value k (get_or new_line j []) ≡ S.𝟘 → get_or new_line j [] ≡ []
    empty_entry j none = empty_of_zero (get_or new_line j []) (over_at width new_line IsRow_eliminated j)
        (poly_at width new_line IsRow_eliminated j) none

    pub cleared_here : get_or new_line column [] ≡ []
    cleared_here =
        empty_entry column
        (entry_eliminated column
        ∙ ap (λ u. S.◌⊕◌ u (S.⊖◌ (S.◌⊗◌ (value k (get_or line column [])) (value k (get_or pivot column [])))))
        (S.mul_comm (value k (get_or pivot column [])) (value k (get_or line column [])))
        ∙ S.add_neg (S.◌⊗◌ (value k (get_or line column [])) (value k (get_or pivot column []))))

    -- where the pivot is 0, the line is multiplied
    multiplied : (j : ℕ) → get_or pivot j [] ≡ []
        → value k (get_or new_line j []) ≡ S.◌⊗◌ (value k (get_or pivot column [])) (value k (get_or line j []))
    multiplied j none =
        entry_eliminated j
        ∙ ap (λ u. S.◌⊕◌ (S.◌⊗◌ (value k (get_or pivot column [])) (value k (get_or line j []))) (S.⊖◌ u))
        (ap (S.◌⊗◌ (value k (get_or line column []))) (ap (value k) none ∙ value_nil k)
        ∙ mul_zero S (value k (get_or line column [])))
        ∙ ap (S.◌⊕◌ (S.◌⊗◌ (value k (get_or pivot column [])) (value k (get_or line j [])))) (neg_zero S)
        ∙ S.add_zero (S.◌⊗◌ (value k (get_or pivot column [])) (value k (get_or line j [])))

    pub cleared_kept : (j : ℕ) → get_or pivot j [] ≡ [] → get_or line j [] ≡ [] → get_or new_line j [] ≡ []
    cleared_kept j none line_none =
        empty_entry j
        (multiplied j none ∙ ap (S.◌⊗◌ (value k (get_or pivot column []))) (ap (value k) line_none ∙ value_nil k)
        ∙ mul_zero S (value k (get_or pivot column [])))

    pub own_kept : (j : ℕ) → get_or pivot j [] ≡ [] → get_or line j [] ≢ [] → get_or pivot column [] ≢ []
        → get_or new_line j [] ≢ []
    own_kept j none some pivot_some gone =
        product_not_zero (polynomials_domain k) (value k (get_or pivot column [])) (value k (get_or line j []))
        (value_not_zero k (get_or pivot column []) (over_at width pivot pivot_in column)
        (poly_at width pivot pivot_in column) pivot_some)
        (value_not_zero k (get_or line j []) (over_at width line line_in j) (poly_at width line line_in j) some)
        (sym (multiplied j none) ∙ ap (value k) gone ∙ value_nil k)

-- e times one equation x + a = w·v, plus d times another
combined : {P : Type 0} (S : CommRing P) (n : ℕ) (f : Row P (suc n)) (v : Row P (suc n)) (e d a b : P)
    (x y w u : Row P (suc n))
    → row_add S.ops (suc n) x (row_scale S.ops (suc n) a (row_one S n)) ≡ row_mul S n f w v
    → row_add S.ops (suc n) y (row_scale S.ops (suc n) b (row_one S n)) ≡ row_mul S n f u v
    → row_add S.ops (suc n) (row_add S.ops (suc n) (row_scale S.ops (suc n) e x) (row_scale S.ops (suc n) d y))
    (row_scale S.ops (suc n) (S.◌⊕◌ (S.◌⊗◌ e a) (S.◌⊗◌ d b)) (row_one S n))
    ≡ row_mul S n f (row_add S.ops (suc n) (row_scale S.ops (suc n) e w) (row_scale S.ops (suc n) d u)) v
combined S n f v e d a b x y w u first second =
    let m = suc n in
    let one = row_one S n in
    ap (row_add S.ops m (row_add S.ops m (row_scale S.ops m e x) (row_scale S.ops m d y)))
    (row_add_scale S m (S.◌⊗◌ e a) (S.◌⊗◌ d b) one
    ∙ ap₂ (row_add S.ops m) (row_scale_scale S m e a one) (row_scale_scale S m d b one))
    ∙ add_add (row_ring S n f) (row_scale S.ops m e x) (row_scale S.ops m d y)
    (row_scale S.ops m e (row_scale S.ops m a one)) (row_scale S.ops m d (row_scale S.ops m b one))
    ∙ ap₂ (row_add S.ops m)
    (sym (row_scale_add S m e x (row_scale S.ops m a one)) ∙ ap (row_scale S.ops m e) first ∙ scale_row_mul S n f e w v
    ∙ row_mul_comm S n f (row_scale S.ops m e w) v)
    (sym (row_scale_add S m d y (row_scale S.ops m b one)) ∙ ap (row_scale S.ops m d) second ∙ scale_row_mul S n f d u v
    ∙ row_mul_comm S n f (row_scale S.ops m d u) v)
    ∙ sym (row_mul_add S n f v (row_scale S.ops m e w) (row_scale S.ops m d u))
    ∙ row_mul_comm S n f v (row_add S.ops m (row_scale S.ops m e w) (row_scale S.ops m d u))

module _ (k : CodeField) (p : PresValue) (v : List (List ℕ)) where
  pub line_eliminated : (column : ℕ) (pivot line : List (List ℕ)) → IsInverseLine k p v pivot → IsInverseLine k p v line
      → IsInverseLine k p v (eliminated_lines k.ops column pivot line)
  line_eliminated column pivot line pivot_is line_is =
      let m = suc (p.n - 1) in
      let width = 2 * p.n + 1 in
      let d = multiple_of k.ops (get_or line column []) (k.neg 1) in
      let e = get_or pivot column [] in
      let d_in = minus_in k width column pivot line pivot_is.row line_is.row in
      let e_in = over_at k width pivot pivot_is.row column in
      let same = line_is.row.one_each ∙ sym pivot_is.row.one_each in
      let over = IsOver k.ops in
      let R = (polynomials k).ops in
      record {
        row = IsRow_eliminated k width column pivot line pivot_is.row line_is.row;
        product =
            ap₂ (λ r s. row_add R m r (row_scale R m s (row_one (polynomials k).ring (p.n - 1))))
            (ap (row_at k p) (drop_cross_sums k.ops d e (p.n + 1) line pivot same)
            ∙ row_of_cross_sums k m d e (drop (p.n + 1) line) (drop (p.n + 1) pivot)
            (length_drop_same (p.n + 1) line pivot same) d_in e_in (All-drop over (p.n + 1) line line_is.row.over)
            (All-drop over (p.n + 1) pivot pivot_is.row.over))
            (entry_cross_sums k d e line pivot p.n same d_in e_in line_is.row.over pivot_is.row.over)
            ∙ combined (polynomials k).ring (p.n - 1) (equation_of k p).coefficients (row_at k p v) (value k e)
            (value k d)
            (value k (get_or line p.n [])) (value k (get_or pivot p.n []))
            (row_at k p (drop (p.n + 1) line)) (row_at k p (drop (p.n + 1) pivot)) (row_at k p line) (row_at k p pivot)
            line_is.product pivot_is.product
            ∙ ap (λ r. row_mul (polynomials k).ring (p.n - 1) (equation_of k p).coefficients r (row_at k p v))
            (sym (row_of_cross_sums k m d e line pivot same d_in e_in line_is.row.over pivot_is.row.over));
      }
