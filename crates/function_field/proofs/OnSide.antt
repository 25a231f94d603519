-- The function of an element of either presentation is the one that the element stands for.
use Rattle.std.proofs.Common.{◌≡◌, ℕ, zero, suc, ◌-◌, ◌<◌, List, [], ◌∷◌, ◌++◌, length, reverse, refl, sym, ◌∙◌, ap, ap₂, true≢false, eq-eqb}
use mathlib.Core.List.{reverse-append}
use Rattle.ring_lemmas.specs.Ring.{CommRing, pow}
use Rattle.ring_lemmas.specs.Lists.{IsTrimmed}
use Rattle.ring_lemmas.specs.Rows.{row_zero, row_add, row_scale, row_one, row_mul}
use Rattle.ring_theory.specs.FunctionRing.{pair_mul, whole_pair}
use Rattle.ring_lemmas.proofs.Ring.{mul_rules, one_mul}
use Rattle.ring_lemmas.proofs.Rows.{pair_path, row_mul_one, row_mul_comm, row_add_zero, row_scale_zero, row_scale_scale, scale_row_mul}
use Rattle.ff_fields.specs.Field.{CodeField}
use Rattle.ff_fields.specs.Code.{is_zero_code}
use Rattle.ff_fields.specs.Over.{IsOver, IsOver_head, IsOver_tail}
use Rattle.ff_poly.specs.Words.{IsPoly}
use Rattle.ff_poly.specs.Value.{value}
use Rattle.ff_poly.specs.Polynomials.{Polynomial, polynomials, constant_poly, x_poly, x_poly_not_zero, value_nil, value_one, value_cons, value_not_zero, value_first}
use Rattle.function_field.specs.declared.side.Side.{Side}
use Rattle.function_field.specs.declared.side.Side.TheVariants.{Finite, Infinite}
use Rattle.function_field.specs.Functions.{Equation, RowOver, ring_of, ring_of_x, function, function_eq, mul_rows, whole_row, row_of, of_poly, over, mul_function, one_function, zero_function}
use Rattle.function_field.specs.Values.{ElemValue, PresValue, Functions, functions, equation_of, row_of_list, row_over, function_of}
use Rattle.function_field.specs.Infinity.{constant, value_at, row_value_at, variable, generator, StandsFor, inverse_at, function_on}
use Rattle.function_field.proofs.Horner.{plain, add_plain, mul_plain, row_of_scale}
use Rattle.function_field.proofs.Reversal.{value as value_of, value_reverse}
use Rattle.function_field.proofs.SameValues.{row_over_num, row_over_den}

module _ {k : CodeField} (c : Equation k) where
  -- polynomials keep sums and products as functions
  pub of_poly_plus : (a b : Polynomial k)
      → (ring_of c).◌⊕◌ (of_poly c a) (of_poly c b) ≡ of_poly c ((polynomials k).◌⊕◌ a b)
  unfolding row_add
  of_poly_plus a b =
      add_plain c (row_of c a) (row_of c b)
      ∙ ap (λ t. function c (plain c t))
      (pair_path refl (row_add_zero (ring_of_x c) c.lower_degree (row_zero (ring_of_x c).ops c.lower_degree)))

  pub row_product : (a b : Polynomial k)
      → row_mul (ring_of_x c) c.lower_degree c.coefficients (row_of c a) (row_of c b)
      ≡ row_of c ((polynomials k).◌⊗◌ a b)
  unfolding row_scale
  row_product a b =
      ap (λ t. row_mul (ring_of_x c) c.lower_degree c.coefficients t (row_of c b)) (row_of_scale c a)
      ∙ sym (scale_row_mul (ring_of_x c) c.lower_degree c.coefficients a (row_one (ring_of_x c) c.lower_degree)
      (row_of c b))
      ∙ ap (row_scale (ring_of_x c).ops (suc c.lower_degree) a)
      (row_mul_comm (ring_of_x c) c.lower_degree c.coefficients (row_one (ring_of_x c) c.lower_degree) (row_of c b)
      ∙ row_mul_one (ring_of_x c) c.lower_degree c.coefficients (row_of c b))
      ∙ pair_path refl (row_scale_zero (ring_of_x c) c.lower_degree a)

  pub of_poly_times : (a b : Polynomial k)
      → (ring_of c).◌⊗◌ (of_poly c a) (of_poly c b) ≡ of_poly c ((polynomials k).◌⊗◌ a b)
  of_poly_times a b = mul_plain c (row_of c a) (row_of c b) ∙ ap (λ t. function c (plain c t)) (row_product a b)

  pub of_poly_zero : (ring_of c).𝟘 ≡ of_poly c (polynomials k).𝟘
  unfolding whole_pair row_zero
  of_poly_zero =
      zero_function c
      ∙ function_eq c (whole_row c (row_zero (ring_of_x c).ops (suc c.lower_degree)))
      (plain c (row_of c (polynomials k).𝟘)) refl

  -- d times 1/d is 1
  pub den_inverse : (d : Polynomial k) (n : ¬ (d ≡ (polynomials k).𝟘))
      → (ring_of c).◌⊗◌ (of_poly c d) (over c (row_of c (polynomials k).𝟙) d n) ≡ (ring_of c).𝟙
  unfolding pair_mul whole_pair row_one
  den_inverse d n =
      mul_function c (plain c (row_of c d)) reciprocal
      ∙ function_eq c (mul_rows c (plain c (row_of c d)) reciprocal)
      (whole_row c (row_one (ring_of_x c) c.lower_degree)) cross
      ∙ sym (one_function c)
    where
      reciprocal : RowOver c
      reciprocal = record { num = row_of c (polynomials k).𝟙; den = d; den_not_zero = n }

      cross : row_scale (ring_of_x c).ops (suc c.lower_degree) (polynomials k).𝟙
          (row_mul (ring_of_x c) c.lower_degree c.coefficients (row_of c d) (row_of c (polynomials k).𝟙))
          ≡ row_scale (ring_of_x c).ops (suc c.lower_degree) ((ring_of_x c).◌⊗◌ (polynomials k).𝟙 d)
          (row_one (ring_of_x c) c.lower_degree)
      cross =
          ap (row_scale (ring_of_x c).ops (suc c.lower_degree) (polynomials k).𝟙)
          (row_mul_one (ring_of_x c) c.lower_degree c.coefficients (row_of c d) ∙ row_of_scale c d)
          ∙ sym (row_scale_scale (ring_of_x c) (suc c.lower_degree) (polynomials k).𝟙 d
          (row_one (ring_of_x c) c.lower_degree))

-- a list without a zero on top ends in a code that isn't 0
ends : (w : List ℕ) → IsTrimmed is_zero_code w → ¬ (w ≡ []) → (u : List ℕ) × (c : ℕ) × (¬ (c ≡ 0)) × (w ≡ u ++ c ∷ [])
ends [] t n = absurd (n refl)
ends (c ∷ []) t n = ([], c, λ e. true≢false (sym (eq-eqb c 0 e) ∙ t), refl)
ends (a ∷ d ∷ w) t n =
    let rest = ends (d ∷ w) t (λ e. cc) in
    (a ∷ rest.0, rest.1, rest.2, ap (λ t. a ∷ t) rest.3)

IsOver_last : (k : CodeField) (u : List ℕ) (c : ℕ) → IsOver k.ops (u ++ c ∷ []) → c < k.size
IsOver_last k [] c h = IsOver_head h
IsOver_last k (b ∷ u) c h = IsOver_last k u c (IsOver_tail h)

module _ {E : Type 0} (F : CommRing E) where
  infixl 70 ◌⊗◌
  open F use {𝟙, ◌⊗◌}

  combine : (q v x r t i : E) → q ⊗ v ≡ x ⊗ r → x ⊗ t ≡ 𝟙 → r ⊗ i ≡ 𝟙 → v ⊗ ((q ⊗ t) ⊗ i) ≡ 𝟙
  combine q v x r t i e f g =
      left ∙ ap (λ s. s ⊗ (t ⊗ i)) e ∙ right ∙ ap₂ (λ s u. s ⊗ u) f g ∙ F.mul_one 𝟙
    where
      left : v ⊗ ((q ⊗ t) ⊗ i) ≡ (q ⊗ v) ⊗ (t ⊗ i)
      left = simp mul_rules

      right : (x ⊗ r) ⊗ (t ⊗ i) ≡ (x ⊗ t) ⊗ (r ⊗ i)
      right = simp mul_rules

module _ (k : CodeField) (p : PresValue) where
  -- the value at x is the polynomial
  pub value_at_x : (w : List ℕ) → value_at k p (variable k p Finite) w ≡ of_poly (equation_of k p) (value k w)
  value_at_x [] = of_poly_zero (equation_of k p) ∙ ap (of_poly (equation_of k p)) (sym (value_nil k))
  value_at_x (c ∷ w) =
      ap ((functions k p).◌⊕◌ (constant k p c))
      (ap ((functions k p).◌⊗◌ (variable k p Finite)) (value_at_x w)
      ∙ of_poly_times (equation_of k p) (x_poly k) (value k w))
      ∙ of_poly_plus (equation_of k p) (constant_poly k c) ((polynomials k).◌⊗◌ (x_poly k) (value k w))
      ∙ ap (of_poly (equation_of k p)) (sym (value_cons k c w))

  empty_row : (m : ℕ) → row_of_list k m [] ≡ row_zero (polynomials k).ops m
  unfolding row_zero
  empty_row zero = refl
  empty_row (suc m) = pair_path refl (empty_row m)

  one_over_value : List ℕ → ElemValue
  one_over_value d = record { num = (1 ∷ []) ∷ []; den = d }

  one_over : (d : List ℕ) (n : ¬ (value k d ≡ (polynomials k).𝟘))
      → function_of k p (one_over_value d)
      ≡ over (equation_of k p) (row_of (equation_of k p) (polynomials k).𝟙) (value k d) n
  unfolding one_over_value
  one_over d n =
      function_eq (equation_of k p) (row_over k p (one_over_value d))
      (record { num = row_of (equation_of k p) (polynomials k).𝟙; den = value k d; den_not_zero = n })
      (ap₂ (row_scale (polynomials k).ops (suc (p.n - 1))) (sym (row_over_den k p (one_over_value d) n))
      (row_over_num k p (one_over_value d) ∙ pair_path (value_one k) (empty_row (p.n - 1))))

  times_one_over : (d : List ℕ) → ¬ (value k d ≡ (polynomials k).𝟘)
      → (functions k p).◌⊗◌ (of_poly (equation_of k p) (value k d)) (function_of k p (one_over_value d))
      ≡ (functions k p).𝟙
  times_one_over d n =
      ap ((functions k p).◌⊗◌ (of_poly (equation_of k p) (value k d))) (one_over d n)
      ∙ den_inverse (equation_of k p) (value k d) n

  value_at_value : (t : Functions k p) (w : List ℕ) → value_at k p t w ≡ value_of (functions k p) (constant k p) t w
  unfolding value_of
  value_at_value t [] = refl
  value_at_value t (c ∷ w) = ap (λ s. (functions k p).◌⊕◌ (constant k p c) ((functions k p).◌⊗◌ t s))
      (value_at_value t w)

  -- the reversal of a polynomial other than 0 isn't 0
  pub reverse_not_zero : (d : List ℕ) → IsOver k.ops d → IsPoly d → ¬ (d ≡ [])
      → ¬ (value k (reverse d) ≡ (polynomials k).𝟘)
  reverse_not_zero d d_in d_poly n = go (ends d d_poly.trimmed n)
    where
      go : (u : List ℕ) × (c : ℕ) × (¬ (c ≡ 0)) × (d ≡ u ++ c ∷ []) → ¬ (value k (reverse d) ≡ (polynomials k).𝟘)
      go (u, c, some, e) z =
          value_first k c (reverse u) (IsOver_last k u c (rw e at d_in)) some
          (ap (value k) (sym (ap reverse e ∙ reverse-append u (c ∷ []))) ∙ z)

  -- d at the variable of the side, times its inverse, is 1
  pub times_inverse : (s : Side) (d : List ℕ) → IsOver k.ops d → IsPoly d → ¬ (d ≡ [])
      → (functions k p).◌⊗◌ (value_at k p (variable k p s) d) (inverse_at k p s d) ≡ (functions k p).𝟙
  unfolding one_over_value
  times_inverse Finite d d_in d_poly n =
      ap (λ v. (functions k p).◌⊗◌ v (inverse_at k p Finite d)) (value_at_x d)
      ∙ times_one_over d (value_not_zero k d d_in d_poly n)
  times_inverse Infinite d d_in d_poly n =
      combine (functions k p) (pow (functions k p).ops (variable k p Finite) (length d))
      (value_at k p (variable k p Infinite) d) (variable k p Finite)
      (of_poly (equation_of k p) (value k (reverse d))) (variable k p Infinite)
      (function_of k p (one_over_value (reverse d)))
      reversed
      (den_inverse (equation_of k p) (x_poly k) (x_poly_not_zero k))
      (times_one_over (reverse d) (reverse_not_zero d d_in d_poly n))
    where
      reversed : (functions k p).◌⊗◌ (pow (functions k p).ops (variable k p Finite) (length d))
          (value_at k p (variable k p Infinite) d)
          ≡ (functions k p).◌⊗◌ (variable k p Finite) (of_poly (equation_of k p) (value k (reverse d)))
      reversed =
          ap ((functions k p).◌⊗◌ (pow (functions k p).ops (variable k p Finite) (length d)))
          (value_at_value (variable k p Infinite) d)
          ∙ value_reverse (functions k p) (constant k p) (variable k p Finite) (variable k p Infinite)
          (den_inverse (equation_of k p) (x_poly k) (x_poly_not_zero k)) d
          ∙ ap ((functions k p).◌⊗◌ (variable k p Finite))
          (sym (value_at_value (variable k p Finite) (reverse d)) ∙ value_at_x (reverse d))

  -- the function of an element of either presentation is the one that it stands for
  pub function_on_stands : (c : ℕ) (s : Side) (z : ElemValue) → IsOver k.ops z.den → IsPoly z.den → ¬ (z.den ≡ [])
      → StandsFor k p c s z (function_on k p c s z)
  function_on_stands c s z h g n =
      sym ((functions k p).mul_assoc (value_at k p (variable k p s) z.den) (inverse_at k p s z.den)
      (row_value_at k p (variable k p s) (generator k p c s) z.num))
      ∙ ap (λ u. (functions k p).◌⊗◌ u (row_value_at k p (variable k p s) (generator k p c s) z.num))
      (times_inverse s z.den h g n)
      ∙ one_mul (functions k p) (row_value_at k p (variable k p s) (generator k p c s) z.num)

  -- and the only one
  pub stands_once : (c : ℕ) (s : Side) (z : ElemValue) (w : Functions k p) → IsOver k.ops z.den → IsPoly z.den
      → ¬ (z.den ≡ []) → StandsFor k p c s z w → w ≡ function_on k p c s z
  stands_once c s z w h g n e =
      sym (one_mul (functions k p) w)
      ∙ ap (λ u. (functions k p).◌⊗◌ u w)
      (sym (times_inverse s z.den h g n) ∙ (functions k p).mul_comm (value_at k p (variable k p s) z.den)
      (inverse_at k p s z.den))
      ∙ (functions k p).mul_assoc (inverse_at k p s z.den) (value_at k p (variable k p s) z.den) w
      ∙ ap ((functions k p).◌⊗◌ (inverse_at k p s z.den)) e
