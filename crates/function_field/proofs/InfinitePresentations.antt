-- The reversed coefficients make the infinite presentation, and how large the infinity number can be.
use Rattle.std.proofs.Common.{◌≡◌, ℕ, zero, suc, ◌+◌, ◌-◌, ◌*◌, ◌<◌, ◌≤◌, ◌⊎◌, inl, inr, Bool, true, false, cond, eqb-true, List, [], ◌∷◌, ◌++◌, length, get_or, reverse, replicate, refl, sym, ap, ap₂, ◌∙◌, arith, All}
use Rattle.std.proofs.Math.Nat.{mul-le-mul_right}
use Rattle.std.proofs.lemmas.Bool.{cases_lt}
use Rattle.std.proofs.lemmas.List.Elements.{All-get_or, All-from_get_or, All-head, All-tail, All-push}
use mathlib.Core.List.{reverse-cons}
use Rattle.ring_lemmas.specs.Ring.{CommRing, pow}
use Rattle.ring_lemmas.specs.Lists.{trim_onto}
use Rattle.ring_lemmas.proofs.Ring.{mul_rules, mul_zero, zero_add, one_mul, pow_add}
use Rattle.ff_fields.specs.Field.{CodeField}
use Rattle.ff_fields.specs.Code.{is_zero_code, zero_in}
use Rattle.ff_fields.specs.Over.{IsOver, IsOver_nil, IsOver_cons, IsOver_trim, IsOver_append, IsOver_zeros}
use Rattle.ff_fields.specs.Numbers.{read, numbers_read, numbers_trim}
use Rattle.ff_poly.specs.Words.{poly_of}
use Rattle.ff_poly.specs.Polynomials.{polynomials, codes_of, constant_poly, x_poly, x_poly_not_zero, polynomial_eq, value_nil}
use Rattle.function_field.specs.declared.side.Side.TheVariants.{Finite, Infinite}
use Rattle.function_field.specs.Functions.{of_poly}
use Rattle.function_field.specs.Values.{PresValue, IsPresOver, Functions, functions, equation_of}
use Rattle.function_field.specs.Infinity.{IsInfinityNumber, IsInfinitePresentation, constant, value_at, variable}
use Rattle.function_field.specs.Curves.{reversed_of}
use Rattle.function_field.proofs.OnSide.{of_poly_zero, den_inverse}
use Rattle.function_field.proofs.Reversal.{value as value_of, value_reverse}

-- ---- lists at t, where 0 is read as 0

module _ {E : Type 0} (F : CommRing E) (e : ℕ → E) (e_zero : e 0 ≡ F.𝟘) where
  open F use {𝟘, 𝟙, ◌⊕◌, ◌⊗◌, ⊖◌}

  infixl 65 ◌⊕◌
  infixl 70 ◌⊗◌
  infixr 80 ⊖◌
  -- zeros on top don't count
  pub value_trim : (t : E) (w : List ℕ) → value_of F e t (poly_of w) ≡ value_of F e t w
  unfolding value_of
  value_trim t [] = refl
  value_trim t (c ∷ w) = onto (poly_of w) ∙ ap (λ v. e c ⊕ t ⊗ v) (value_trim t w)
    where
      one : (b : Bool) → (b ≡ true → c ≡ 0) → value_of F e t (cond b [] (c ∷ [])) ≡ e c ⊕ t ⊗ 𝟘
      one true h = sym (ap₂ ◌⊕◌ (ap e (h refl) ∙ e_zero) (mul_zero F t) ∙ F.add_zero 𝟘)
      one false h = refl

      onto : (v : List ℕ) → value_of F e t (trim_onto is_zero_code c v) ≡ e c ⊕ t ⊗ value_of F e t v
      onto [] = one (is_zero_code c) (eqb-true c 0)
      onto (d ∷ v) = refl

  -- zeros below are a power of t
  pub value_zeros : (t : E) (m : ℕ) (w : List ℕ)
      → value_of F e t (replicate m 0 ++ w) ≡ pow F.ops t m ⊗ value_of F e t w
  unfolding value_of
  value_zeros t zero w = sym (one_mul F (value_of F e t w))
  value_zeros t (suc m) w =
      ap₂ (λ a b. a ⊕ t ⊗ b) e_zero (value_zeros t m w) ∙ zero_add F (t ⊗ (pow F.ops t m ⊗ value_of F e t w))
      ∙ sym (F.mul_assoc t (pow F.ops t m) (value_of F e t w))

  module _ (x t : E) (inverse : x ⊗ t ≡ 𝟙) where
    cancel : (p q a r : E) → q ⊗ a ≡ t ⊗ r → p ⊗ r ≡ x ⊗ (p ⊗ q) ⊗ a
    cancel p q a r h =
        sym (one_mul F (p ⊗ r)) ∙ ap (λ u. u ⊗ (p ⊗ r)) (sym inverse) ∙ group ∙ ap (λ u. (x ⊗ p) ⊗ u) (sym h) ∙ regroup
      where
        group : (x ⊗ t) ⊗ (p ⊗ r) ≡ (x ⊗ p) ⊗ (t ⊗ r)
        group = simp mul_rules

        regroup : (x ⊗ p) ⊗ (q ⊗ a) ≡ x ⊗ (p ⊗ q) ⊗ a
        regroup = simp mul_rules

    -- t^d·a(x)
    pub value_reversed : (a : List ℕ) (d : ℕ) → length a ≤ d + 1
        → value_of F e t (reversed_of a (d + 1)) ≡ value_of F e x a ⊗ pow F.ops t d
    value_reversed a d le =
        let m = d + 1 - length a in
        let back : t ⊗ x ≡ 𝟙 = F.mul_comm t x ∙ inverse in
        let whole : m + length a ≡ suc d = omega arith in
        value_trim t (replicate m 0 ++ poly_of (reverse a))
        ∙ value_zeros t m (poly_of (reverse a))
        ∙ ap (λ v. pow F.ops t m ⊗ v) (value_trim t (reverse a))
        ∙ cancel (pow F.ops t m) (pow F.ops t (length a)) (value_of F e x a) (value_of F e t (reverse a))
        (value_reverse F e t x back a)
        ∙ ap (λ p. x ⊗ p ⊗ value_of F e x a) (sym (pow_add F t m (length a)) ∙ ap (pow F.ops t) whole)
        ∙ ap (λ u. u ⊗ value_of F e x a)
        (sym (F.mul_assoc x t (pow F.ops t d)) ∙ ap (λ u. u ⊗ pow F.ops t d) inverse ∙ one_mul F (pow F.ops t d))
        ∙ F.mul_comm (pow F.ops t d) (value_of F e x a)

-- ---- the infinite presentation

module _ (k : CodeField) where
  -- the constant 0
  zero_constant : constant_poly k 0 ≡ (polynomials k).𝟘
  zero_constant =
      polynomial_eq k (constant_poly k 0) (polynomials k).𝟘
      (numbers_trim k (read k (0 ∷ [])) ∙ ap poly_of (numbers_read k (0 ∷ []) (IsOver_cons (zero_in k) IsOver_nil))
      ∙ sym (ap (codes_of k) (sym (value_nil k))))

  -- a reversed list has its codes in range
  pub All_reverse : {A : Type 0} (P : A → Type 0) (xs : List A) → All P xs → All P (reverse xs)
  All_reverse P [] h = h
  All_reverse P (x ∷ xs) h = rw (reverse-cons x xs)
      (All-push P (reverse xs) x (All_reverse P xs (All-tail P x xs h)) (All-head P x xs h))

  pub over_reversed : (a : List ℕ) (m : ℕ) → IsOver k.ops a → IsOver k.ops (reversed_of a m)
  over_reversed a m a_in =
      IsOver_trim (replicate (m - length a) 0 ++ poly_of (reverse a))
      (IsOver_append (IsOver_zeros k (m - length a))
      (IsOver_trim (reverse a) (record { each = All_reverse (λ c. c < k.size) a a_in.each })))

module _ (k : CodeField) (p : PresValue) where
  pub value_at_value : (t : Functions k p) (w : List ℕ) → value_at k p t w ≡ value_of (functions k p) (constant k p) t w
  unfolding value_of
  value_at_value t [] = refl
  value_at_value t (c ∷ w) = ap (λ s. (functions k p).◌⊕◌ (constant k p c) ((functions k p).◌⊗◌ t s))
      (value_at_value t w)

  pub constant_zero : constant k p 0 ≡ (functions k p).𝟘
  constant_zero = ap (of_poly (equation_of k p)) (zero_constant k) ∙ sym (of_poly_zero (equation_of k p))

  reversed_at : (a : List ℕ) (d : ℕ) → length a ≤ d + 1 → value_at k p (variable k p Infinite) (reversed_of a (d + 1))
      ≡ (functions k p).◌⊗◌ (value_at k p (variable k p Finite) a) (pow (functions k p).ops (variable k p Infinite) d)
  reversed_at a d le =
      value_at_value (variable k p Infinite) (reversed_of a (d + 1))
      ∙ value_reversed (functions k p) (constant k p) constant_zero
      (variable k p Finite) (variable k p Infinite) (den_inverse (equation_of k p) (x_poly k) (x_poly_not_zero k)) a d
      le
      ∙ ap (λ v. (functions k p).◌⊗◌ v (pow (functions k p).ops (variable k p Infinite) d))
      (sym (value_at_value (variable k p Finite) a))

  module _ (c : ℕ) (q : PresValue) (number : IsInfinityNumber p c) (degree : q.n ≡ p.n)
      (one_each : length q.coeffs ≡ q.n)
      (reversed : (i : ℕ) → i < p.n → get_or q.coeffs i [] ≡ reversed_of (get_or p.coeffs i []) (c * (p.n - i) + 1))
      (p_one_each : length p.coeffs ≡ p.n) where
    pub infinite_is : IsInfinitePresentation k p c q
    infinite_is = record {
      number = number;
      degree = degree;
      one_each = one_each;
      coefficients = λ i less.
          let back : p.n - (p.n - i) ≡ i = omega arith in
          let le : length (get_or p.coeffs i []) ≤ c * (p.n - i)
          + 1 = rw back at (number.enough (p.n - i) (omega arith) (omega arith)) in
          ap (value_at k p (variable k p Infinite)) (reversed i less)
          ∙ reversed_at (get_or p.coeffs i []) (c * (p.n - i)) le;
    }

    pub infinite_over : IsPresOver k.ops p → IsPresOver k.ops q
    infinite_over p_in = record {
      coeffs_over = All-from_get_or (IsOver k.ops) q.coeffs [] (λ i less.
          let less' : i < p.n = omega (arith, one_each, degree) in
          rw (reversed i less') (over_reversed k (get_or p.coeffs i []) (c * (p.n - i) + 1)
          (All-get_or (IsOver k.ops) p.coeffs i [] (omega (arith, p_one_each)) p_in.coeffs_over)));
    }

-- ---- the infinity number is small

short_at : (xs : List (List ℕ)) (i : ℕ) → All (λ a. length a ≤ 33) xs → length (get_or xs i []) ≤ 33
short_at xs i short = go (cases_lt i (length xs))
  where
    past : (xs : List (List ℕ)) (i : ℕ) → length xs ≤ i → length (get_or xs i []) ≡ 0
    past [] i le = refl
    past (x ∷ xs) zero le = absurd (omega arith)
    past (x ∷ xs) (suc i) le = past xs i (omega arith)

    go : (i < length xs) ⊎ (length xs ≤ i) → length (get_or xs i []) ≤ 33
    go (inl less) = All-get_or (λ a. length a ≤ 33) xs i [] less short
    go (inr le) = let e = past xs i le in omega (arith, e)

pub number_small : (p : PresValue) (c : ℕ) → IsInfinityNumber p c → All (λ a. length a ≤ 33) p.coeffs → c ≤ 32
number_small p c h short = go (cases_lt 32 c)
  where
    go : (32 < c) ⊎ (c ≤ 32) → c ≤ 32
    go (inl less) = absurd (h.least 32 less
        (λ i low high. let e = short_at p.coeffs (p.n - i) short in omega (arith, e)))
    go (inr le) = le

pub small_product : (c n m : ℕ) → c ≤ 32 → n ≤ 4 → m ≤ 4 → (c * n ≤ 128) × (c * n * (m - 1) ≤ 384)
small_product c n m c_small n_small m_small =
    let a : c * n ≤ 32 * n = mul-le-mul_right n c_small in
    let b : c * n ≤ 128 = omega (arith, a) in
    let d : c * n * (m - 1) ≤ 128 * (m - 1) = mul-le-mul_right (m - 1) b in
    (b, omega (arith, d))
