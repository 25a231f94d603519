-- An element of one presentation that is turned into the other stands for the same function.
use Rattle.std.proofs.Common.{◌≡◌, ◌≢◌, ℕ, zero, suc, ◌+◌, ◌-◌, ◌*◌, ◌≤◌, ◌<◌, List, [], ◌∷◌, ◌++◌, length, get_or, map, reverse, replicate, refl, sym, ◌∙◌, ap, ap₂, subst, arith, All, true≢false, eq-eqb}
use Rattle.std.proofs.Math.Nat.{mul-suc}
use Rattle.std.proofs.lemmas.List.Elements.{All-head, All-tail, All-get_or, All-from_get_or}
use mathlib.Core.List.{reverse-append, reverse-cons}
use Rattle.ring_lemmas.specs.Ring.{pow}
use Rattle.ring_lemmas.specs.Lists.{scale_list, IsTrimmed, trim_onto, IsTrimmed_trim}
use Rattle.ring_lemmas.proofs.Ring.{mul_zero, zero_mul, pow_add, mul_pow, pow_one_base}
use Rattle.ring_lemmas.proofs.Lists.{trim_trimmed}
use Rattle.ring_lemmas.proofs.Solver.{ring, reads}
use Rattle.ff_fields.specs.Field.{CodeField}
use Rattle.ff_fields.specs.Code.{raw_ring, is_zero_code}
use Rattle.ff_fields.specs.Over.{IsOver, IsOver_nil, IsOver_cons, IsOver_head, IsOver_tail, get_or_below}
use Rattle.ff_poly.specs.Words.{IsMonicList, poly_of, top_of, multiple_of}
use Rattle.ff_poly.specs.Polynomials.{constant_poly, x_poly, x_poly_not_zero}
use Rattle.ff_poly.proofs.Parts.{value_multiple}
use Rattle.function_field.specs.declared.side.Side.TheVariants.{Finite, Infinite}
use Rattle.function_field.specs.Functions.{of_poly}
use Rattle.function_field.specs.Values.{PresValue, ElemValue, IsElem, IsMonicElem, Functions, functions, equation_of, row_of_list, row_over, function_of}
use Rattle.function_field.specs.Infinity.{constant, value_at, row_value_at, variable, generator, function_on}
use Rattle.function_field.specs.Curves.{reversed_of}
use Rattle.function_field.proofs.Horner.{horner, den_times_function}
use Rattle.function_field.proofs.OnSide.{of_poly_times, den_inverse, value_at_x, function_on_stands, stands_once}
use Rattle.function_field.proofs.SameValues.{row_over_num, row_over_den, monic_some, elem_den}
use Rattle.function_field.proofs.InfinitePresentations.{over_reversed, value_trim, value_zeros, value_reversed, constant_zero, value_at_value}

-- the numerators w_i are the v_i, reversed with m - c·i codes
pub record AreTurned (c m : ℕ) (vs ws : List (List ℕ)) : Type 0 where
  pub same_length : length ws ≡ length vs
  pub each : (i : ℕ) → i < length vs → get_or ws i [] ≡ reversed_of (get_or vs i []) (m - c * i)
  pub fits : (i : ℕ) → i < length vs → get_or vs i [] ≢ [] → length (get_or vs i []) + c * i ≤ m

pub are_turned : (c m n : ℕ) (vs ws : List (List ℕ)) → length ws ≡ n → n ≡ length vs
    → ((i : ℕ) → i < n → get_or ws i [] ≡ reversed_of (get_or vs i []) (m - c * i))
    → ((i : ℕ) → i < length vs → get_or vs i [] ≢ [] → length (get_or vs i []) + c * i ≤ m) → AreTurned c m vs ws
are_turned c m n vs ws size all each fits =
    record { same_length = size ∙ all; each = λ i less. each i (omega (arith, all)); fits = fits }

-- ---- reversed lists

abbrev zeros : ℕ → List ℕ
zeros j = replicate j 0

zeros_push : (j : ℕ) → zeros j ++ 0 ∷ [] ≡ 0 ∷ zeros j
zeros_push zero = refl
zeros_push (suc j) = ap (λ w. 0 ∷ w) (zeros_push j)

reverse_zeros : (j : ℕ) → reverse (zeros j) ≡ zeros j
reverse_zeros zero = refl
reverse_zeros (suc j) = reverse-cons 0 (zeros j) ∙ ap (λ w. w ++ 0 ∷ []) (reverse_zeros j) ∙ zeros_push j

trim_again : (w : List ℕ) → poly_of (poly_of w) ≡ poly_of w
trim_again w = trim_trimmed is_zero_code (poly_of w) (IsTrimmed_trim is_zero_code w)

trim_above_zeros : (j : ℕ) (w : List ℕ) → poly_of (replicate j 0 ++ w) ≡ poly_of (replicate j 0 ++ poly_of w)
trim_above_zeros zero w = sym (trim_again w)
trim_above_zeros (suc j) w = ap (trim_onto is_zero_code 0) (trim_above_zeros j w)

-- the codes up to m, in reverse
pub reversed_padded : (a : List ℕ) (m : ℕ) → poly_of (reverse (a ++ replicate (m - length a) 0)) ≡ reversed_of a m
reversed_padded a m =
    ap poly_of (reverse-append a (replicate (m - length a) 0) ∙ ap (λ w. w ++ reverse a) (reverse_zeros (m - length a)))
    ∙ trim_above_zeros (m - length a) (reverse a)

nil_above_zeros : (j : ℕ) (w : List ℕ) → poly_of (replicate j 0 ++ w) ≡ [] → poly_of w ≡ []
nil_above_zeros zero w e = e
nil_above_zeros (suc j) w e = nil_above_zeros j w (onto (poly_of (replicate j 0 ++ w)) e)
  where
    onto : (u : List ℕ) → trim_onto is_zero_code 0 u ≡ [] → u ≡ []
    onto [] e = refl
    onto (y ∷ u) e = cc

-- the reversal of what is monic isn't 0
pub reversed_not_zero : (d : List ℕ) (m : ℕ) → IsMonicList d → reversed_of d m ≢ []
reversed_not_zero d m (lower, d_is) e =
    one (poly_of (reverse lower))
    (ap poly_of (sym (ap reverse d_is ∙ reverse-append lower (1 ∷ [])))
    ∙ sym (trim_again (reverse d)) ∙ nil_above_zeros (m - length d) (poly_of (reverse d)) e)
  where
    one : (u : List ℕ) → trim_onto is_zero_code 1 u ≡ [] → ⊥
    one [] e = cc
    one (y ∷ u) e = cc

trimmed_top : (w : List ℕ) → IsTrimmed is_zero_code w → w ≢ [] → top_of w ≢ 0
trimmed_top [] t n = absurd (n refl)
trimmed_top (c ∷ []) t n = λ e. true≢false (sym (eq-eqb c 0 e) ∙ t)
trimmed_top (a ∷ d ∷ w) t n =
    let last : length (a ∷ d ∷ w) - 1 ≡ suc (length (d ∷ w) - 1) = omega arith in
    λ e. trimmed_top (d ∷ w) t (λ f. cc) (sym (ap (λ i. get_or (a ∷ d ∷ w) i 0) last) ∙ e)

pub over_turned : (k : CodeField) (c m : ℕ) (vs ws : List (List ℕ)) → AreTurned c m vs ws → All (IsOver k.ops) vs
    → All (IsOver k.ops) ws
over_turned k c m vs ws h vs_in =
    All-from_get_or (IsOver k.ops) ws [] (λ i less.
    let less' : i < length vs = omega (arith, h.same_length) in
    rw (h.each i less') (over_reversed k (get_or vs i []) (m - c * i) (All-get_or (IsOver k.ops) vs i [] less' vs_in)))

module _ (k : CodeField) (p : PresValue) where
  infixl 65 ◌⊕◌
  infixl 70 ◌⊗◌
  open functions k p use {𝟘, 𝟙, ◌⊕◌, ◌⊗◌}

  -- ---- a power of t times what is read at x = 1/t, read at t

  module _ (x t : Functions k p) (inverse : x ⊗ t ≡ 𝟙) where
    powers : (d n : ℕ) → pow (functions k p).ops t (d + n) ⊗ pow (functions k p).ops x n ≡ pow (functions k p).ops t d
    powers d n =
        ap (λ s. s ⊗ pow (functions k p).ops x n) (pow_add (functions k p) t d n)
        ∙ (functions k p).mul_assoc (pow (functions k p).ops t d) (pow (functions k p).ops t n)
        (pow (functions k p).ops x n)
        ∙ ap (λ s. pow (functions k p).ops t d ⊗ s)
        ((functions k p).mul_comm (pow (functions k p).ops t n) (pow (functions k p).ops x n)
        ∙ sym (mul_pow (functions k p) x t n) ∙ ap (λ s. pow (functions k p).ops s n) inverse
        ∙ pow_one_base (functions k p) n)
        ∙ (functions k p).mul_one (pow (functions k p).ops t d)

    -- t^(m-1)·x^n·a(x), read at t
    term : (a : List ℕ) (m n : ℕ) → (a ≢ [] → length a + n ≤ m)
        → value_at k p t (reversed_of a (m - n))
        ≡ value_at k p x a ⊗ (pow (functions k p).ops t (m - 1) ⊗ pow (functions k p).ops x n)
    term [] m n fits =
        null (m - n - length {A = ℕ} [])
        ∙ sym (zero_mul (functions k p) (pow (functions k p).ops t (m - 1) ⊗ pow (functions k p).ops x n))
      where
        null : (j : ℕ) → value_at k p t (poly_of (replicate j 0 ++ [])) ≡ 𝟘
        null j =
            value_at_value k p t (poly_of (replicate j 0 ++ []))
            ∙ value_trim (functions k p) (constant k p) (constant_zero k p) t (replicate j 0 ++ [])
            ∙ value_zeros (functions k p) (constant k p) (constant_zero k p) t j []
            ∙ ap (λ s. pow (functions k p).ops t j ⊗ s) (sym (value_at_value k p t []))
            ∙ mul_zero (functions k p) (pow (functions k p).ops t j)
    term (a ∷ v) m n fits =
        let le : suc (length v) + n ≤ m = fits (λ e. cc) in
        let d = m - n - 1 in
        let size : m - n ≡ d + 1 = omega arith in
        let whole : m - 1 ≡ d + n = omega arith in
        ap (λ l. value_at k p t (reversed_of (a ∷ v) l)) size
        ∙ value_at_value k p t (reversed_of (a ∷ v) (d + 1))
        ∙ value_reversed (functions k p) (constant k p) (constant_zero k p) x t inverse (a ∷ v) d (omega arith)
        ∙ ap₂ (λ s r. s ⊗ r) (sym (value_at_value k p x (a ∷ v)))
        (sym (powers d n) ∙ ap (λ l. pow (functions k p).ops t l ⊗ pow (functions k p).ops x n) (sym whole))

    module _ (c : ℕ) (G H : Functions k p) (generators : G ≡ H ⊗ pow (functions k p).ops x c) where
      row : (m j : ℕ) (vs ws : List (List ℕ)) → length ws ≡ length vs
          → ((i : ℕ) → i < length vs → get_or ws i [] ≡ reversed_of (get_or vs i []) (m - c * (j + i)))
          → ((i : ℕ) → i < length vs → get_or vs i [] ≢ [] → length (get_or vs i []) + c * (j + i) ≤ m)
          → row_value_at k p t H ws ≡ pow (functions k p).ops t (m - 1) ⊗ pow (functions k p).ops x (c * j) ⊗
          row_value_at k p x G vs
      row m j [] [] size each fits = sym
          (mul_zero (functions k p) (pow (functions k p).ops t (m - 1) ⊗ pow (functions k p).ops x (c * j)))
      row m j [] (w ∷ ws) size each fits = absurd (omega arith)
      row m j (v ∷ vs) [] size each fits = absurd (omega arith)
      row m j (v ∷ vs) (w ∷ ws) size each fits =
          let here : j + 0 ≡ j = omega arith in
          let shift : (i : ℕ) → j + suc i ≡ suc j + i = λ i. omega arith in
          ap₂ (λ s r. s ⊕ H ⊗ r)
          (ap (value_at k p t) (each 0 (omega arith) ∙ ap (λ n. reversed_of v (m - c * n)) here)
          ∙ term v m (c * j) (λ some. rw here at (fits 0 (omega arith) some)))
          (row m (suc j) vs ws (omega arith)
          (λ i less. each (suc i) (omega arith) ∙ ap (λ n. reversed_of (get_or vs i []) (m - c * n)) (shift i))
          (λ i less some. rw (shift i) at (fits (suc i) (omega arith) some)))
          ∙ ap (λ s. value_at k p x v ⊗ (pow (functions k p).ops t (m - 1) ⊗ pow (functions k p).ops x (c * j))
          ⊕ H ⊗ (pow (functions k p).ops t (m - 1) ⊗ s ⊗ row_value_at k p x G vs)) (next j)
          ∙ step (value_at k p x v) (pow (functions k p).ops t (m - 1)) (pow (functions k p).ops x (c * j))
          (pow (functions k p).ops x c) (row_value_at k p x G vs)
          ∙ ap (λ s. pow (functions k p).ops t (m - 1) ⊗ pow (functions k p).ops x (c * j) ⊗
          (value_at k p x v ⊕ s ⊗ row_value_at k p x G vs)) (sym generators)
        where
          next : (n : ℕ) → pow (functions k p).ops x (c * suc n)
              ≡ pow (functions k p).ops x c ⊗ pow (functions k p).ops x (c * n)
          next n =
              let more : c * suc n ≡ c + c * n = rw (mul-suc c n) (omega arith) in
              ap (pow (functions k p).ops x) more ∙ pow_add (functions k p) x c (c * n)

          step : (a T X C R : Functions k p) → a ⊗ (T ⊗ X) ⊕ H ⊗ (T ⊗ (C ⊗ X) ⊗ R) ≡ T ⊗ X ⊗ (a ⊕ H ⊗ C ⊗ R)
          step a T X C R =
              ring (functions k p) (a ∷ T ∷ X ∷ C ∷ R ∷ H ∷ []) λ q h. simp (reads, q, h 0, h 1, h 2, h 3, h 4, h 5)
              (q.equal _ _ refl)

      -- d(x)·f = Σ v_i(x)·G^i becomes the equation of the turned parts
      stands : (m : ℕ) (z g : ElemValue) (f : Functions k p) → AreTurned c m z.num g.num → g.den ≡ reversed_of z.den m
          → length z.den ≤ m
          → value_at k p x z.den ⊗ f ≡ row_value_at k p x G z.num
          → value_at k p t g.den ⊗ f ≡ row_value_at k p t H g.num
      stands m z g f num den fits h =
          let none : c * 0 ≡ 0 = omega arith in
          let all : m ≡ m - 0 = omega arith in
          let whole : (n : ℕ) → 0 + n ≡ n = λ n. omega arith in
          let W = pow (functions k p).ops t (m - 1) ⊗ pow (functions k p).ops x 0 in
          ap (λ s. s ⊗ f) (ap (value_at k p t) (den ∙ ap (reversed_of z.den) all)
          ∙ term z.den m 0 (λ some. omega arith))
          ∙ turn (value_at k p x z.den) W f
          ∙ ap (λ s. W ⊗ s) h
          ∙ sym (row m 0 z.num g.num num.same_length
          (λ i less. num.each i less ∙ ap (λ n. reversed_of (get_or z.num i []) (m - c * n)) (sym (whole i)))
          (λ i less some. subst (λ n. length (get_or z.num i []) + c * n ≤ m) (sym (whole i)) (num.fits i less some))
          ∙ ap (λ n. pow (functions k p).ops t (m - 1) ⊗ pow (functions k p).ops x n ⊗ row_value_at k p x G z.num) none)
        where
          turn : (d w f : Functions k p) → d ⊗ w ⊗ f ≡ w ⊗ (d ⊗ f)
          turn d w f = ring (functions k p) (d ∷ w ∷ f ∷ []) λ q h. simp (reads, q, h 0, h 1, h 2) (q.equal _ _ refl)

  -- ---- all parts times a code

  constant_mul : (u a : ℕ) → u < k.size → a < k.size → constant k p (k.mul u a) ≡ constant k p u ⊗ constant k p a
  constant_mul u a u_in a_in =
      sym (value_at_x k p (k.mul u a ∷ []))
      ∙ value_at_value k p (variable k p Finite) (k.mul u a ∷ [])
      ∙ sym (value_trim (functions k p) (constant k p) (constant_zero k p) (variable k p Finite) (k.mul u a ∷ []))
      ∙ sym (value_at_value k p (variable k p Finite) (multiple_of k.ops (a ∷ []) u))
      ∙ value_at_x k p (multiple_of k.ops (a ∷ []) u)
      ∙ ap (of_poly (equation_of k p)) (value_multiple k (a ∷ []) u (IsOver_cons a_in IsOver_nil) u_in)
      ∙ sym (of_poly_times (equation_of k p) (constant_poly k u) (constant_poly k a))

  value_scale : (t : Functions k p) (u : ℕ) (w : List ℕ) → u < k.size → IsOver k.ops w
      → value_at k p t (scale_list (raw_ring k.ops) u w) ≡ constant k p u ⊗ value_at k p t w
  value_scale t u [] u_in w_in = sym (mul_zero (functions k p) (constant k p u))
  value_scale t u (a ∷ w) u_in w_in =
      ap₂ (λ s r. s ⊕ t ⊗ r) (constant_mul u a u_in (IsOver_head w_in)) (value_scale t u w u_in (IsOver_tail w_in))
      ∙ collect (constant k p u) (constant k p a) t (value_at k p t w)
    where
      collect : (u a t v : Functions k p) → u ⊗ a ⊕ t ⊗ (u ⊗ v) ≡ u ⊗ (a ⊕ t ⊗ v)
      collect u a t v = ring (functions k p) (u ∷ a ∷ t ∷ v ∷ []) λ q h. simp (reads, q, h 0, h 1, h 2, h 3)
          (q.equal _ _ refl)

  multiple_at : (t : Functions k p) (u : ℕ) (w : List ℕ) → u < k.size → IsOver k.ops w
      → value_at k p t (multiple_of k.ops w u) ≡ constant k p u ⊗ value_at k p t w
  multiple_at t u w u_in w_in =
      value_at_value k p t (multiple_of k.ops w u)
      ∙ value_trim (functions k p) (constant k p) (constant_zero k p) t (scale_list (raw_ring k.ops) u w)
      ∙ sym (value_at_value k p t (scale_list (raw_ring k.ops) u w))
      ∙ value_scale t u w u_in w_in

  row_multiple_at : (t Y : Functions k p) (u : ℕ) (vs : List (List ℕ)) → u < k.size → All (IsOver k.ops) vs
      → row_value_at k p t Y (map (λ v. multiple_of k.ops v u) vs) ≡ constant k p u ⊗ row_value_at k p t Y vs
  row_multiple_at t Y u [] u_in vs_in = sym (mul_zero (functions k p) (constant k p u))
  row_multiple_at t Y u (v ∷ vs) u_in vs_in =
      ap₂ (λ s r. s ⊕ Y ⊗ r) (multiple_at t u v u_in (All-head (IsOver k.ops) v vs vs_in))
      (row_multiple_at t Y u vs u_in (All-tail (IsOver k.ops) v vs vs_in))
      ∙ collect (constant k p u) (value_at k p t v) Y (row_value_at k p t Y vs)
    where
      collect : (u a t v : Functions k p) → u ⊗ a ⊕ t ⊗ (u ⊗ v) ≡ u ⊗ (a ⊕ t ⊗ v)
      collect u a t v = ring (functions k p) (u ∷ a ∷ t ∷ v ∷ []) λ q h. simp (reads, q, h 0, h 1, h 2, h 3)
          (q.equal _ _ refl)

  multiple_stands : (t Y : Functions k p) (u : ℕ) (g w : ElemValue) (f : Functions k p) → u < k.size
      → All (IsOver k.ops) g.num → IsOver k.ops g.den
      → w.num ≡ map (λ v. multiple_of k.ops v u) g.num → w.den ≡ multiple_of k.ops g.den u
      → value_at k p t g.den ⊗ f ≡ row_value_at k p t Y g.num → value_at k p t w.den ⊗ f ≡ row_value_at k p t Y w.num
  multiple_stands t Y u g w f u_in num_in den_in num den h =
      ap (λ s. s ⊗ f) (ap (value_at k p t) den ∙ multiple_at t u g.den u_in den_in)
      ∙ (functions k p).mul_assoc (constant k p u) (value_at k p t g.den) f
      ∙ ap (λ s. constant k p u ⊗ s) h
      ∙ sym (ap (row_value_at k p t Y) num ∙ row_multiple_at t Y u g.num u_in num_in)

  -- ---- the functions

  x_times_t : variable k p Finite ⊗ variable k p Infinite ≡ 𝟙
  x_times_t = den_inverse (equation_of k p) (x_poly k) (x_poly_not_zero k)

  t_times_x : variable k p Infinite ⊗ variable k p Finite ≡ 𝟙
  t_times_x = (functions k p).mul_comm (variable k p Infinite) (variable k p Finite) ∙ x_times_t

  -- y = Y·x^c
  y_is : (c : ℕ) → generator k p c Finite ≡ generator k p c Infinite ⊗ pow (functions k p).ops (variable k p Finite) c
  y_is c =
      sym ((functions k p).mul_one (generator k p c Finite))
      ∙ ap (λ s. generator k p c Finite ⊗ s)
      (sym (pow_one_base (functions k p) c) ∙ ap (λ s. pow (functions k p).ops s c) (sym t_times_x)
      ∙ mul_pow (functions k p) (variable k p Infinite) (variable k p Finite) c)
      ∙ sym ((functions k p).mul_assoc (generator k p c Finite) (pow (functions k p).ops (variable k p Infinite) c)
      (pow (functions k p).ops (variable k p Finite) c))

  -- ---- elements of the finite presentation stand for their function

  horner_at : (c m : ℕ) (vs : List (List ℕ)) → length vs ≡ m
      → horner (equation_of k p) m (row_of_list k m vs)
      ≡ row_value_at k p (variable k p Finite) (generator k p c Finite) vs
  unfolding horner
  horner_at c zero [] e = refl
  horner_at c zero (v ∷ vs) e = absurd (omega arith)
  horner_at c (suc m) [] e = absurd (omega arith)
  horner_at c (suc m) (v ∷ vs) e =
      ap₂ (λ s r. s ⊕ generator k p c Finite ⊗ r) (sym (value_at_x k p v)) (horner_at c m vs (omega arith))

  pub on_finite_side : (c : ℕ) (z : ElemValue) → 1 ≤ p.n → IsElem k.ops p.n z → IsMonicElem z
      → function_on k p c Finite z ≡ function_of k p z
  on_finite_side c z some z_in z_monic =
      sym (stands_once k p c Finite z (function_of k p z) z_in.den_over z_monic.den_poly
      (monic_some z.den z_monic.monic)
      (ap (λ s. s ⊗ function_of k p z)
      (value_at_x k p z.den ∙ ap (of_poly (equation_of k p))
      (sym (row_over_den k p z (elem_den k p z p.n z_in z_monic))))
      ∙ den_times_function (equation_of k p) (row_over k p z)
      ∙ ap (horner (equation_of k p) (suc (p.n - 1))) (row_over_num k p z)
      ∙ horner_at c (suc (p.n - 1)) z.num (let e : length z.num ≡ p.n = z_in.one_each in omega arith)))

  -- z turned is g, which w is when its denominator is made monic
  module _ (c m : ℕ) (z g w : ElemValue) (z_in : IsElem k.ops (length z.num) z) (z_monic : IsMonicElem z)
      (w_in : IsElem k.ops (length g.num) w) (w_monic : IsMonicElem w)
      (turned : AreTurned c m z.num g.num) (den : g.den ≡ reversed_of z.den m) (fits : length z.den ≤ m)
      (num_is : w.num ≡ map (λ v. multiple_of k.ops v (k.inv (top_of g.den))) g.num)
      (den_is : w.den ≡ multiple_of k.ops g.den (k.inv (top_of g.den))) where
    num_in : All (IsOver k.ops) g.num
    num_in = over_turned k c m z.num g.num turned z_in.num_over

    den_in : IsOver k.ops g.den
    den_in = rw den (over_reversed k z.den m z_in.den_over)

    u_in : k.inv (top_of g.den) < k.size
    u_in =
        k.laws.inv_below (top_of g.den) (get_or_below k g.den (length g.den - 1) den_in)
        (trimmed_top g.den (rw den (IsTrimmed_trim is_zero_code
        (replicate (m - length z.den) 0 ++ poly_of (reverse z.den))))
        (λ e. reversed_not_zero z.den m z_monic.monic (sym den ∙ e)))

    pub turned_to_infinite : 1 ≤ p.n → p.n ≡ length z.num → function_on k p c Infinite w ≡ function_of k p z
    turned_to_infinite some size =
        sym (stands_once k p c Infinite w (function_on k p c Finite z) w_in.den_over w_monic.den_poly
        (monic_some w.den w_monic.monic)
        (multiple_stands (variable k p Infinite) (generator k p c Infinite) (k.inv (top_of g.den)) g w
        (function_on k p c Finite z) u_in num_in den_in num_is den_is
        (stands (variable k p Finite) (variable k p Infinite) x_times_t c (generator k p c Finite)
        (generator k p c Infinite) (y_is c) m z g
        (function_on k p c Finite z) turned den fits
        (function_on_stands k p c Finite z z_in.den_over z_monic.den_poly (monic_some z.den z_monic.monic)))))
        ∙ on_finite_side c z some (subst (λ n. IsElem k.ops n z) (sym size) z_in) z_monic

    pub turned_to_finite : 1 ≤ p.n → p.n ≡ length z.num → function_of k p w ≡ function_on k p c Infinite z
    turned_to_finite some size =
        sym (on_finite_side c w some (subst (λ n. IsElem k.ops n w) (turned.same_length ∙ sym size) w_in) w_monic)
        ∙ sym (stands_once k p c Finite w (function_on k p c Infinite z) w_in.den_over w_monic.den_poly
        (monic_some w.den w_monic.monic)
        (multiple_stands (variable k p Finite) (generator k p c Finite) (k.inv (top_of g.den)) g w
        (function_on k p c Infinite z) u_in num_in den_in num_is den_is
        (stands (variable k p Infinite) (variable k p Finite) t_times_x c (generator k p c Infinite)
        (generator k p c Finite) refl m z g
        (function_on k p c Infinite z) turned den fits
        (function_on_stands k p c Infinite z z_in.den_over z_monic.den_poly (monic_some z.den z_monic.monic)))))
