-- The map from the functions of the infinite presentation to those of the finite one: t goes to 1/x and Y to y/x^c.
use Rattle.std.proofs.Common.{◌≡◌, ℕ, zero, suc, ◌+◌, ◌-◌, ◌*◌, ◌≤◌, ◌<◌, List, [], ◌∷◌, length, get_or, refl, sym, ◌∙◌, ap, ap₂, subst, arith}
use Rattle.std.proofs.Math.Nat.{mul-suc}
use Rattle.ring_lemmas.specs.Ring.{pow}
use Rattle.ring_lemmas.specs.Rows.{Row, row_zero, times_y, row_one}
use Rattle.ring_lemmas.proofs.Ring.{one_mul, mul_zero, pow_add, pow_mul, mul_pow}
use Rattle.ring_lemmas.proofs.Rows.{pair_path}
use Rattle.ring_theory.specs.Maps.{IsHom}
use Rattle.ring_theory.proofs.RowMaps.{eval, eval_none, eval_cons, eval_times_y, pair_value, pair_value_is, pair_value_same, pair_add_value, pair_mul_value}
use Rattle.ring_lemmas.proofs.Solver.{ring, reads, from_one}
use Rattle.ff_fields.specs.Field.{CodeField}
use Rattle.ff_poly.specs.Value.{value, numbers_value}
use Rattle.ff_poly.specs.Words.{IsPoly}
use Rattle.ff_poly.specs.Polynomials.{Polynomial, polynomials, polynomials_domain, codes_of, value_codes_of, value_nil, value_not_zero, IsOver_codes_of, IsPoly_codes_of}
use Rattle.function_field.specs.declared.side.Side.TheVariants.{Finite, Infinite}
use Rattle.function_field.specs.Functions.{RowOver, AreSame, function, row_of, of_poly, over, y_of, add_rows, mul_rows, add_function, mul_function, from_rows, from_rows_value}
use Rattle.function_field.specs.Values.{PresValue, ElemValue, IsElem, Functions, functions, equation_of, row_of_list, row_over, function_of}
use Rattle.function_field.specs.Infinity.{row_value_at, variable, generator, inverse_at, function_on, IsInfinitePresentation}
use Rattle.function_field.proofs.OnSide.{value_at_x, times_inverse}
use Rattle.function_field.proofs.ScalarRings.{of_poly_one}
use Rattle.function_field.proofs.SameValues.{row_over_num, row_over_den}
use Rattle.function_field.proofs.Stages.{row_of_function}
use Rattle.places_theory.proofs.YRoot.{eval_constant, poly_hom, at_y, y_root}
use Rattle.places_theory.proofs.AtInfinity.{at, at_hom, at_codes, value_at_is}

rest : List (List ℕ) → List (List ℕ)
rest [] = []
rest (v ∷ vs) = vs

rest_get : (vs : List (List ℕ)) (i : ℕ) → get_or (rest vs) i [] ≡ get_or vs (suc i) []
unfolding rest
rest_get [] i = refl
rest_get (v ∷ vs) i = refl

row_head : (k : CodeField) (m : ℕ) (vs : List (List ℕ))
    → row_of_list k (suc m) vs ≡ (value k (get_or vs 0 []), row_of_list k m (rest vs))
unfolding rest
row_head k m [] = pair_path (sym (value_nil k)) refl
row_head k m (v ∷ vs) = refl

module _ (k : CodeField) (p q : PresValue) (c : ℕ) where
  infixl 65 ◌⊕◌
  infixl 70 ◌⊗◌
  infixr 80 ⊖◌
  open functions k p use {𝟘, 𝟙, ◌⊕◌, ◌⊗◌, ⊖◌}

  abbrev pub x : Functions k p
  x = variable k p Finite

  abbrev pub t : Functions k p
  t = variable k p Infinite

  abbrev pub y : Functions k p
  y = y_of (equation_of k p)

  -- Y
  abbrev pub η : Functions k p
  η = generator k p c Infinite

  -- a(1/x), and the sum of v_i(1/x)·Y^i
  abbrev pub φ : Polynomial k → Functions k p
  φ a = at k p (variable k p Infinite) a

  abbrev pub at_Y : (m : ℕ) → Row (Polynomial k) m → Functions k p
  at_Y m v = eval (polynomials k).ring (functions k p) (at k p (variable k p Infinite))
      (at_hom k p (variable k p Infinite)) (generator k p c Infinite) m v

  at_Y_constant : (m : ℕ) (a : Polynomial k) → at_Y (suc m) (a, row_zero (polynomials k).ops m) ≡ φ a
  at_Y_constant m a = eval_constant (polynomials k).ring (functions k p) (at k p t) (at_hom k p t) η m a

  -- where the coefficient of Y^i is that of y^i times t^(c·(N - i)), the sums differ by a power of t
  scaled : (N m j : ℕ) → j + m ≡ N → (ps qs : List (List ℕ))
      → ((i : ℕ) → i < m → φ (value k (get_or qs i []))
      ≡ of_poly (equation_of k p) (value k (get_or ps i [])) ⊗ pow (functions k p).ops t (c * (N - (j + i))))
      → at_Y m (row_of_list k m qs) ≡ pow (functions k p).ops t (c * (N - j)) ⊗ at_y (equation_of k p) m
      (row_of_list k m ps)
  scaled N zero j e ps qs h =
      eval_none (polynomials k).ring (functions k p) (at k p t) (at_hom k p t) η tt
      ∙ sym (ap (λ s. pow (functions k p).ops t (c * (N - j)) ⊗ s)
      (eval_none (polynomials k).ring (functions k p) (of_poly (equation_of k p)) (poly_hom (equation_of k p)) y tt)
      ∙ mul_zero (functions k p) (pow (functions k p).ops t (c * (N - j))))
  scaled N (suc m) j e ps qs h =
      ap (at_Y (suc m)) (row_head k m qs)
      ∙ eval_cons (polynomials k).ring (functions k p) (at k p t) (at_hom k p t) η m (value k (get_or qs 0 []))
      (row_of_list k m (rest qs))
      ∙ ap₂ (λ s r. s ⊕ η ⊗ r) (h 0 (omega arith)
      ∙ ap (λ n. of_poly (equation_of k p) (value k (get_or ps 0 [])) ⊗ pow (functions k p).ops t (c * n))
      (let f : N - (j + 0) ≡ N - j = omega arith in f))
      (scaled N m (suc j) (omega arith) (rest ps) (rest qs) (λ i l.
      ap (λ v. φ (value k v)) (rest_get qs i) ∙ h (suc i) (omega arith)
      ∙ ap₂ (λ v n. of_poly (equation_of k p) (value k v) ⊗ pow (functions k p).ops t (c * n)) (sym (rest_get ps i))
      (let f : N - (j + suc i) ≡ N - (suc j + i) = omega arith in f)))
      ∙ step (of_poly (equation_of k p) (value k (get_or ps 0 []))) (pow (functions k p).ops t c)
      (pow (functions k p).ops t (c * (N - suc j)))
      (pow (functions k p).ops t (c * (N - j))) (at_y (equation_of k p) m (row_of_list k m (rest ps))) powers
      ∙ ap (λ s. pow (functions k p).ops t (c * (N - j)) ⊗ s)
      (sym (eval_cons (polynomials k).ring (functions k p) (of_poly (equation_of k p)) (poly_hom (equation_of k p)) y m
      (value k (get_or ps 0 [])) (row_of_list k m (rest ps)))
      ∙ ap (at_y (equation_of k p) (suc m)) (sym (row_head k m ps)))
    where
      powers : pow (functions k p).ops t c ⊗ pow (functions k p).ops t (c * (N - suc j))
          ≡ pow (functions k p).ops t (c * (N - j))
      powers =
          sym (pow_add (functions k p) t c (c * (N - suc j)))
          ∙ ap (pow (functions k p).ops t)
          (next (N - suc j) ∙ ap (λ n. c * n) (let f : suc (N - suc j) ≡ N - j = omega arith in f))
        where
          next : (n : ℕ) → c + c * n ≡ c * suc n
          next n = sym (rw (mul-suc c n) (omega arith))

      step : (a T Q W A : Functions k p) → T ⊗ Q ≡ W → a ⊗ W ⊕ y ⊗ T ⊗ (Q ⊗ A) ≡ W ⊗ (a ⊕ y ⊗ A)
      step a T Q W A f =
          from_one (functions k p) (y ⊗ A) f
          (ring (functions k p) (a ∷ T ∷ Q ∷ W ∷ A ∷ y ∷ []) λ q h. simp (reads, q, h 0, h 1, h 2, h 3, h 4, h 5)
          (q.equal _ _ refl))

  module _ (h : IsInfinitePresentation k p c q) (some : 1 ≤ p.n) where
    y_root_at : (m : ℕ) → suc (p.n - 1) ≡ m
        → pow (functions k p).ops y m ⊕ at_y (equation_of k p) m (row_of_list k m p.coeffs) ≡ 𝟘
    y_root_at m e =
        subst (λ m. pow (functions k p).ops y m ⊕ at_y (equation_of k p) m (row_of_list k m p.coeffs) ≡ 𝟘) e
        (y_root (equation_of k p))

    -- Y is a root of the polynomial of the infinite presentation
    root_at : (m : ℕ) → m ≡ p.n → pow (functions k p).ops η m ⊕ at_Y m (row_of_list k m q.coeffs) ≡ 𝟘
    root_at m e =
        ap₂ (λ s r. s ⊕ r) (mul_pow (functions k p) y (pow (functions k p).ops t c) m
        ∙ ap (λ s. pow (functions k p).ops y m ⊗ s) (sym (pow_mul (functions k p) t c m)))
        (scaled m m 0 (omega arith) p.coeffs q.coeffs (λ i l.
        sym (value_at_is k p t (get_or q.coeffs i []))
        ∙ h.coefficients i (omega arith)
        ∙ ap₂ (λ s n. s ⊗ pow (functions k p).ops t (c * n)) (value_at_x k p (get_or p.coeffs i []))
        (let f : p.n - i ≡ m - (0 + i) = omega arith in f))
        ∙ ap (λ n. pow (functions k p).ops t (c * n) ⊗ at_y (equation_of k p) m (row_of_list k m p.coeffs))
        (let f : m - 0 ≡ m = omega arith in f))
        ∙ collect (pow (functions k p).ops y m) (pow (functions k p).ops t (c * m))
        (at_y (equation_of k p) m (row_of_list k m p.coeffs))
        (y_root_at m (omega arith))
      where
        collect : (Y T A : Functions k p) → Y ⊕ A ≡ 𝟘 → Y ⊗ T ⊕ T ⊗ A ≡ 𝟘
        collect Y T A f = from_one (functions k p) T f
            (ring (functions k p) (Y ∷ T ∷ A ∷ []) λ q h. simp (reads, q, h 0, h 1, h 2) (q.equal _ _ refl))

    pub root : pow (functions k p).ops η (suc (q.n - 1)) ⊕ at_Y (suc (q.n - 1)) (equation_of k q).coefficients ≡ 𝟘
    root = root_at (suc (q.n - 1)) (let e : q.n ≡ p.n = h.degree in omega arith)

    -- 1/d(1/x)
    abbrev pub unit : (d : Polynomial k) → ¬ (d ≡ (polynomials k).𝟘) → Functions k p
    unit d n = inverse_at k p Infinite (codes_of k d)

    pub unit_law : (d : Polynomial k) (n : ¬ (d ≡ (polynomials k).𝟘)) → φ d ⊗ unit d n ≡ 𝟙
    unit_law d n =
        ap (λ s. s ⊗ inverse_at k p Infinite (codes_of k d)) (at_codes k p t d)
        ∙ times_inverse k p Infinite (codes_of k d) (IsOver_codes_of k d) (IsPoly_codes_of k d)
        (λ e. n (sym (value_codes_of k d) ∙ ap (value k) e ∙ value_nil k))

    abbrev pub row_value : RowOver (equation_of k q) → Functions k p
    row_value z =
        pair_value (polynomials k).ring (functions k p) (at k p t) (at_hom k p t) η (q.n - 1)
        (equation_of k q).coefficients root
        (polynomials_domain k) unit unit_law z

    abbrev same_value : (z w : RowOver (equation_of k q)) → AreSame (equation_of k q) z w → row_value z ≡ row_value w
    same_value z w e =
        pair_value_same (polynomials k).ring (functions k p) (at k p t) (at_hom k p t) η (q.n - 1)
        (equation_of k q).coefficients root
        (polynomials_domain k) unit unit_law z w e

    pub presentation_map : Functions k q → Functions k p
    presentation_map = from_rows (equation_of k q) (functions k p).is_set row_value same_value

    -- v/d goes to the sum of v_i(1/x)·Y^i, divided by d(1/x)
    pub map_row : (z : RowOver (equation_of k q))
        → presentation_map (function (equation_of k q) z) ≡ unit z.den z.den_not_zero ⊗ at_Y (suc (q.n - 1)) z.num
    unfolding presentation_map
    map_row z =
        from_rows_value (equation_of k q) (functions k p).is_set row_value same_value z
        ∙ pair_value_is (polynomials k).ring (functions k p) (at k p t) (at_hom k p t) η (q.n - 1)
        (equation_of k q).coefficients root
        (polynomials_domain k) unit unit_law z

    row_value_is : (z : RowOver (equation_of k q)) → presentation_map (function (equation_of k q) z) ≡ row_value z
    unfolding presentation_map
    row_value_is z = from_rows_value (equation_of k q) (functions k p).is_set row_value same_value z

    unit_one : unit (polynomials k).𝟙 (polynomials_domain k).one_not_zero ≡ 𝟙
    unit_one =
        sym (one_mul (functions k p) (unit (polynomials k).𝟙 (polynomials_domain k).one_not_zero))
        ∙ ap (λ s. s ⊗ unit (polynomials k).𝟙 (polynomials_domain k).one_not_zero) (sym (at_hom k p t).𝟙)
        ∙ unit_law (polynomials k).𝟙 (polynomials_domain k).one_not_zero

    pub map_whole : (v : Row (Polynomial k) (suc (q.n - 1)))
        → presentation_map (over (equation_of k q) v (polynomials k).𝟙 (polynomials_domain k).one_not_zero)
        ≡ at_Y (suc (q.n - 1)) v
    map_whole v =
        map_row (record { num = v; den = (polynomials k).𝟙; den_not_zero = (polynomials_domain k).one_not_zero })
        ∙ ap (λ s. s ⊗ at_Y (suc (q.n - 1)) v) unit_one ∙ one_mul (functions k p) (at_Y (suc (q.n - 1)) v)

    pub map_poly : (a : Polynomial k) → presentation_map (of_poly (equation_of k q) a) ≡ φ a
    map_poly a = map_whole (row_of (equation_of k q) a) ∙ at_Y_constant (q.n - 1) a

    pub map_unit : (d : Polynomial k) (n : ¬ (d ≡ (polynomials k).𝟘))
        → presentation_map (over (equation_of k q) (row_of (equation_of k q) (polynomials k).𝟙) d n) ≡ unit d n
    map_unit d n =
        map_row (record { num = row_of (equation_of k q) (polynomials k).𝟙; den = d; den_not_zero = n })
        ∙ ap (λ s. unit d n ⊗ s) (at_Y_constant (q.n - 1) (polynomials k).𝟙 ∙ (at_hom k p t).𝟙)
        ∙ (functions k p).mul_one (unit d n)

    pub map_y : presentation_map (y_of (equation_of k q)) ≡ η
    unfolding row_one
    map_y =
        map_whole (times_y (polynomials k).ops (suc (q.n - 1)) (equation_of k q).coefficients
        (row_one (polynomials k).ring (q.n - 1)))
        ∙ eval_times_y (polynomials k).ring (functions k p) (at k p t) (at_hom k p t) η (q.n - 1)
        (equation_of k q).coefficients root
        (row_one (polynomials k).ring (q.n - 1))
        ∙ ap (λ s. η ⊗ s) (at_Y_constant (q.n - 1) (polynomials k).𝟙 ∙ (at_hom k p t).𝟙) ∙ (functions k p).mul_one η

    -- it is a homomorphism
    pub presentation_hom : IsHom (functions k q) (functions k p) presentation_map
    presentation_hom = record {
      add = λ z w. sums (row_of_function (equation_of k q) z) (row_of_function (equation_of k q) w);
      mul = λ z w. products (row_of_function (equation_of k q) z) (row_of_function (equation_of k q) w);
      𝟙 = ap presentation_map (of_poly_one (equation_of k q)) ∙ map_poly (polynomials k).𝟙 ∙ (at_hom k p t).𝟙;
    }
      where
        sums : {z w : Functions k q} → (a : RowOver (equation_of k q)) × (function (equation_of k q) a ≡ z)
            → (b : RowOver (equation_of k q)) × (function (equation_of k q) b ≡ w)
            → presentation_map ((functions k q).◌⊕◌ z w) ≡ presentation_map z ⊕ presentation_map w
        sums (a, e) (b, f) =
            ap presentation_map (ap₂ (functions k q).◌⊕◌ (sym e) (sym f) ∙ add_function (equation_of k q) a b)
            ∙ row_value_is (add_rows (equation_of k q) a b)
            ∙ pair_add_value (polynomials k).ring (functions k p) (at k p t) (at_hom k p t) η (q.n - 1)
            (equation_of k q).coefficients root
            (polynomials_domain k) unit unit_law a b
            ∙ ap₂ (λ s r. s ⊕ r) (sym (row_value_is a) ∙ ap presentation_map e)
            (sym (row_value_is b) ∙ ap presentation_map f)

        products : {z w : Functions k q} → (a : RowOver (equation_of k q)) × (function (equation_of k q) a ≡ z)
            → (b : RowOver (equation_of k q)) × (function (equation_of k q) b ≡ w)
            → presentation_map ((functions k q).◌⊗◌ z w) ≡ presentation_map z ⊗ presentation_map w
        products (a, e) (b, f) =
            ap presentation_map (ap₂ (functions k q).◌⊗◌ (sym e) (sym f) ∙ mul_function (equation_of k q) a b)
            ∙ row_value_is (mul_rows (equation_of k q) a b)
            ∙ pair_mul_value (polynomials k).ring (functions k p) (at k p t) (at_hom k p t) η (q.n - 1)
            (equation_of k q).coefficients root
            (polynomials_domain k) unit unit_law a b
            ∙ ap₂ (λ s r. s ⊗ r) (sym (row_value_is a) ∙ ap presentation_map e)
            (sym (row_value_is b) ∙ ap presentation_map f)

    -- on elements of the infinite presentation it is what they stand for
    at_Y_list : (m : ℕ) (vs : List (List ℕ)) → length vs ≡ m → at_Y m (row_of_list k m vs) ≡ row_value_at k p t η vs
    at_Y_list zero [] e = eval_none (polynomials k).ring (functions k p) (at k p t) (at_hom k p t) η tt
    at_Y_list zero (v ∷ vs) e = absurd (omega arith)
    at_Y_list (suc m) [] e = absurd (omega arith)
    at_Y_list (suc m) (v ∷ vs) e =
        eval_cons (polynomials k).ring (functions k p) (at k p t) (at_hom k p t) η m (value k v) (row_of_list k m vs)
        ∙ ap₂ (λ s r. s ⊕ η ⊗ r) (sym (value_at_is k p t v)) (at_Y_list m vs (omega arith))

    pub map_element : (z : ElemValue) → IsElem k.ops q.n z → IsPoly z.den → ¬ (z.den ≡ [])
        → presentation_map (function_of k q z) ≡ function_on k p c Infinite z
    map_element z g poly not_zero =
        map_row (row_over k q z)
        ∙ ap₂ (λ d v. inverse_at k p Infinite d ⊗ at_Y (suc (q.n - 1)) v)
        (ap (codes_of k) (row_over_den k q z (value_not_zero k z.den g.den_over poly not_zero))
        ∙ numbers_value k z.den g.den_over poly)
        (row_over_num k q z)
        ∙ ap (λ s. inverse_at k p Infinite z.den ⊗ s)
        (at_Y_list (suc (q.n - 1)) z.num
        (let e : length z.num ≡ q.n = g.one_each in let f : q.n ≡ p.n = h.degree in omega arith))
