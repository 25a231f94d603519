-- The measure of a row: what a sum and a multiple have.
use Rattle.std.proofs.Common.{◌≡◌, ◌≢◌, ℕ, zero, suc, ◌<◌, ◌≤◌, ◌+◌, ◌*◌, ◌-◌, ◌/◌, ◌%◌, ◌⊎◌, inl, inr, Bool, true, false, cond, [], ◌∷◌, length, refl, sym, ◌∙◌, ap, ap₂, arith, subst, true≢false, eq-or-lt_of_le, add-mul}
use Rattle.std.proofs.lemmas.Nat.{div-mul-add, mul-le}
use Rattle.std.proofs.lemmas.Bool.{cases_lt}
use Rattle.ring_lemmas.specs.Ring.{TestedRing, IsDomain}
use Rattle.ring_lemmas.specs.Lists.{coeff_of, convolution}
use Rattle.ring_lemmas.proofs.Ring.{product_not_zero}
use Rattle.ring_lemmas.proofs.Sequences.{convolution_past, convolution_top, convolution_null_left, convolution_comm}
use Rattle.ring_lemmas.specs.Polynomials.{Pol}
use Rattle.ring_lemmas.proofs.Polynomials.{coeff_past, coeff_top}
use Rattle.popov_theory.specs.Module.{PolynomialModule, top_position, measure, pivot, row_degree, column}
use Rattle.popov_theory.proofs.Module.{split, column_below}
use Rattle.popov_theory.proofs.Positions.{row_le, degree_less, degree_rises, column_at}

-- the last position of a sequence
module _ {A : Type 0} (k : TestedRing A) where
  is_zero_cases : (a : A) → (a ≡ k.𝟘) ⊎ (a ≢ k.𝟘)
  is_zero_cases a = go (k.is_zero a) refl
    where
      go : (b : Bool) → k.is_zero a ≡ b → (a ≡ k.𝟘) ⊎ (a ≢ k.𝟘)
      go true e = inl (k.zero_from a e)
      go false e = inr (λ z. true≢false (sym k.zero_is_zero ∙ ap k.is_zero (sym z) ∙ e))

  pub zero_or_not : (a : A) → (a ≡ k.𝟘) ⊎ (a ≢ k.𝟘)
  zero_or_not a = is_zero_cases a

  pub top_past : (f : ℕ → A) (n e : ℕ) → top_position k.is_zero f n ≤ e → e < n → f e ≡ k.𝟘
  top_past f zero e le less = absurd (omega arith)
  top_past f (suc n) e le less = go (k.is_zero (f n)) refl le (eq-or-lt_of_le (omega arith)) (top_past f n e)
    where
      go : (b : Bool) → k.is_zero (f n) ≡ b → cond b (top_position k.is_zero f n) (suc n) ≤ e → (e ≡ n) ⊎ (e < n)
          → (top_position k.is_zero f n ≤ e → e < n → f e ≡ k.𝟘) → f e ≡ k.𝟘
      go true is_null le (inl here) earlier = ap f here ∙ k.zero_from (f n) is_null
      go true is_null le (inr lower) earlier = earlier le lower
      go false some le at earlier = absurd (omega arith)

  pub top_some : (f : ℕ → A) (n e : ℕ) → top_position k.is_zero f n ≡ suc e → f e ≢ k.𝟘
  top_some f zero e is = absurd (omega arith)
  top_some f (suc n) e is = go (k.is_zero (f n)) refl is (top_some f n e)
    where
      go : (b : Bool) → k.is_zero (f n) ≡ b → cond b (top_position k.is_zero f n) (suc n) ≡ suc e
          → (top_position k.is_zero f n ≡ suc e → f e ≢ k.𝟘) → f e ≢ k.𝟘
      go true is_null is earlier = earlier is
      go false some is earlier = λ z. true≢false
          (sym k.zero_is_zero ∙ ap k.is_zero (sym z) ∙ ap (λ i. k.is_zero (f i)) (omega arith) ∙ some)

module _ {A V : Type 0} {k : TestedRing A} (M : PolynomialModule k V) where
  infixl 65 ◌⊞◌
  infixl 70 ◌·◌
  infixr 80 ⊟◌
  infixl 65 ◌⊕◌
  infixl 70 ◌⊗◌
  infixr 80 ⊖◌
  open M use {width, 𝟎, ◌⊞◌, ⊟◌, ◌·◌, coef}
  open k use {𝟘, 𝟙, ◌⊕◌, ◌⊗◌, ⊖◌}

  pub measure_past : (v : V) (e : ℕ) → measure M v ≤ e → coef v e ≡ 𝟘
  measure_past v e le = go (cases_lt e (M.bound v))
    where
      go : (e < M.bound v) ⊎ (M.bound v ≤ e) → coef v e ≡ 𝟘
      go (inl less) = top_past k (coef v) (M.bound v) e le less
      go (inr past) = M.coef_past v e past

  pub measure_top : (v : V) (e : ℕ) → measure M v ≡ suc e → coef v e ≢ 𝟘
  measure_top v e is = top_some k (coef v) (M.bound v) e is

  -- a row that ends at n has a measure of n at most
  pub measure_bound : (v : V) (n : ℕ) → ((e : ℕ) → n ≤ e → coef v e ≡ 𝟘) → measure M v ≤ n
  measure_bound v n ends = go (measure M v) refl
    where
      go : (m : ℕ) → measure M v ≡ m → measure M v ≤ n
      go zero e = omega (arith, e)
      go (suc m) e = at (cases_lt m n)
        where
          at : (m < n) ⊎ (n ≤ m) → measure M v ≤ n
          at (inl less) = omega (arith, e)
          at (inr past) = absurd (measure_top v m e (ends m past))

  -- and the position of its last coefficient is known
  pub measure_above : (v : V) (e : ℕ) → coef v e ≢ 𝟘 → e < measure M v
  measure_above v e some = go (cases_lt e (measure M v))
    where
      go : (e < measure M v) ⊎ (measure M v ≤ e) → e < measure M v
      go (inl less) = less
      go (inr past) = absurd (some (measure_past v e past))

  pub measure_is : (v : V) (e : ℕ) → coef v e ≢ 𝟘 → ((i : ℕ) → e < i → coef v i ≡ 𝟘) → measure M v ≡ suc e
  measure_is v e some ends = omega (arith, measure_above v e some, measure_bound v (suc e) ends)

  -- the zero row alone has the measure 0
  pub measure_zero : measure M 𝟎 ≡ 0
  measure_zero = omega (arith, measure_bound 𝟎 0 (λ e le. M.coef_zero e))

  pub zero_from_measure : (v : V) → measure M v ≡ 0 → v ≡ 𝟎
  zero_from_measure v e = M.same v 𝟎 (λ i. measure_past v i (omega (arith, e)) ∙ sym (M.coef_zero i))

  pub zero_row : (v : V) → v ≡ 𝟎 → measure M v ≡ 0
  zero_row v e = ap (measure M) e ∙ measure_zero

  -- sums
  pub measure_add_le : (u v : V) (n : ℕ) → measure M u ≤ n → measure M v ≤ n → measure M (u ⊞ v) ≤ n
  measure_add_le u v n u_le v_le =
      measure_bound (u ⊞ v) n (λ e le.
      M.coef_add u v e ∙ ap₂ ◌⊕◌ (measure_past u e (omega arith)) (measure_past v e (omega arith)) ∙ k.add_zero _)

  -- the larger measure is that of the sum
  pub measure_add_left : (u v : V) → measure M v < measure M u → measure M (u ⊞ v) ≡ measure M u
  measure_add_left u v less = go (measure M u) refl
    where
      go : (m : ℕ) → measure M u ≡ m → measure M (u ⊞ v) ≡ measure M u
      go zero e = absurd (omega (arith, e, less))
      go (suc m) e =
          measure_is (u ⊞ v) m
          (λ z. measure_top u m e
          (sym (M.coef_add u v m ∙ ap (λ x. coef u m ⊕ x) (measure_past v m (omega (arith, e, less))) ∙ k.add_zero _)
          ∙ z))
          (λ i after. M.coef_add u v i
          ∙ ap₂ ◌⊕◌ (measure_past u i (omega (arith, e, less))) (measure_past v i (omega (arith, e, less)))
          ∙ k.add_zero _)
          ∙ sym e

  pub measure_add_right : (u v : V) → measure M u < measure M v → measure M (u ⊞ v) ≡ measure M v
  measure_add_right u v less =
      ap (measure M) (M.same (u ⊞ v) (v ⊞ u) (λ e. M.coef_add u v e ∙ k.add_comm _ _ ∙ sym (M.coef_add v u e)))
      ∙ measure_add_left v u less

  -- the row minus another whose measure is the same, with the same last coefficient, has a smaller one
  pub measure_falls : (u v : V) (e : ℕ) → measure M u ≤ suc e → measure M v ≤ suc e → coef u e ≡ coef v e
      → measure M (u ⊞ ⊟ v) ≤ e
  measure_falls u v e u_le v_le tops = measure_bound (u ⊞ ⊟ v) e
      (λ i le. M.coef_add u (⊟ v) i ∙ ap (λ x. coef u i ⊕ x) (M.coef_neg v i) ∙ go i (eq-or-lt_of_le le))
    where
      go : (i : ℕ) → (e ≡ i) ⊎ (e < i) → coef u i ⊕ ⊖ coef v i ≡ 𝟘
      go i (inl here) = subst (λ j. coef u j ⊕ ⊖ coef v j ≡ 𝟘) here (ap (λ x. x ⊕ ⊖ coef v e) tops ∙ k.add_neg _)
      go i (inr past) = ap₂ (λ x y. x ⊕ ⊖ y) (measure_past u i (omega arith)) (measure_past v i (omega arith))
          ∙ k.add_neg _

  -- multiples: the last coefficient of c·v
  module _ (c : Pol k) (v : V) (m n : ℕ) (c_ends : (i : ℕ) → m < i → coeff_of k.ops c.0 i ≡ 𝟘)
      (v_ends : (i : ℕ) → n < i → coef v i ≡ 𝟘) where
    pub scale_top : coef (c · v) (m * width + n) ≡ coeff_of k.ops c.0 m ⊗ coef v n
    scale_top =
        ap (coef (c · v)) (omega (arith, split M n, add-mul m (n / width) width))
        ∙ M.coef_scale c v (m + n / width) (n % width) (column_below M n)
        ∙ convolution_top k.ring m (n / width) (coeff_of k.ops c.0) (λ t. coef v (t * width + n % width)) c_ends
        (λ t after. v_ends (t * width + n % width)
        (omega (arith, split M n, row_le width M.positive (n / width) t after, M.positive)))
        ∙ ap (λ i. coeff_of k.ops c.0 m ⊗ coef v i) (split M n)

    past_at : (s i : ℕ) → i < width → m * width + n < s * width + i → coef (c · v) (s * width + i) ≡ 𝟘
    past_at s i i_below past = M.coef_scale c v s i i_below ∙ go (cases_lt (n % width) i) (n / width) refl
      where
        g : ℕ → A
        g t = coef v (t * width + i)

        moved : (m + n / width) * width + n % width < s * width + i
        moved = omega (arith, split M n, add-mul m (n / width) width, past)

        go : (n % width < i) ⊎ (i ≤ n % width) → (d : ℕ) → n / width ≡ d
            → convolution k.ops (coeff_of k.ops c.0) g s ≡ 𝟘
        go (inr left) d is =
            convolution_past k.ring m (n / width) (coeff_of k.ops c.0) g c_ends
            (λ t after. v_ends (t * width + i)
            (omega (arith, split M n, column_below M n, row_le width M.positive (n / width) t after)))
            s (degree_rises width M.positive (m + n / width) s i (n % width) left moved)
        go (inl right) zero is =
            convolution_comm k.ring (coeff_of k.ops c.0) g s
            ∙ convolution_null_left k.ring g (coeff_of k.ops c.0)
            (λ t. v_ends (t * width + i) (omega (arith, split M n, ap (λ d. d * width) is))) s
        go (inl right) (suc d) is =
            convolution_past k.ring m d (coeff_of k.ops c.0) g c_ends
            (λ t after. v_ends (t * width + i)
            (omega (
              arith,
              split M n,
              mul-le (n / width) width t width (omega (arith, is, after)) (omega arith),
              right,
            )))
            s (omega (arith, is, degree_less width M.positive (m + n / width) s i (n % width) i_below moved))

    pub scale_past : (e : ℕ) → m * width + n < e → coef (c · v) e ≡ 𝟘
    scale_past e past =
        subst (λ i. coef (c · v) i ≡ 𝟘) (split M e)
        (past_at (e / width) (e % width) (column_below M e) (omega (arith, split M e, past)))

  -- the measure of a multiple over a domain
  pub measure_scale : IsDomain k.ops → (c : Pol k) (v : V) (m : ℕ) → length c.0 ≡ suc m → measure M v ≢ 0
      → measure M (c · v) ≡ m * width + measure M v
  measure_scale domain ([], t) v m size some = absurd (omega (arith, size))
  measure_scale domain ((x ∷ xs), t) v m size some = go (measure M v) refl
    where
      xs_size : length xs ≡ m
      xs_size = omega (arith, size)

      go : (n : ℕ) → measure M v ≡ n → measure M (((x ∷ xs), t) · v) ≡ m * width + measure M v
      go zero e = absurd (some e)
      go (suc n) e =
          measure_is (((x ∷ xs), t) · v) (m * width + n)
          (λ z. product_not_zero domain _ _
          (subst (λ i. coeff_of k.ops (x ∷ xs) i ≢ 𝟘) xs_size (coeff_top k x xs t)) (measure_top v n e)
          (sym (scale_top ((x ∷ xs), t) v m n c_ends v_ends) ∙ z))
          (scale_past ((x ∷ xs), t) v m n c_ends v_ends)
          ∙ omega (arith, e)
        where
          c_ends : (i : ℕ) → m < i → coeff_of k.ops (x ∷ xs) i ≡ 𝟘
          c_ends i after = coeff_past k (x ∷ xs) i (omega (arith, size, after))

          v_ends : (i : ℕ) → n < i → coef v i ≡ 𝟘
          v_ends i after = measure_past v i (omega (arith, e, after))

  -- the measure as degree and pivot: it is row_degree·width + pivot + 1
  pub measure_parts : (v : V) → measure M v ≢ 0 → measure M v ≡ suc (row_degree M v * width + pivot M v)
  measure_parts v some = omega (arith, split M (measure M v - 1), some)

  -- a row whose entry in column j has the degree d, with no higher entry, and none of degree d further to the right
  pub pivot_is : (v : V) (d j : ℕ) → j < width → coef v (d * width + j) ≢ 𝟘
      → ((s i : ℕ) → i < width → d < s → coef v (s * width + i) ≡ 𝟘)
      → ((i : ℕ) → j < i → i < width → coef v (d * width + i) ≡ 𝟘)
      → (measure M v ≡ suc (d * width + j)) × (row_degree M v ≡ d) × (pivot M v ≡ j)
  pivot_is v d j less some higher right = (
    is,
    (ap (λ n. (n - 1) / width) is ∙ ap (λ n. n / width) back ∙ div-mul-add d width j less),
    (ap (column width) is ∙ column_at width M.positive d j less),
  )
    where
      back : suc (d * width + j) - 1 ≡ d * width + j
      back = omega arith

      at : (s i : ℕ) → i < width → d * width + j < s * width + i → (s < suc d) ⊎ (suc d ≤ s)
          → coef v (s * width + i) ≡ 𝟘
      at s i i_below past (inr more) = higher s i i_below (omega arith)
      at s i i_below past (inl le) = go (eq-or-lt_of_le (degree_less width M.positive d s i j i_below past))
        where
          go : (d ≡ s) ⊎ (d < s) → coef v (s * width + i) ≡ 𝟘
          go (inl same) = subst (λ t. coef v (t * width + i) ≡ 𝟘) same
              (right i (omega (arith, past, ap (λ t. t * width) same)) i_below)
          go (inr more) = absurd (omega arith)

      is : measure M v ≡ suc (d * width + j)
      is = measure_is v (d * width + j) some (λ e past.
          subst (λ i. coef v i ≡ 𝟘) (split M e)
          (at (e / width) (e % width) (column_below M e) (omega (arith, split M e, past))
          (cases_lt (e / width) (suc d))))
