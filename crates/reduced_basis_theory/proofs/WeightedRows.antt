-- Rows of polynomials whose columns are multiplied by weights: a list of them in weak Popov form has predictable
-- degrees.
use Rattle.std.proofs.Common.{◌≡◌, ℕ, zero, suc, ◌<◌, ◌≤◌, ◌+◌, ◌-◌, ◌*◌, ◌/◌, ◌%◌, ◌⊎◌, inl, inr, ◌↔◌, ℤ, pos, ◌+ℤ◌, ◌-ℤ◌, List, [], ◌∷◌, length, refl, sym, ◌∙◌, ap, ap₂, subst, arith, add-mul, suc-mul, le_of_suc-le-suc}
use Rattle.std.proofs.lemmas.Nat.{div-add-mod', mod_below, le-div}
use Rattle.std.proofs.lemmas.Bool.{cases_lt}
use Rattle.std.proofs.lemmas.Int.{ints}
use Rattle.ring_lemmas.specs.Ring.{TestedRing, IsField}
use Rattle.ring_lemmas.specs.Lists.{coeff_of}
use Rattle.ring_lemmas.specs.Rows.{Row, row_add, row_scale, entry}
use Rattle.ring_lemmas.proofs.Ring.{field_domain, domain_cancel, mul_left_comm, mul_zero}
use Rattle.ring_lemmas.specs.Polynomials.{Pol}
use Rattle.ring_theory.specs.PolynomialRing.{pol_ring}
use Rattle.ring_lemmas.proofs.Polynomials.{coeff_past, coeff_top}
use Rattle.popov_theory.specs.Module.{PolynomialModule, measure, pivot, row_degree}
use Rattle.popov_theory.specs.Span.{combine, row_at}
use Rattle.popov_theory.specs.Popov.{IsWeakPopov}
use Rattle.popov_theory.proofs.Module.{zero_scale}
use Rattle.popov_theory.proofs.Positions.{row_le}
use Rattle.popov_theory.proofs.Measure.{measure_past, measure_bound, zero_row, measure_scale, measure_parts}
use Rattle.popov_theory.proofs.PredictableDegree.{predict}
use Rattle.popov_theory.specs.RowModule.{row_module}
use Rattle.popov_theory.proofs.PolynomialRows.{row_width, row_entry, row_module_zero, row_module_add, row_module_scale}
use Rattle.ring_theory.proofs.PolynomialRows.{entry_zero, entry_add, entry_scale, same_entries}
use Rattle.reduced_basis_theory.specs.Degree.{DegreeAtMost, degree, size}
use Rattle.reduced_basis_theory.specs.Rows.{row_times, IsPredictable}
use Rattle.reduced_basis_theory.proofs.Degree.{size_least, size_greatest, degree_of_zero, decide_zero, degree_product, degree_cancel, degree_own}
use Rattle.reduced_basis_theory.proofs.Constants.{polynomials}

module _ {C : Type 0} (k : TestedRing C) where
  abbrev s : TestedRing (Pol k)
  s = pol_ring k

  -- the row f 0, .., f (n - 1)
  abbrev pub row_of : (n : ℕ) → (ℕ → Pol k) → Row (Pol k) n
  row_of zero f = tt
  row_of (suc n) f = (f 0, row_of n (λ i. f (suc i)))

  pub entry_row_of : (n i : ℕ) (f : ℕ → Pol k) → i < n → entry s.ops n i (row_of n f) ≡ f i
  unfolding entry
  entry_row_of zero i f l = absurd (omega arith)
  entry_row_of (suc n) zero f l = refl
  entry_row_of (suc n) (suc i) f l = entry_row_of n i (λ i. f (suc i)) (le_of_suc-le-suc l)

module _ {C V : Type 0} {k : TestedRing C} (M : PolynomialModule k V) (field : IsField k.ops) where
  open M use {width, coef, ◌·◌}

  -- the measure of a multiple
  pub measure_multiple : (c : Pol k) (r : V) (m : ℤ) → ¬ (measure M r ≡ 0)
      → (measure M (c · r) ≤ size m * width) ↔ DegreeAtMost k c (m -ℤ pos (row_degree M r))
  measure_multiple c r m some = go (decide_zero k (field_domain k.ring field) c)
    where
      go : (c ≡ (pol_ring k).𝟘) ⊎ (0 < length c.0) → (measure M (c · r) ≤ size m * width)
          ↔ DegreeAtMost k c (m -ℤ pos (row_degree M r))
      go (inl e) = (
        λ h. degree_of_zero k (field_domain k.ring field) c _ e,
        λ h. let a : measure M (c · r) ≡ 0 = zero_row M (c · r) (ap (λ d. d · r) e ∙ zero_scale M r) in
            omega (arith, a),
      )
      go (inr l) =
          let size_is : length c.0 ≡ suc (length c.0 - 1) = omega (arith, l) in
          at (length c.0 - 1) (row_degree M r) size_is
          (measure_scale M (field_domain k.ring field) c r (length c.0 - 1) size_is some) (measure_parts M r some)
          (mod_below (measure M r - 1) width M.positive)
        where
          reaches : (d x K : ℕ) → measure M (c · r) ≡ d * width + measure M r → measure M r
              ≡ suc (x * width + pivot M r)
              → measure M (c · r) ≤ K * width → (d + x < K) ⊎ (K ≤ d + x) → d + x < K
          reaches d x K is parts h (inl less) = less
          reaches d x K is parts h (inr le) =
              let add = add-mul d x width in
              let step = suc-mul (d + x) width in
              let rise = row_le width M.positive K (suc (d + x)) (omega (arith, le)) in
              absurd (omega (arith, is, parts, h, add, step, rise))

          at : (d x : ℕ) → length c.0 ≡ suc d → measure M (c · r) ≡ d * width + measure M r → measure M r
              ≡ suc (x * width + pivot M r)
              → pivot M r < width → (measure M (c · r) ≤ size m * width) ↔ DegreeAtMost k c (m -ℤ pos x)
          at d x long is parts below = (
            λ h.
                let top = reaches d x (size m) is parts h (cases_lt (d + x) (size m)) in
                let f = size_greatest (suc (d + x)) m (omega arith) (omega (arith, top)) in
                size_least (length c.0) (m -ℤ pos x) (omega (arith, ints)),
            λ h.
                let f = size_greatest (length c.0) (m -ℤ pos x) (omega (arith, long)) h in
                let top : suc (d + x) ≤ size m = size_least (suc (d + x)) m (omega (arith, ints)) in
                let add = add-mul d x width in
                let rise = row_le width M.positive (d + x) (size m) (omega (arith, top)) in
                omega (arith, is, parts, below, add, rise),
          )

  -- the measure of a combination of rows in weak Popov form
  pub measure_combination : (rows : List V) → IsWeakPopov M rows → (c : ℕ → Pol k) (K : ℕ)
      → (measure M (combine M c rows) ≤ K) ↔ ((i : ℕ) → i < length rows → measure M (c i · row_at M rows i) ≤ K)
  measure_combination rows weak c K = (
    λ h i l. let a = (predict M (field_domain k.ring field) rows weak c).terms i l in omega (arith, a, h),
    λ h. go h (cases_lt 0 (measure M (combine M c rows))),
  )
    where
      go : ((i : ℕ) → i < length rows → measure M (c i · row_at M rows i) ≤ K)
          → (0 < measure M (combine M c rows)) ⊎ (measure M (combine M c rows) ≤ 0) → measure M (combine M c rows) ≤ K
      go h (inr none) = omega (arith, none)
      go h (inl l) =
          let a = (predict M (field_domain k.ring field) rows weak c).attained (λ e. absurd (omega (arith, l, e))) in
          let b = h a.0 a.1 in
          let e = a.2 in
          omega (arith, b, e)

module _ {C : Type 0} (k : TestedRing C) (field : IsField k.ops) (n : ℕ) where
  abbrev pub w : ℕ
  w = suc n

  abbrev pub Rows : PolynomialModule k (Row (Pol k) w)
  Rows = row_module k n

  infixl 65 ◌⊕◌
  infixl 70 ◌⊗◌
  open (pol_ring k) use {𝟘, ◌⊕◌, ◌⊗◌}

  -- a row has measure at most K·w where its entries have at most K coefficients
  pub measure_lengths : (v : Row (Pol k) w) (K : ℕ)
      → (measure Rows v ≤ K * Rows.width) ↔ ((j : ℕ) → j < w → length (entry (pol_ring k).ops w j v).0 ≤ K)
  measure_lengths v K = (λ h j l. down h j l (cases_lt K (length (entry (pol_ring k).ops w j v).0)), up)
    where
      top : (p : Pol k) → 0 < length p.0 → ¬ (coeff_of k.ops p.0 (length p.0 - 1) ≡ k.𝟘)
      top ([], t) l = absurd (omega arith)
      top ((x ∷ xs), t) l =
          let e : length xs ≡ length (x ∷ xs) - 1 = omega arith in
          subst (λ i. ¬ (coeff_of k.ops (x ∷ xs) i ≡ k.𝟘)) e (coeff_top k x xs t)

      down : measure Rows v ≤ K * Rows.width → (j : ℕ) → j < w → (K < length (entry (pol_ring k).ops w j v).0)
          ⊎ (length (entry (pol_ring k).ops w j v).0 ≤ K)
          → length (entry (pol_ring k).ops w j v).0 ≤ K
      down h j l (inr le) = le
      down h j l (inl more) =
          let e : ℕ = length (entry (pol_ring k).ops w j v).0 - 1 in
          let step = suc-mul e Rows.width in
          let rise = row_le Rows.width Rows.positive K (suc e) (omega (arith, more)) in
          absurd (top (entry (pol_ring k).ops w j v) (omega (arith, more))
          (sym (row_entry k n v e j l) ∙ measure_past Rows v (e * Rows.width + j) (omega (arith, h, step, rise))))

      up : ((j : ℕ) → j < w → length (entry (pol_ring k).ops w j v).0 ≤ K) → measure Rows v ≤ K * Rows.width
      up h =
          measure_bound Rows v (K * Rows.width) (λ e le.
          let j : ℕ = e % Rows.width in
          let l : j < w = subst (λ x. j < x) (row_width k n) (mod_below e Rows.width Rows.positive) in
          ap (Rows.coef v) (sym (div-add-mod' e Rows.width)) ∙ row_entry k n v (e / Rows.width) j l
          ∙ coeff_past k (entry (pol_ring k).ops w j v).0 (e / Rows.width)
          (let a = h j l in let b = le-div K e Rows.width Rows.positive le in omega (arith, a, b)))

  module _ (u : ℕ → Pol k) (some : (j : ℕ) → ¬ (u j ≡ 𝟘)) where
    -- the row of q with weighted columns
    abbrev pub weighted : (ℕ → Pol k) → Row (Pol k) w
    weighted q = row_of k w (λ j. u j ⊗ q j)

    pub entry_weighted : (q : ℕ → Pol k) (j : ℕ) → j < w → entry (pol_ring k).ops w j (weighted q) ≡ u j ⊗ q j
    entry_weighted q j l = entry_row_of k w j (λ j. u j ⊗ q j) l

    pub weighted_injective : (p q : ℕ → Pol k) → weighted p ≡ weighted q → (j : ℕ) → j < w → p j ≡ q j
    weighted_injective p q e j l =
        domain_cancel (pol_ring k).ring (polynomials k field) (u j) (p j) (q j) (some j)
        (sym (entry_weighted p j l) ∙ ap (entry (pol_ring k).ops w j) e ∙ entry_weighted q j l)

    -- a combination of weighted rows
    pub weighted_combine : (rows : List (Row (Pol k) w)) (B : ℕ → ℕ → Pol k)
        → ((i : ℕ) → i < length rows → row_at Rows rows i ≡ weighted (B i))
        → (c : ℕ → Pol k) → combine Rows c rows ≡ weighted (row_times k (length rows) c B)
    weighted_combine [] B is c =
        row_module_zero k n
        ∙ same_entries k w _ _ (λ j l. entry_zero k w j
        ∙ sym (entry_weighted (λ j. 𝟘) j l ∙ mul_zero (pol_ring k).ring (u j)))
    weighted_combine (r ∷ rows) B is c =
        row_module_add k n _ _
        ∙ ap₂ (row_add (pol_ring k).ops w)
        (row_module_scale k n (c 0) r ∙ ap (row_scale (pol_ring k).ops w (c 0)) (is 0 (omega arith)))
        (weighted_combine rows (λ i. B (suc i)) (λ i l. is (suc i) (omega (arith, l))) (λ i. c (suc i)))
        ∙ same_entries k w _ _ (λ j l.
        entry_add k w j _ _
        ∙ ap₂ ◌⊕◌ (entry_scale k w j (c 0) (weighted (B 0)) ∙ ap (λ x. c 0 ⊗ x) (entry_weighted (B 0) j l)
        ∙ mul_left_comm (pol_ring k).ring (c 0) (u j) (B 0 j))
        (entry_weighted (row_times k (length rows) (λ i. c (suc i)) (λ i. B (suc i))) j l)
        ∙ sym ((pol_ring k).mul_add (u j) (c 0 ⊗ B 0 j) (row_times k (length rows) (λ i. c (suc i)) (λ i. B (suc i)) j))
        ∙ sym (entry_weighted (row_times k (suc (length rows)) c B) j l))

    -- predictable degrees
    pub weighted_predictable : (rows : List (Row (Pol k) w)) → length rows ≡ w → IsWeakPopov Rows rows
        → ((i : ℕ) → i < w → ¬ (measure Rows (row_at Rows rows i) ≡ 0))
        → (B : ℕ → ℕ → Pol k) → ((i : ℕ) → i < w → row_at Rows rows i ≡ weighted (B i))
        → (t : ℕ → ℤ) (S : ℤ) → ((j : ℕ) → j < w → degree k (u j) ≡ t j +ℤ S)
        → IsPredictable k w B t (λ i. pos (row_degree Rows (row_at Rows rows i)) -ℤ S)
    weighted_predictable rows count weak full B is t S weights c m =
        let whole : combine Rows c rows ≡ weighted (row_times k w c B)
        = weighted_combine rows B (λ i l. is i (subst (λ x. i < x) count l)) c
        ∙ ap (λ x. weighted (row_times k x c B)) count in
        let sum = measure_combination Rows field rows weak c (size (m +ℤ S) * Rows.width) in
        let entries = measure_lengths (weighted (row_times k w c B)) (size (m +ℤ S)) in
        let domain = field_domain k.ring field in
        let x : (i : ℕ) → (m +ℤ S) -ℤ pos (row_degree Rows (row_at Rows rows i))
        ≡ m -ℤ (pos (row_degree Rows (row_at Rows rows i)) -ℤ S)
        = λ i. omega (arith, ints) in
        let y : (j : ℕ) → j < w → degree k (u j) +ℤ (m -ℤ t j) ≡ m +ℤ S = λ j l. let e = weights j l in
        omega (arith, ints) in (
          λ h i l.
              subst (DegreeAtMost k (c i)) (x i)
              ((measure_multiple Rows field (c i) (row_at Rows rows i) (m +ℤ S) (full i l)).0
              (sum.0 (subst (λ v. measure Rows v ≤ size (m +ℤ S) * Rows.width) (sym whole)
              (entries.1 (λ j l'.
              subst (λ p. DegreeAtMost k p (m +ℤ S)) (sym (entry_weighted (row_times k w c B) j l'))
              (subst (DegreeAtMost k (u j ⊗ row_times k w c B j)) (y j l')
              (degree_product k domain (u j) (row_times k w c B j) (degree k (u j)) (m -ℤ t j)
              (degree_own k domain (u j)) (h j l'))))))
              i (subst (λ x. i < x) (sym count) l))),
          λ h j l.
              degree_cancel k domain (u j) (row_times k w c B j) (m -ℤ t j) (some j)
              (subst (DegreeAtMost k (u j ⊗ row_times k w c B j)) (sym (y j l))
              (subst (λ p. DegreeAtMost k p (m +ℤ S)) (entry_weighted (row_times k w c B) j l)
              (entries.0 (subst (λ v. measure Rows v ≤ size (m +ℤ S) * Rows.width) whole
              (sum.1 (λ i l'.
              let i_in : i < w = subst (λ x. i < x) count l' in
              (measure_multiple Rows field (c i) (row_at Rows rows i) (m +ℤ S) (full i i_in)).1
              (subst (DegreeAtMost k (c i)) (sym (x i)) (h i i_in))))) j l))),
        )
