-- Each member of the order has one list of codes modulo the ideal, and the sum of what its codes stand for differs from
-- it by a member of the ideal.
use Rattle.std.proofs.Common.{◌≡◌, ◌≢◌, ℕ, zero, suc, ◌-◌, ◌/◌, ◌%◌, ◌<◌, ◌≤◌, ◌⊎◌, inl, inr, true, false, nat_lt, List, [], ◌∷◌, length, get_or, drop, replicate, refl, sym, ap, ap₂, ◌∙◌, subst, arith, eq-or-lt_of_le}
use Rattle.std.specs.Prelude.{All}
use Rattle.std.proofs.lemmas.Bool.{ltb-true, ltb-false}
use Rattle.ring_lemmas.specs.Ring.{TestedRing}
use Rattle.ring_lemmas.specs.Rows.{Row}
use Rattle.ring_lemmas.specs.Polynomials.{Pol}
use Rattle.ring_theory.specs.PolynomialRing.{pol_ring}
use Rattle.ring_lemmas.proofs.Polynomials.{same_pol}
use Rattle.ff_fields.specs.Field.{CodeField}
use Rattle.ff_fields.specs.Code.{Code, code_ring, read_code, read_code_below}
use Rattle.ff_fields.specs.Over.{IsOver, IsOver_nil, IsOver_cons, IsOver_head, IsOver_tail}
use Rattle.ff_poly.specs.Value.{value}
use Rattle.ff_poly.specs.Polynomials.{value_nil}
use Rattle.ff_poly.specs.Terms.{term}
use Rattle.ff_poly.specs.Popov.{row_at, IsRow, IsPopovMatrix}
use Rattle.popov_theory.specs.Module.{PolynomialModule, measure}
use Rattle.popov_theory.specs.Span.{InSpan}
use Rattle.popov_theory.proofs.Measure.{measure_past, measure_add_le, measure_zero, zero_from_measure}
use Rattle.popov_theory.proofs.Module.{v_add_neg, v_zero_add, v_neg_add, v_add_assoc, v_add_comm, v_sub_add, zero_scale}
use Rattle.popov_theory.proofs.Span.{span_zero, span_add, span_scale, span_row, span_submodule, sub_in}
use Rattle.ff_popov.specs.Reading.{read_row, row_space, read_rows}
use Rattle.ff_popov.proofs.ReadRows.{read_row_at}
use Rattle.ff_lattice.specs.PositionLists.{pivot_length, is_outside, is_kept, lift_power, code_at_position, cleared, code_count, codes_below, sum_of_codes}
use Rattle.ff_lattice.proofs.PositionCodes.{cond_true, cond_false, true_or_false, coeff_code, code_below, cleared_row, cleared_is, cleared_falls, ends_nowhere, multiple_ends, multiple_top}

-- sums of codes, position by position
module _ (n : ℕ) (W J : List (List (List ℕ))) {V : Type 0} (add : V → V → V) (null : V) (t : ℕ → ℕ → ℕ → V) where
  abbrev S : ℕ → List ℕ → V
  S e a = sum_of_codes n W J add null t e a

  pub sum_outside : (e : ℕ) (a : List ℕ) → is_outside n W J e ≡ true → S (suc e) a ≡ S e a
  sum_outside e a o = cond_true (is_outside n W J e) _ _ o

  pub sum_kept : (e : ℕ) (a : List ℕ) → is_outside n W J e ≡ false → is_kept n W J e ≡ true
      → S (suc e) a ≡ add (t (get_or a 0 0) (lift_power n W J W e) (e % n)) (S e (drop 1 a))
  sum_kept e a o q = cond_false (is_outside n W J e) _ _ o ∙ cond_true (is_kept n W J e) _ _ q

  pub sum_ideal : (e : ℕ) (a : List ℕ) → is_outside n W J e ≡ false → is_kept n W J e ≡ false → S (suc e) a ≡ S e a
  sum_ideal e a o q = cond_false (is_outside n W J e) _ _ o ∙ cond_false (is_kept n W J e) _ _ q

-- the number of codes, position by position
module _ (n : ℕ) (W J : List (List (List ℕ))) where
  pub count_outside : (e : ℕ) → is_outside n W J e ≡ true → code_count n W J (suc e) ≡ code_count n W J e
  count_outside e o = cond_true (is_outside n W J e) _ _ o

  pub count_kept : (e : ℕ) → is_outside n W J e ≡ false → is_kept n W J e ≡ true
      → code_count n W J (suc e) ≡ suc (code_count n W J e)
  count_kept e o q = cond_false (is_outside n W J e) _ _ o ∙ cond_true (is_kept n W J e) _ _ q

  pub count_ideal : (e : ℕ) → is_outside n W J e ≡ false → is_kept n W J e ≡ false
      → code_count n W J (suc e) ≡ code_count n W J e
  count_ideal e o q = cond_false (is_outside n W J e) _ _ o ∙ cond_false (is_kept n W J e) _ _ q

module _ (k : CodeField) where
  abbrev A : TestedRing (Code k)
  A = code_ring k

  -- lists with the same codes are one polynomial
  pub value_same : (a b : List ℕ) → ((i : ℕ) → get_or a i 0 ≡ get_or b i 0) → value k a ≡ value k b
  value_same a b same = same_pol A (value k a) (value k b)
      (λ i. coeff_code k a i ∙ ap (read_code k) (same i) ∙ sym (coeff_code k b i))

  zero_term_at : (s i : ℕ) → get_or (term 0 s) i 0 ≡ 0
  zero_term_at zero zero = refl
  zero_term_at zero (suc i) = refl
  zero_term_at (suc s) zero = refl
  zero_term_at (suc s) (suc i) = zero_term_at s i

  pub zero_term : (s : ℕ) → value k (term 0 s) ≡ (pol_ring A).𝟘
  zero_term s = value_same (term 0 s) [] (zero_term_at s) ∙ value_nil k

  code_zero : (c : ℕ) → c < k.size → read_code k c ≡ A.𝟘 → c ≡ 0
  code_zero c c_in e = sym (read_code_below k c c_in) ∙ ap (λ x. x.0) e

  module _ (n : ℕ) (positive : 0 < n) (W J : List (List (List ℕ))) (W_in : All (IsRow k.ops n) W)
      (J_in : All (IsRow k.ops n) J) (W_popov : IsPopovMatrix n W) (J_popov : IsPopovMatrix n J) where
    abbrev M : PolynomialModule (code_ring k) (Row (Pol (code_ring k)) (suc (n - 1)))
    M = row_space k n

    abbrev R : List (List ℕ) → Row (Pol (code_ring k)) (suc (n - 1))
    R v = read_row k (suc (n - 1)) v

    abbrev ws : List (Row (Pol (code_ring k)) (suc (n - 1)))
    ws = read_rows k n W

    abbrev js : List (Row (Pol (code_ring k)) (suc (n - 1)))
    js = read_rows k n J

    -- what a code stands for
    abbrev pub code_row : ℕ → ℕ → ℕ → Row (Pol (code_ring k)) (suc (n - 1))
    code_row c s j = M.◌·◌ (value k (term c s)) (R (row_at W j))

    abbrev pub row_of_codes : ℕ → List ℕ → Row (Pol (code_ring k)) (suc (n - 1))
    row_of_codes e a = sum_of_codes n W J M.◌⊞◌ M.𝟎 code_row e a

    abbrev L : ℕ → List ℕ → Row (Pol (code_ring k)) (suc (n - 1))
    L e a = row_of_codes e a

    abbrev C : ℕ → List (List ℕ) → List ℕ
    C e v = codes_below n W J k.ops e v

    in_rows : (rows : List (List (List ℕ))) (c s j : ℕ)
        → InSpan M (read_rows k n rows) (M.◌·◌ (value k (term c s)) (R (row_at rows j)))
    in_rows rows c s j =
        span_scale M (read_rows k n rows) (value k (term c s)) (R (row_at rows j))
        (subst (InSpan M (read_rows k n rows)) (read_row_at k n rows j) (span_row M (read_rows k n rows) j))

    falls_or : (z : Row (Pol (code_ring k)) (suc (n - 1))) (e : ℕ) → measure M z ≤ suc e → measure M z ≢ suc e
        → measure M z ≤ e
    falls_or z e le off = go (eq-or-lt_of_le le)
      where
        go : (measure M z ≡ suc e) ⊎ (measure M z < suc e) → measure M z ≤ e
        go (inl is) = absurd (off is)
        go (inr less) = omega (arith, less)

    -- the codes of a row are codes, one for each position
    pub codes_length : (e : ℕ) (v : List (List ℕ)) → length (C e v) ≡ code_count n W J e
    codes_length zero v = refl
    codes_length (suc e) v = go (true_or_false (is_outside n W J e)) (true_or_false (is_kept n W J e)) (codes_length e)
      where
        go : (is_outside n W J e ≡ true) ⊎ (is_outside n W J e ≡ false)
            → (is_kept n W J e ≡ true) ⊎ (is_kept n W J e ≡ false)
            → ((u : List (List ℕ)) → length (C e u) ≡ code_count n W J e)
            → length (C (suc e) v) ≡ code_count n W J (suc e)
        go (inl o) q h = ap length (cond_true (is_outside n W J e) _ _ o) ∙ h v ∙ sym (count_outside n W J e o)
        go (inr o) (inl q) h =
            ap length (cond_false (is_outside n W J e) _ _ o ∙ cond_true (is_kept n W J e) _ _ q)
            ∙ ap suc (h (cleared n W J k.ops W e v)) ∙ sym (count_kept n W J e o q)
        go (inr o) (inr q) h =
            ap length (cond_false (is_outside n W J e) _ _ o ∙ cond_false (is_kept n W J e) _ _ q)
            ∙ h (cleared n W J k.ops J e v) ∙ sym (count_ideal n W J e o q)

    reaches : (rows : List (List (List ℕ))) (e : ℕ) → nat_lt (suc (e / n)) (pivot_length rows (e % n)) ≡ false
        → pivot_length rows (e % n) ≤ suc (e / n)
    reaches rows e o = ltb-false (suc (e / n)) (pivot_length rows (e % n)) o

    pub codes_over : (e : ℕ) (v : List (List ℕ)) → IsRow k.ops n v → IsOver k.ops (C e v)
    codes_over zero v v_row = IsOver_nil
    codes_over (suc e) v v_row = go (true_or_false (is_outside n W J e)) (true_or_false (is_kept n W J e))
        (codes_over e)
      where
        go : (is_outside n W J e ≡ true) ⊎ (is_outside n W J e ≡ false)
            → (is_kept n W J e ≡ true) ⊎ (is_kept n W J e ≡ false)
            → ((u : List (List ℕ)) → IsRow k.ops n u → IsOver k.ops (C e u)) → IsOver k.ops (C (suc e) v)
        go (inl o) q h = subst (IsOver k.ops) (sym (cond_true (is_outside n W J e) _ _ o)) (h v v_row)
        go (inr o) (inl q) h =
            subst (IsOver k.ops) (sym (cond_false (is_outside n W J e) _ _ o ∙ cond_true (is_kept n W J e) _ _ q))
            (IsOver_cons (code_below k n positive v e v_row)
            (h (cleared n W J k.ops W e v) (cleared_row k n positive W W_in W_popov e v v_row (reaches W e o))))
        go (inr o) (inr q) h =
            subst (IsOver k.ops) (sym (cond_false (is_outside n W J e) _ _ o ∙ cond_false (is_kept n W J e) _ _ q))
            (h (cleared n W J k.ops J e v) (cleared_row k n positive J J_in J_popov e v v_row (reaches J e q)))

    -- a sum of codes ends below the positions
    pub sum_ends : (e : ℕ) (a : List ℕ) → measure M (L e a) ≤ e
    sum_ends zero a = omega (arith, measure_zero M)
    sum_ends (suc e) a = go (true_or_false (is_outside n W J e)) (true_or_false (is_kept n W J e)) (sum_ends e)
      where
        go : (is_outside n W J e ≡ true) ⊎ (is_outside n W J e ≡ false)
            → (is_kept n W J e ≡ true) ⊎ (is_kept n W J e ≡ false) → ((b : List ℕ) → measure M (L e b) ≤ e)
            → measure M (L (suc e) a) ≤ suc e
        go (inl o) q h = omega (arith, h a, ap (measure M) (sum_outside n W J M.◌⊞◌ M.𝟎 code_row e a o))
        go (inr o) (inl q) h =
            subst (λ z. measure M z ≤ suc e) (sym (sum_kept n W J M.◌⊞◌ M.𝟎 code_row e a o q))
            (measure_add_le M (code_row (get_or a 0 0) (lift_power n W J W e) (e % n)) (L e (drop 1 a)) (suc e)
            (multiple_ends k n positive W W_in W_popov e (get_or a 0 0) (reaches W e o)) (omega (arith, h (drop 1 a))))
        go (inr o) (inr q) h = omega (arith, h a, ap (measure M) (sum_ideal n W J M.◌⊞◌ M.𝟎 code_row e a o q))

    -- a sum of codes is in the order
    pub sum_in_order : (e : ℕ) (a : List ℕ) → InSpan M ws (L e a)
    sum_in_order zero a = span_zero M ws
    sum_in_order (suc e) a = go (true_or_false (is_outside n W J e)) (true_or_false (is_kept n W J e)) (sum_in_order e)
      where
        go : (is_outside n W J e ≡ true) ⊎ (is_outside n W J e ≡ false)
            → (is_kept n W J e ≡ true) ⊎ (is_kept n W J e ≡ false) → ((b : List ℕ) → InSpan M ws (L e b))
            → InSpan M ws (L (suc e) a)
        go (inl o) q h = subst (InSpan M ws) (sym (sum_outside n W J M.◌⊞◌ M.𝟎 code_row e a o)) (h a)
        go (inr o) (inl q) h =
            subst (InSpan M ws) (sym (sum_kept n W J M.◌⊞◌ M.𝟎 code_row e a o q))
            (span_add M ws (code_row (get_or a 0 0) (lift_power n W J W e) (e % n)) (L e (drop 1 a))
            (in_rows W (get_or a 0 0) (lift_power n W J W e) (e % n)) (h (drop 1 a)))
        go (inr o) (inr q) h = subst (InSpan M ws) (sym (sum_ideal n W J M.◌⊞◌ M.𝟎 code_row e a o q)) (h a)

    -- a sum of codes that is in the ideal has zeros alone
    pub only_zeros : (e : ℕ) (a : List ℕ) → length a ≡ code_count n W J e → IsOver k.ops a → InSpan M js (L e a)
        → a ≡ replicate (code_count n W J e) 0
    only_zeros zero [] size a_in h = refl
    only_zeros zero (c ∷ a) size a_in h = absurd (omega (arith, size))
    only_zeros (suc e) a size a_in h = go (true_or_false (is_outside n W J e)) (true_or_false (is_kept n W J e))
        (only_zeros e) a size a_in h
      where
        go : (is_outside n W J e ≡ true) ⊎ (is_outside n W J e ≡ false)
            → (is_kept n W J e ≡ true) ⊎ (is_kept n W J e ≡ false)
            → ((b : List ℕ) → length b ≡ code_count n W J e → IsOver k.ops b → InSpan M js (L e b)
            → b ≡ replicate (code_count n W J e) 0)
            → (a : List ℕ) → length a ≡ code_count n W J (suc e) → IsOver k.ops a → InSpan M js (L (suc e) a)
            → a ≡ replicate (code_count n W J (suc e)) 0
        go (inl o) q rec a size a_in h =
            rec a (size ∙ count_outside n W J e o) a_in
            (subst (InSpan M js) (sum_outside n W J M.◌⊞◌ M.𝟎 code_row e a o) h)
            ∙ ap (λ m. replicate m 0) (sym (count_outside n W J e o))
        go (inr o) (inr q) rec a size a_in h =
            rec a (size ∙ count_ideal n W J e o q) a_in
            (subst (InSpan M js) (sum_ideal n W J M.◌⊞◌ M.𝟎 code_row e a o q) h)
            ∙ ap (λ m. replicate m 0) (sym (count_ideal n W J e o q))
        go (inr o) (inl q) rec [] size a_in h = absurd (omega (arith, size, count_kept n W J e o q))
        go (inr o) (inl q) rec (c ∷ a) size a_in h =
            ap₂ ◌∷◌ c_zero (rec a (omega (arith, size, count_kept n W J e o q)) (IsOver_tail a_in) rest_in)
            ∙ ap (λ m. replicate m 0) (sym (count_kept n W J e o q))
          where
            s : ℕ
            s = lift_power n W J W e

            z : Row (Pol (code_ring k)) (suc (n - 1))
            z = M.◌⊞◌ (code_row c s (e % n)) (L e a)

            z_in : InSpan M js (M.◌⊞◌ (code_row c (lift_power n W J W e) (e % n)) (L e a))
            z_in = subst (InSpan M js) (sum_kept n W J M.◌⊞◌ M.𝟎 code_row e (c ∷ a) o q) h

            z_ends : measure M (M.◌⊞◌ (code_row c (lift_power n W J W e) (e % n)) (L e a)) ≤ e
            z_ends =
                falls_or (M.◌⊞◌ (code_row c (lift_power n W J W e) (e % n)) (L e a)) e
                (measure_add_le M (code_row c (lift_power n W J W e) (e % n)) (L e a) (suc e)
                (multiple_ends k n positive W W_in W_popov e c (reaches W e o)) (omega (arith, sum_ends e a)))
                (ends_nowhere k n positive J J_in J_popov (M.◌⊞◌ (code_row c (lift_power n W J W e) (e % n)) (L e a)) e
                z_in (ltb-true (suc (e / n)) (pivot_length J (e % n)) q))

            top : read_code k c ≡ A.𝟘
            top =
                sym (A.add_zero (read_code k c))
                ∙ ap₂ A.◌⊕◌ (sym (multiple_top k n positive W W_in W_popov e c (reaches W e o)))
                (sym (measure_past M (L e a) e (sum_ends e a)))
                ∙ sym (M.coef_add (code_row c (lift_power n W J W e) (e % n)) (L e a) e)
                ∙ measure_past M (M.◌⊞◌ (code_row c (lift_power n W J W e) (e % n)) (L e a)) e z_ends

            c_zero : c ≡ 0
            c_zero = code_zero c (IsOver_head a_in) top

            rest_in : InSpan M js (L e a)
            rest_in =
                subst (InSpan M js)
                (ap (λ p. M.◌⊞◌ (M.◌·◌ p (R (row_at W (e % n)))) (L e a))
                (ap (λ x. value k (term x (lift_power n W J W e))) c_zero ∙ zero_term (lift_power n W J W e))
                ∙ ap (λ x. M.◌⊞◌ x (L e a)) (zero_scale M (R (row_at W (e % n))))
                ∙ v_zero_add M (L e a))
                z_in

    module _ (within : (z : Row (Pol (code_ring k)) (suc (n - 1))) → InSpan M js z → InSpan M ws z) where
      -- a member of the order differs from the sum of its codes by a member of the ideal
      pub codes_class : (e : ℕ) (v : List (List ℕ)) → IsRow k.ops n v → InSpan M ws (R v) → measure M (R v) ≤ e
          → InSpan M js (M.◌⊞◌ (R v) (M.⊟◌ (L e (C e v))))
      codes_class zero v v_row v_in le =
          subst (InSpan M js)
          (sym (ap (λ x. M.◌⊞◌ x (M.⊟◌ M.𝟎)) (zero_from_measure M (R v) (omega (arith, le))) ∙ v_add_neg M M.𝟎))
          (span_zero M js)
      codes_class (suc e) v v_row v_in le = go (true_or_false (is_outside n W J e)) (true_or_false (is_kept n W J e))
          (codes_class e)
        where
          go : (is_outside n W J e ≡ true) ⊎ (is_outside n W J e ≡ false)
              → (is_kept n W J e ≡ true) ⊎ (is_kept n W J e ≡ false)
              → ((u : List (List ℕ)) → IsRow k.ops n u → InSpan M ws (R u) → measure M (R u) ≤ e
              → InSpan M js (M.◌⊞◌ (R u) (M.⊟◌ (L e (C e u)))))
              → InSpan M js (M.◌⊞◌ (R v) (M.⊟◌ (L (suc e) (C (suc e) v))))
          go (inl o) q rec =
              subst (λ x. InSpan M js (M.◌⊞◌ (R v) (M.⊟◌ x)))
              (sym (ap (L (suc e)) (cond_true (is_outside n W J e) _ _ o)
              ∙ sum_outside n W J M.◌⊞◌ M.𝟎 code_row e (C e v) o))
              (rec v v_row v_in (falls_or (R v) e le
              (ends_nowhere k n positive W W_in W_popov (R v) e v_in
              (ltb-true (suc (e / n)) (pivot_length W (e % n)) o))))
          go (inr o) (inl q) rec =
              subst (λ x. InSpan M js (M.◌⊞◌ (R v) (M.⊟◌ x)))
              (sym (ap (L (suc e)) (cond_false (is_outside n W J e) _ _ o ∙ cond_true (is_kept n W J e) _ _ q)
              ∙ sum_kept n W J M.◌⊞◌ M.𝟎 code_row e (code_at_position n W J v e ∷ C e (cleared n W J k.ops W e v)) o q))
              (subst (InSpan M js)
              (ap (λ x. M.◌⊞◌ x (M.⊟◌ (L e (C e (cleared n W J k.ops W e v))))) is
              ∙ v_add_assoc M (R v) (M.⊟◌ taken) (M.⊟◌ (L e (C e (cleared n W J k.ops W e v))))
              ∙ ap (M.◌⊞◌ (R v)) (sym (v_neg_add M taken (L e (C e (cleared n W J k.ops W e v))))))
              (rec (cleared n W J k.ops W e v) (cleared_row k n positive W W_in W_popov e v v_row (reaches W e o))
              (subst (InSpan M ws) (sym is)
              (sub_in M (InSpan M ws) (span_submodule M ws) (R v) taken v_in
              (in_rows W (code_at_position n W J v e) (lift_power n W J W e) (e % n))))
              (cleared_falls k n positive W W_in W_popov e v v_row (reaches W e o) le)))
            where
              taken : Row (Pol (code_ring k)) (suc (n - 1))
              taken = code_row (code_at_position n W J v e) (lift_power n W J W e) (e % n)

              is : R (cleared n W J k.ops W e v)
                  ≡ M.◌⊞◌ (R v) (M.⊟◌ (code_row (code_at_position n W J v e) (lift_power n W J W e) (e % n)))
              is = cleared_is k n positive W W_in W_popov e v v_row (reaches W e o)
          go (inr o) (inr q) rec =
              subst (λ x. InSpan M js (M.◌⊞◌ (R v) (M.⊟◌ x)))
              (sym (ap (L (suc e)) (cond_false (is_outside n W J e) _ _ o ∙ cond_false (is_kept n W J e) _ _ q)
              ∙ sum_ideal n W J M.◌⊞◌ M.𝟎 code_row e (C e (cleared n W J k.ops J e v)) o q))
              (subst (InSpan M js) (back (R v) taken (M.⊟◌ (L e (C e (cleared n W J k.ops J e v)))))
              (span_add M js (M.◌⊞◌ (M.◌⊞◌ (R v) (M.⊟◌ taken)) (M.⊟◌ (L e (C e (cleared n W J k.ops J e v))))) taken
              (subst (λ x. InSpan M js (M.◌⊞◌ x (M.⊟◌ (L e (C e (cleared n W J k.ops J e v)))))) is
              (rec (cleared n W J k.ops J e v) (cleared_row k n positive J J_in J_popov e v v_row (reaches J e q))
              (subst (InSpan M ws) (sym is)
              (sub_in M (InSpan M ws) (span_submodule M ws) (R v) taken v_in (within taken taken_in)))
              (cleared_falls k n positive J J_in J_popov e v v_row (reaches J e q) le)))
              taken_in))
            where
              taken : Row (Pol (code_ring k)) (suc (n - 1))
              taken = M.◌·◌ (value k (term (code_at_position n W J v e) (lift_power n W J J e))) (R (row_at J (e % n)))

              taken_in : InSpan M js (M.◌·◌ (value k (term (code_at_position n W J v e) (lift_power n W J J e)))
                  (R (row_at J (e % n))))
              taken_in = in_rows J (code_at_position n W J v e) (lift_power n W J J e) (e % n)

              is : R (cleared n W J k.ops J e v)
                  ≡ M.◌⊞◌ (R v) (M.⊟◌ (M.◌·◌ (value k (term (code_at_position n W J v e) (lift_power n W J J e)))
                  (R (row_at J (e % n)))))
              is = cleared_is k n positive J J_in J_popov e v v_row (reaches J e q)

              back : (a b c : Row (Pol (code_ring k)) (suc (n - 1))) → M.◌⊞◌ (M.◌⊞◌ (M.◌⊞◌ a (M.⊟◌ b)) c) b ≡ M.◌⊞◌ a c
              back a b c =
                  v_add_assoc M (M.◌⊞◌ a (M.⊟◌ b)) c b ∙ ap (M.◌⊞◌ (M.◌⊞◌ a (M.⊟◌ b))) (v_add_comm M c b)
                  ∙ sym (v_add_assoc M (M.◌⊞◌ a (M.⊟◌ b)) b c) ∙ ap (λ x. M.◌⊞◌ x c) (v_sub_add M a b)
