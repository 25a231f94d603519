-- The codes of a row of an order modulo an ideal: each row has one list of codes.
use Rattle.std.proofs.Common.{◌≡◌, ◌≢◌, ℕ, zero, suc, ◌+◌, ◌-◌, ◌*◌, ◌/◌, ◌%◌, ◌<◌, ◌≤◌, ◌⊎◌, inl, inr, Bool, true, false, cond, List, [], ◌∷◌, length, get_or, replicate, refl, sym, ap, ap₂, ◌∙◌, subst, arith, add-mul}
use Rattle.std.specs.Prelude.{All}
use Rattle.std.proofs.lemmas.Bool.{cases_lt}
use Rattle.std.proofs.lemmas.Nat.{div-add-mod', mod_below}
use Rattle.std.proofs.lemmas.List.{get_or-map, length-append, length-replicate, get_or-append_right}
use Rattle.ring_lemmas.specs.Ring.{TestedRing}
use Rattle.ring_lemmas.specs.Lists.{coeff_of}
use Rattle.ring_lemmas.specs.Rows.{Row}
use Rattle.ring_lemmas.specs.Polynomials.{Pol}
use Rattle.ring_lemmas.proofs.Polynomials.{coeff_past}
use Rattle.ff_fields.specs.Field.{FieldOps, CodeField}
use Rattle.ff_fields.specs.Code.{Code, code_ring, read_code, read_code_below, same_code, zero_in}
use Rattle.ff_fields.specs.Over.{IsOver}
use Rattle.ff_poly.specs.Value.{value}
use Rattle.ff_poly.specs.Polynomials.{series_read}
use Rattle.ff_poly.specs.Terms.{term, less_multiple}
use Rattle.ff_poly.specs.Popov.{entry_at, row_at, IsRow, IsPopovMatrix}
use Rattle.popov_theory.specs.Module.{PolynomialModule, measure, pivot, column}
use Rattle.popov_theory.specs.Span.{InSpan}
use Rattle.popov_theory.proofs.Positions.{column_at}
use Rattle.popov_theory.proofs.Measure.{measure_past, measure_bound, measure_falls, scale_top, scale_past}
use Rattle.ff_popov.specs.Reading.{read_row, row_space, read_rows}
use Rattle.ff_popov.specs.Rows.{IsRowLess}
use Rattle.ff_popov.proofs.ReadRows.{over_at, read_row_at, space_less}
use Rattle.ff_popov.proofs.Transformations.{less_row}
use Rattle.ff_popov.proofs.Measures.{value_short, space_width, coef_read}
use Rattle.ff_popov.proofs.PopovBasis.{basis_measured, basis_popov, member_longer}
use Rattle.ff_lattice.specs.PositionLists.{pivot_length, row_less, lift_power, code_at_position, cleared}

-- the positions of three kinds
pub cond_true : {X : Type 0} (b : Bool) (x y : X) → b ≡ true → cond b x y ≡ x
cond_true b x y e = ap (λ b. cond b x y) e

pub cond_false : {X : Type 0} (b : Bool) (x y : X) → b ≡ false → cond b x y ≡ y
cond_false b x y e = ap (λ b. cond b x y) e

pub true_or_false : (b : Bool) → (b ≡ true) ⊎ (b ≡ false)
true_or_false true = inl refl
true_or_false false = inr refl

pub row_less_length : (k : FieldOps) (a : List (List ℕ)) (c s : ℕ) (b : List (List ℕ))
    → length (row_less k a c s b) ≡ length a
row_less_length k [] c s b = refl
row_less_length k (u ∷ a) c s [] = ap suc (row_less_length k a c s [])
row_less_length k (u ∷ a) c s (v ∷ b) = ap suc (row_less_length k a c s b)

pub row_less_at : (k : FieldOps) (a : List (List ℕ)) (c s : ℕ) (b : List (List ℕ)) (i : ℕ) → i < length a
    → entry_at (row_less k a c s b) i ≡ less_multiple k (entry_at a i) c s (entry_at b i)
row_less_at k [] c s b i less = absurd (omega (arith, less))
row_less_at k (u ∷ a) c s [] zero less = refl
row_less_at k (u ∷ a) c s [] (suc i) less = row_less_at k a c s [] i (omega (arith, less))
row_less_at k (u ∷ a) c s (v ∷ b) zero less = refl
row_less_at k (u ∷ a) c s (v ∷ b) (suc i) less = row_less_at k a c s b i (omega (arith, less))

pub row_less_is : (k : FieldOps) (a : List (List ℕ)) (c s : ℕ) (b : List (List ℕ))
    → IsRowLess k a c s b (row_less k a c s b)
row_less_is k a c s b = record { size = row_less_length k a c s b; entries = row_less_at k a c s b }

module _ (k : CodeField) where
  abbrev A : TestedRing (Code k)
  A = code_ring k

  zero_code : read_code k 0 ≡ A.𝟘
  zero_code = same_code k (read_code k 0) A.𝟘 (read_code_below k 0 (zero_in k))

  -- the coefficient of what a list of codes stands for
  pub coeff_code : (a : List ℕ) (t : ℕ) → coeff_of A.ops (value k a).0 t ≡ read_code k (get_or a t 0)
  coeff_code a t = go (cases_lt t (length a))
    where
      none : (a : List ℕ) (t : ℕ) → length a ≤ t → get_or a t 0 ≡ 0
      none [] t le = refl
      none (x ∷ a) zero le = absurd (omega (arith, le))
      none (x ∷ a) (suc t) le = none a t (omega (arith, le))

      go : (t < length a) ⊎ (length a ≤ t) → coeff_of A.ops (value k a).0 t ≡ read_code k (get_or a t 0)
      go (inl less) = series_read k a t ∙ get_or-map (read_code k) a t 0 A.𝟘 less
      go (inr more) =
          coeff_past A (value k a).0 t (omega (arith, value_short k a, more)) ∙ sym zero_code
          ∙ ap (read_code k) (sym (none a t more))

  term_length : (c s : ℕ) → length (term c s) ≡ s + 1
  term_length c s = length-append (replicate s 0) (c ∷ []) ∙ ap (λ m. m + 1) (length-replicate {A = ℕ} s 0)

  -- the coefficients of a term
  pub term_top : (c s : ℕ) → coeff_of A.ops (value k (term c s)).0 s ≡ read_code k c
  term_top c s =
      let none : s - s ≡ 0 = omega arith in
      coeff_code (term c s) s
      ∙ ap (read_code k) (get_or-append_right (replicate {A = ℕ} s 0) (c ∷ []) s s 0 (length-replicate {A = ℕ} s 0)
      (omega arith) ∙ ap (λ m. get_or {A = ℕ} (c ∷ []) m 0) none)

  pub term_past : (c s i : ℕ) → s < i → coeff_of A.ops (value k (term c s)).0 i ≡ A.𝟘
  term_past c s i past = coeff_past A (value k (term c s)).0 i
      (omega (arith, value_short k (term c s), term_length c s, past))

  module _ (n : ℕ) (positive : 0 < n) where
    abbrev M : PolynomialModule (code_ring k) (Row (Pol (code_ring k)) (suc (n - 1)))
    M = row_space k n

    abbrev R : List (List ℕ) → Row (Pol (code_ring k)) (suc (n - 1))
    R v = read_row k (suc (n - 1)) v

    pub width_is : M.width ≡ n
    width_is = omega (arith, space_width k n, positive)

    pub position_is : (e : ℕ) → e / n * M.width + e % n ≡ e
    position_is e = ap (λ w. e / n * w + e % n) width_is ∙ div-add-mod' e n

    pub column_in : (e : ℕ) → e % n < M.width
    column_in e = omega (arith, mod_below e n positive, width_is)

    -- the coefficient at a position
    pub coef_position : (v : List (List ℕ)) (e : ℕ) → M.coef (R v) e ≡ read_code k (code_at_position n [] [] v e)
    coef_position v e =
        ap (M.coef (R v)) (sym (position_is e)) ∙ coef_read k n v (e / n) (e % n) (column_in e)
        ∙ coeff_code (entry_at v (e % n)) (e / n)

    get_below : (a : List ℕ) (t : ℕ) → IsOver k.ops a → get_or a t 0 < k.size
    get_below a t a_in = go (cases_lt t (length a))
      where
        none : (a : List ℕ) (t : ℕ) → length a ≤ t → get_or a t 0 ≡ 0
        none [] t le = refl
        none (x ∷ a) zero le = absurd (omega (arith, le))
        none (x ∷ a) (suc t) le = none a t (omega (arith, le))

        go : (t < length a) ⊎ (length a ≤ t) → get_or a t 0 < k.size
        go (inl less) = a_in.each t 0 less
        go (inr more) = omega (arith, none a t more, zero_in k)

    pub code_below : (v : List (List ℕ)) (e : ℕ) → IsRow k.ops n v → code_at_position n [] [] v e < k.size
    code_below v e v_row = get_below (entry_at v (e % n)) (e / n) (over_at k v v_row.over (e % n))

    module _ (rows : List (List (List ℕ))) (all : All (IsRow k.ops n) rows) (popov : IsPopovMatrix n rows) where
      abbrev rs : List (Row (Pol (code_ring k)) (suc (n - 1)))
      rs = read_rows k n rows

      pub basis_row : (j : ℕ) → j < n → IsRow k.ops n (row_at rows j)
      basis_row j less = all j [] (omega (arith, less, popov.size))

      some_length : (j : ℕ) → j < n → 0 < pivot_length rows j
      some_length j less = (popov.pivot_at j less).some

      row_measure : (j : ℕ) → j < n → measure M (R (row_at rows j)) ≡ suc ((pivot_length rows j - 1) * M.width + j)
      row_measure j less = ap (measure M) (sym (read_row_at k n rows j)) ∙ (basis_measured k n rows all popov j less).0

      -- the multiple of a row by a term that ends at a position
      module _ (e c : ℕ) (reaches : pivot_length rows (e % n) ≤ suc (e / n)) where
        abbrev j : ℕ
        j = e % n

        abbrev s : ℕ
        s = lift_power n [] [] rows e

        j_in : j < n
        j_in = mod_below e n positive

        abbrev row : Row (Pol (code_ring k)) (suc (n - 1))
        row = R (row_at rows (e % n))

        abbrev last : ℕ
        last = (pivot_length rows j - 1) * M.width + j

        ends_at : s * M.width + last ≡ e
        ends_at =
            let degrees : s + (pivot_length rows j - 1) ≡ e / n = omega (arith, some_length j j_in, reaches) in
            omega (arith, add-mul s (pivot_length rows j - 1) M.width, ap (λ d. d * M.width) degrees, position_is e)

        row_ends : (i : ℕ) → last < i → M.coef row i ≡ A.𝟘
        row_ends i past = measure_past M row i (omega (arith, row_measure j j_in, past))

        top_one : M.coef row last ≡ A.𝟙
        top_one =
            let m = row_measure j j_in in
            let back : measure M row - 1 ≡ last = omega (arith, m) in
            ap (M.coef row) (sym back)
            ∙ ap (λ r. M.coef r (measure M r - 1)) (sym (read_row_at k n rows j))
            ∙ (basis_popov k n rows all popov positive).monic j (omega (arith, j_in, width_is))

        pub multiple_ends : measure M (M.◌·◌ (value k (term c s)) row) ≤ suc e
        multiple_ends =
            measure_bound M (M.◌·◌ (value k (term c s)) row) (suc e) (λ i le.
            scale_past M (value k (term c s)) row s last (λ m past. term_past c s m past) row_ends i
            (omega (arith, ends_at, le)))

        pub multiple_top : M.coef (M.◌·◌ (value k (term c s)) row) e ≡ read_code k c
        multiple_top =
            ap (M.coef (M.◌·◌ (value k (term c s)) row)) (sym ends_at)
            ∙ scale_top M (value k (term c s)) row s last (λ m past. term_past c s m past) row_ends
            ∙ ap₂ A.◌⊗◌ (term_top c s) top_one
            ∙ A.mul_one (read_code k c)

      -- one position is cleared
      module _ (e : ℕ) (v : List (List ℕ)) (v_row : IsRow k.ops n v) (reaches : pivot_length rows (e % n) ≤ suc (e / n))
        where
          abbrev code : ℕ
          code = code_at_position n [] [] v e

          pub cleared_row : IsRow k.ops n (cleared n [] [] k.ops rows e v)
          cleared_row =
              less_row k n v (row_at rows (e % n)) (cleared n [] [] k.ops rows e v) code
              (lift_power n [] [] rows e) v_row
              (basis_row (e % n) (mod_below e n positive))
              (code_below v e v_row) (row_less_is k.ops v code (lift_power n [] [] rows e) (row_at rows (e % n)))

          pub cleared_is : R (cleared n [] [] k.ops rows e v)
              ≡ M.◌⊞◌ (R v) (M.⊟◌ (M.◌·◌ (value k (term code (lift_power n [] [] rows e))) (R (row_at rows (e % n)))))
          cleared_is =
              let b_row = basis_row (e % n) (mod_below e n positive) in
              space_less k n v (row_at rows (e % n)) (cleared n [] [] k.ops rows e v) code (lift_power n [] [] rows e)
              (b_row.size ∙ sym v_row.size) v_row.over b_row.over
              (code_below v e v_row) (row_less_is k.ops v code (lift_power n [] [] rows e) (row_at rows (e % n)))

          pub cleared_falls : measure M (R v) ≤ suc e → measure M (R (cleared n [] [] k.ops rows e v)) ≤ e
          cleared_falls le =
              subst (λ r. measure M r ≤ e) (sym cleared_is)
              (measure_falls M (R v)
              (M.◌·◌ (value k (term code (lift_power n [] [] rows e))) (R (row_at rows (e % n)))) e
              le (multiple_ends e code reaches) (coef_position v e ∙ sym (multiple_top e code reaches)))

      -- a member ends at no position that no row reaches
      pub ends_nowhere : (z : Row (Pol (code_ring k)) (suc (n - 1))) (e : ℕ) → InSpan M rs z
          → suc (e / n) < pivot_length rows (e % n) → measure M z ≢ suc e
      ends_nowhere z e z_in short is =
          let back : suc (e / n) - 1 ≡ e / n = omega arith in
          let at : measure M z ≡ suc ((suc (e / n) - 1) * M.width + e % n) = is
          ∙ ap suc (sym (ap (λ t. t * M.width + e % n) back ∙ position_is e)) in
          let at_column : pivot M z ≡ e % n = ap (λ m. column M.width m) (is ∙ ap suc (sym (position_is e)))
          ∙ column_at M.width M.positive (e / n) (e % n) (column_in e) in
          absurd (omega (
            arith,
            member_longer k n rows all popov z (suc (e / n)) (e % n) z_in at at_column (omega arith)
                (mod_below e n positive),
            short,
          ))
