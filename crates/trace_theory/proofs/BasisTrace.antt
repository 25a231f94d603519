-- The trace in any basis: coordinates of functions, and the matrices of multiplication by a function in two bases.
use native.Mathlib.Decide.{ℕ_discrete}
use Rattle.std.proofs.Common.{◌≡◌, ℕ, zero, suc, ◌<◌, sym, ◌∙◌, ap, ap₂, arith}
use Rattle.ring_lemmas.specs.Ring.{CommRing, pow}
use Rattle.ring_lemmas.specs.Rows.{Row, row_scale, entry}
use Rattle.ring_lemmas.specs.Sums.{sum_below, trace}
use Rattle.ring_lemmas.proofs.Ring.{mul_zero, one_mul, add_cancel_left, mul_left_comm}
use Rattle.ring_lemmas.proofs.Rows.{pair_path, row_scale_zero}
use Rattle.ring_lemmas.proofs.Sums.{below_cong, below_scale, below_scale_right, below_single}
use Rattle.ff_fields.specs.Field.{CodeField}
use Rattle.ff_poly.specs.Polynomials.{Polynomial, polynomials}
use Rattle.function_field.specs.Functions.{Equation, RowOver, AreSame, FunctionOf, ring_of, function, function_eq, from_rows, from_rows_value, row_of, of_poly, over, y_of, trace_of, degree_of_y}
use Rattle.function_field.proofs.OnSide.{of_poly_zero}
use Rattle.function_field.proofs.ScalarRings.{over_plus, over_times, bottoms_not_zero, of_poly_one}
use Rattle.trace_theory.specs.Traces.{IsRational}
use Rattle.trace_theory.proofs.Determinants.{diagonal, diagonal_here, diagonal_other, image_sum}
use Rattle.trace_theory.proofs.RowMatrix.{entry_add, at_scale, entry_here, entry_other, unit_row, y_unit, trace_is, matrix}
use Rattle.trace_theory.proofs.FunctionTraces.{K, R, Y, one_some, over_product, over_sum, over_eq, as_row, row_of_times, y_power, trace_over}
use Rattle.places_theory.proofs.YRoot.{poly_hom}
use Rattle.trace_theory.proofs.IntegralFunctions.{fraction_eq}
use Rattle.trace_theory.proofs.Similar.{similar_trace}

module _ {k : CodeField} (c : Equation k) where
  infixl 65 ◌⊕◌
  infixl 70 ◌⊗◌
  open ring_of c use {𝟘, 𝟙, ◌⊕◌, ◌⊗◌}

  abbrev F : CommRing (FunctionOf c)
  F = ring_of c

  abbrev N : ℕ
  N = suc c.lower_degree

  -- the coordinate at y^l
  abbrev row_coordinate : ℕ → RowOver c → RowOver c
  row_coordinate l z = record {
    num = row_of c (entry (polynomials k).ops (suc c.lower_degree) l z.num);
    den = z.den;
    den_not_zero = z.den_not_zero;
  }

  coordinate_same : (l : ℕ) (z w : RowOver c) → AreSame c z w → AreSame c (row_coordinate l z) (row_coordinate l w)
  unfolding row_scale
  coordinate_same l z w h =
      pair_path
      (sym (at_scale (K c) c.lower_degree c.coefficients l w.den z.num) ∙ ap (entry (K c).ops (suc c.lower_degree) l) h
      ∙ at_scale (K c) c.lower_degree c.coefficients l z.den w.num)
      (row_scale_zero (K c) c.lower_degree w.den ∙ sym (row_scale_zero (K c) c.lower_degree z.den))

  coordinate : ℕ → FunctionOf c → FunctionOf c
  coordinate l =
      from_rows c F.is_set (λ z. function c (row_coordinate l z))
      (λ z w h. function_eq c (row_coordinate l z) (row_coordinate l w) (coordinate_same l z w h))

  coordinate_over : (l : ℕ) (v : Row (Polynomial k) (suc c.lower_degree)) (d : Polynomial k) (n : ¬ (d ≡ (K c).𝟘))
      → coordinate l (over c v d n) ≡ over c (row_of c (entry (K c).ops (suc c.lower_degree) l v)) d n
  unfolding coordinate
  coordinate_over l v d n =
      from_rows_value c F.is_set (λ z. function c (row_coordinate l z))
      (λ z w h. function_eq c (row_coordinate l z) (row_coordinate l w) (coordinate_same l z w h))
      (record { num = v; den = d; den_not_zero = n })

  coordinate_plus : (l : ℕ) (z w : FunctionOf c) → coordinate l (z ⊕ w) ≡ coordinate l z ⊕ coordinate l w
  coordinate_plus l z w =
      let r = as_row c z in
      let s = as_row c w in
      ap₂ (λ z w. coordinate l (z ⊕ w)) r.is s.is
      ∙ ap (coordinate l) (over_sum c r.num s.num r.den s.den r.not_zero s.not_zero)
      ∙ coordinate_over l _ _ _
      ∙ ap (λ a. over c (row_of c a) ((K c).◌⊗◌ r.den s.den) (bottoms_not_zero c r.den s.den r.not_zero s.not_zero))
      (entry_add (K c) (suc c.lower_degree) l _ _
      ∙ ap₂ (K c).◌⊕◌ (at_scale (K c) c.lower_degree c.coefficients l s.den r.num)
      (at_scale (K c) c.lower_degree c.coefficients l r.den s.num))
      ∙ sym (over_plus c (entry (K c).ops (suc c.lower_degree) l r.num) (entry (K c).ops (suc c.lower_degree) l s.num)
      r.den s.den r.not_zero s.not_zero)
      ∙ sym (ap₂ ◌⊕◌ (ap (coordinate l) r.is ∙ coordinate_over l r.num r.den r.not_zero)
      (ap (coordinate l) s.is ∙ coordinate_over l s.num s.den s.not_zero))

  coordinate_times : (l : ℕ) (q z : FunctionOf c) → IsRational c q → coordinate l (q ⊗ z) ≡ q ⊗ coordinate l z
  coordinate_times l q z h =
      let r = as_row c z in
      ap₂ (λ q z. coordinate l (q ⊗ z)) h.value r.is
      ∙ ap (coordinate l) (over_product c (row_of c h.top) r.num h.bottom r.den h.not_null r.not_zero)
      ∙ coordinate_over l _ _ _
      ∙ ap (λ t. over c (row_of c t) ((K c).◌⊗◌ h.bottom r.den)
      (bottoms_not_zero c h.bottom r.den h.not_null r.not_zero))
      (ap (entry (K c).ops (suc c.lower_degree) l) (row_of_times c h.top r.num)
      ∙ at_scale (K c) c.lower_degree c.coefficients l h.top r.num)
      ∙ sym (over_times c h.top (entry (K c).ops (suc c.lower_degree) l r.num) h.bottom r.den h.not_null r.not_zero)
      ∙ ap₂ ◌⊗◌ (sym h.value) (sym (ap (coordinate l) r.is ∙ coordinate_over l r.num r.den r.not_zero))

  coordinate_zero : (l : ℕ) → coordinate l 𝟘 ≡ 𝟘
  coordinate_zero l =
      add_cancel_left F (coordinate l 𝟘) (coordinate l 𝟘) 𝟘
      (sym (coordinate_plus l 𝟘 𝟘) ∙ ap (coordinate l) (F.add_zero 𝟘) ∙ sym (F.add_zero (coordinate l 𝟘)))

  -- the coordinate of a combination with rational coefficients
  coordinate_sum : (l n : ℕ) (a w : ℕ → FunctionOf c) → ((j : ℕ) → j < n → IsRational c (a j))
      → coordinate l (sum_below F.ops n (λ j. a j ⊗ w j)) ≡ sum_below F.ops n (λ j. a j ⊗ coordinate l (w j))
  coordinate_sum l zero a w h = coordinate_zero l
  coordinate_sum l (suc n) a w h =
      coordinate_plus l _ _ ∙ ap₂ ◌⊕◌ (coordinate_sum l n a w (λ j b. h j (omega arith)))
      (coordinate_times l (a n) (w n) (h n (omega arith)))

  -- the coordinates of the powers of y are the unit matrix
  coordinate_power : (i l : ℕ) → i < N → coordinate l (pow F.ops (y_of c) i) ≡ diagonal F.ops (λ i. 𝟙) i l
  coordinate_power i l b =
      ap (coordinate l) (y_power c i ∙ ap (λ v. over c v (K c).𝟙 (one_some c))
      (y_unit (K c) c.lower_degree c.coefficients i b))
      ∙ coordinate_over l (unit_row (K c) N i) (K c).𝟙 (one_some c) ∙ go (ℕ_discrete l i)
    where
      go : Dec (l ≡ i) → of_poly c (entry (K c).ops (suc c.lower_degree) l (unit_row (K c) (suc c.lower_degree) i))
          ≡ diagonal (ring_of c).ops (λ i. (ring_of c).𝟙) i l
      go (yes e) =
          ap (λ l. of_poly c (entry (K c).ops (suc c.lower_degree) l (unit_row (K c) (suc c.lower_degree) i))) e
          ∙ ap (of_poly c) (entry_here (K c) (suc c.lower_degree) i b) ∙ sym (of_poly_one c)
          ∙ sym (diagonal_here (ring_of c) (λ i. (ring_of c).𝟙) i)
          ∙ ap (diagonal (ring_of c).ops (λ i. (ring_of c).𝟙) i) (sym e)
      go (no ne) =
          ap (of_poly c) (entry_other (K c) (suc c.lower_degree) l i ne) ∙ sym (of_poly_zero c)
          ∙ sym (diagonal_other (ring_of c) (λ i. (ring_of c).𝟙) i l ne)

  -- the matrix of multiplication by z in the powers of y
  abbrev powers_matrix : FunctionOf c → ℕ → ℕ → FunctionOf c
  powers_matrix z i l = coordinate l (z ⊗ pow F.ops (y_of c) i)

  trace_of_powers : (z : FunctionOf c) → trace_of c z ≡ trace F.ops N (powers_matrix z)
  unfolding matrix
  trace_of_powers z =
      let r = as_row c z in
      ap (trace_of c) r.is ∙ trace_over c r.num r.den r.not_zero
      ∙ ap (λ t. over c (row_of c t) r.den r.not_zero) (trace_is (K c) c.lower_degree c.coefficients r.num)
      ∙ spread r.den r.not_zero N (λ i. matrix (K c) c.lower_degree c.coefficients r.num i i)
      ∙ below_cong F N _ _ (λ i l. sym (ap (λ z. coordinate i (z ⊗ pow F.ops (y_of c) i)) r.is
      ∙ diagonal_entry r.num r.den r.not_zero i))
    where
      -- a sum of fractions with one denominator
      spread : (d : Polynomial k) (n : ¬ (d ≡ (K c).𝟘)) (m : ℕ) (a : ℕ → Polynomial k)
          → over c (row_of c (sum_below (K c).ops m a)) d n
          ≡ sum_below (ring_of c).ops m (λ i. over c (row_of c (a i)) d n)
      spread d n m a =
          by_inverse (sum_below (K c).ops m a)
          ∙ ap (λ u. (ring_of c).◌⊗◌ u (inverse)) (image_sum (K c) (ring_of c) (of_poly c) (poly_hom c) m a)
          ∙ sym (below_scale_right (ring_of c) m inverse (λ i. of_poly c (a i)))
          ∙ below_cong (ring_of c) m _ _ (λ i l. sym (by_inverse (a i)))
        where
          inverse : FunctionOf c
          inverse = over c (row_of c (K c).𝟙) d n

          by_inverse : (a : Polynomial k)
              → over c (row_of c a) d n ≡ (ring_of c).◌⊗◌ (of_poly c a) (over c (row_of c (K c).𝟙) d n)
          by_inverse a =
              sym (over_times c a (K c).𝟙 (K c).𝟙 d (one_some c) n
              ∙ fraction_eq c ((K c).◌⊗◌ a (K c).𝟙) a ((K c).◌⊗◌ (K c).𝟙 d) d
              (bottoms_not_zero c (K c).𝟙 d (one_some c) n) n
              (ap ((K c).◌⊗◌ d) ((K c).mul_one a) ∙ ap (λ x. (K c).◌⊗◌ x a) (sym (one_mul (K c) d))))

      diagonal_entry : (v : Row (Polynomial k) (suc c.lower_degree)) (d : Polynomial k) (n : ¬ (d ≡ (K c).𝟘)) (i : ℕ)
          → coordinate i ((ring_of c).◌⊗◌ (over c v d n) (pow (ring_of c).ops (y_of c) i))
          ≡ over c (row_of c (matrix (K c) c.lower_degree c.coefficients v i i)) d n
      diagonal_entry v d n i =
          ap (λ u. coordinate i ((ring_of c).◌⊗◌ (over c v d n) u)) (y_power c i)
          ∙ ap (coordinate i) (over_product c v (Y c i) d (K c).𝟙 n (one_some c))
          ∙ coordinate_over i _ _ _
          ∙ over_eq c (row_of c (entry (K c).ops (suc c.lower_degree) i ((R c).◌⊗◌ v (Y c i))))
          (row_of c (entry (K c).ops (suc c.lower_degree) i ((R c).◌⊗◌ v (Y c i))))
          ((K c).◌⊗◌ d (K c).𝟙) d (bottoms_not_zero c d (K c).𝟙 n (one_some c)) n
          (ap (λ e. row_scale (K c).ops (suc c.lower_degree) e
          (row_of c (entry (K c).ops (suc c.lower_degree) i ((R c).◌⊗◌ v (Y c i))))) (sym ((K c).mul_one d)))

  module _ (w : ℕ → FunctionOf c) (b b' : ℕ → ℕ → FunctionOf c)
      (b_rational : (i j : ℕ) → i < degree_of_y c → j < degree_of_y c → IsRational c (b i j))
      (b'_rational : (i j : ℕ) → i < degree_of_y c → j < degree_of_y c → IsRational c (b' i j))
      (w_is : (i : ℕ) → i < degree_of_y c → w i ≡ sum_below F.ops (degree_of_y c) (λ j. b i j ⊗ pow F.ops (y_of c) j))
      (y_is : (i : ℕ) → i < degree_of_y c → pow F.ops (y_of c) i ≡ sum_below F.ops (degree_of_y c) (λ j. b' i j ⊗ w j))
    where
      -- the coordinates of w_j
      coordinate_of_w : (j l : ℕ) → j < N → l < N → coordinate l (w j) ≡ b j l
      coordinate_of_w j l q r =
          ap (coordinate l) (w_is j q) ∙ coordinate_sum l N (b j) (pow F.ops (y_of c)) (λ s t. b_rational j s q t)
          ∙ below_cong F N _ (λ s. b j s ⊗ diagonal F.ops (λ i. 𝟙) s l)
          (λ s t. ap (λ x. b j s ⊗ x) (coordinate_power s l t))
          ∙ below_single F N l (λ s. b j s ⊗ diagonal F.ops (λ i. 𝟙) s l) r
          (λ s t ne. ap (λ x. b j s ⊗ x) (diagonal_other F (λ i. 𝟙) s l (λ e. ne (sym e))) ∙ mul_zero F (b j s))
          ∙ ap (λ x. b j l ⊗ x) (diagonal_here F (λ i. 𝟙) l) ∙ F.mul_one (b j l)

      -- the coordinates of a combination of the w_j
      coordinate_combination : (a : ℕ → FunctionOf c) → ((j : ℕ) → j < N → IsRational c (a j)) → (l : ℕ) → l < N
          → coordinate l (sum_below F.ops N (λ j. a j ⊗ w j)) ≡ sum_below F.ops N (λ j. a j ⊗ b j l)
      coordinate_combination a h l r =
          coordinate_sum l N a w h ∙ below_cong F N _ _ (λ j q. ap (λ x. a j ⊗ x) (coordinate_of_w j l q r))

      pub basis_trace : (z : FunctionOf c) (m : ℕ → ℕ → FunctionOf c)
          → ((i j : ℕ) → i < degree_of_y c → j < degree_of_y c → IsRational c (m i j))
          → ((i : ℕ) → i < degree_of_y c → z ⊗ w i ≡ sum_below F.ops (degree_of_y c) (λ j. m i j ⊗ w j))
          → trace_of c z ≡ trace F.ops (degree_of_y c) m
      basis_trace z m m_rational m_is =
          trace_of_powers z
          ∙ sym (similar_trace F N b b' (λ i l q r.
          sym (coordinate_combination (b' i) (λ j s. b'_rational i j q s) l r) ∙ ap (coordinate l) (sym (y_is i q))
          ∙ coordinate_power i l q)
          m (powers_matrix z) (λ i l q r.
          sym (coordinate_combination (m i) (λ j s. m_rational i j q s) l r) ∙ ap (coordinate l) (sym (m_is i q))
          ∙ ap (coordinate l) (ap (λ x. z ⊗ x) (w_is i q) ∙ sym (below_scale F N z _)
          ∙ below_cong F N _ _ (λ j s. mul_left_comm F z (b i j) (pow F.ops (y_of c) j)))
          ∙ coordinate_sum l N (b i) (λ j. z ⊗ pow F.ops (y_of c) j) (λ j s. b_rational i j q s)))
