-- The basis that is dual to the powers of y under the trace form.
use Rattle.std.proofs.Common.{◌≡◌, ℕ, suc, ◌<◌, [], ◌∷◌, refl, sym, ◌∙◌, ap}
use Rattle.ring_lemmas.specs.Ring.{CommRing, pow}
use Rattle.ring_lemmas.specs.Sums.{sum_below}
use Rattle.ring_lemmas.proofs.Ring.{mul_zero, zero_add, add_cancel, eq_of_sub}
use Rattle.ring_lemmas.proofs.Sums.{below_cong, below_single, below_scale_right}
use Rattle.ring_lemmas.proofs.Solver.{ring, reads}
use Rattle.ff_fields.specs.Field.{CodeField}
use Rattle.ff_poly.specs.Polynomials.{polynomials}
use Rattle.function_field.specs.Functions.{Equation, FunctionOf, ring_of, of_poly, over, y_of, trace_of, degree_of_y}
use Rattle.function_field.specs.Discriminant.{discriminant}
use Rattle.function_field.proofs.OnSide.{of_poly_zero}
use Rattle.function_field.proofs.ScalarRings.{of_poly_one}
use Rattle.trace_theory.specs.Traces.{IsRational, IsDualToPowers}
use Rattle.trace_theory.proofs.Determinants.{diagonal, diagonal_here, diagonal_other}
use Rattle.trace_theory.proofs.RowMatrix.{row_with, entry_with, trace_form as row_trace_form}
use Rattle.trace_theory.proofs.RowForm.{gram}
use Rattle.trace_theory.proofs.TraceForm.{Choice, choose}
use Rattle.trace_theory.proofs.Dependence.{unit_multiples}
use Rattle.trace_theory.proofs.FunctionTraces.{K, R, Y, Tr, trace_plus, trace_times, trace_rational, trace_power, value_polynomial}
use Rattle.trace_theory.proofs.Degenerate.{domain, zero_by_traces}
use Rattle.trace_theory.proofs.Reduced.{trace_sum}

module _ {k : CodeField} (c : Equation k) where
  infixl 65 ◌⊕◌
  infixl 70 ◌⊗◌
  infixr 80 ⊖◌
  open ring_of c use {𝟘, 𝟙, ◌⊕◌, ◌⊗◌, ⊖◌}

  abbrev F : CommRing (FunctionOf c)
  F = ring_of c

  abbrev y : ℕ → FunctionOf c
  y j = pow (ring_of c).ops (y_of c) j

  -- the entries of the unit matrix
  abbrev unit_at : ℕ → ℕ → FunctionOf c
  unit_at i j = of_poly c (diagonal (polynomials k).ops (λ i. (polynomials k).𝟙) i j)

  -- the traces of d_j·y^l
  abbrev IsDual : ℕ → FunctionOf c → Type 0
  IsDual j d = (l : ℕ) → l < degree_of_y c → trace_of c (d ⊗ y l) ≡ unit_at j l

  dual_member : ¬ (discriminant c ≡ (polynomials k).𝟘) → (j : ℕ) → j < degree_of_y c → (d : FunctionOf c) × IsDual j d
  dual_member some j l =
      let u = unit_multiples (domain c) (suc c.lower_degree) (gram (K c) c.lower_degree c.coefficients) some j l in
      let v = row_with (K c) (suc c.lower_degree) u.0 in (
        over c v u.1.factor u.1.factor_nonzero,
        λ m b.
            trace_power c v u.1.factor u.1.factor_nonzero m
            ∙ value_polynomial c (Tr c ((R c).◌⊗◌ v (Y c m)))
            (diagonal (polynomials k).ops (λ i. (polynomials k).𝟙) j m) u.1.factor u.1.factor_nonzero
            (row_trace_form (K c) c.lower_degree c.coefficients v m
            ∙ below_cong (K c) (suc c.lower_degree) _ _ (λ i q.
            ap (λ x. (K c).◌⊗◌ x (gram (K c) c.lower_degree c.coefficients i m))
            (entry_with (K c) (suc c.lower_degree) i u.0 q))
            ∙ u.1.is m b),
      )

  unit_here : (i : ℕ) → unit_at i i ≡ 𝟙
  unit_here i = ap (of_poly c) (diagonal_here (K c) (λ i. (K c).𝟙) i) ∙ sym (of_poly_one c)

  unit_other : (i j : ℕ) → ¬ (j ≡ i) → unit_at i j ≡ 𝟘
  unit_other i j ne = ap (of_poly c) (diagonal_other (K c) (λ i. (K c).𝟙) i j ne) ∙ sym (of_poly_zero c)

  -- the combination of the dual basis with given rational coefficients has these as traces
  dual_trace : (d : ℕ → FunctionOf c) → ((j : ℕ) → j < degree_of_y c → IsDual j (d j)) → (a : ℕ → FunctionOf c)
      → ((j : ℕ) → IsRational c (a j))
      → (l : ℕ) → l < degree_of_y c → trace_of c (sum_below F.ops (degree_of_y c) (λ j. a j ⊗ d j) ⊗ y l) ≡ a l
  dual_trace d dual a rational l b =
      ap (trace_of c) (sym (below_scale_right F (suc c.lower_degree) (y l) (λ j. a j ⊗ d j)))
      ∙ trace_sum c (suc c.lower_degree) _
      ∙ below_cong F (suc c.lower_degree) _ (λ j. a j ⊗ unit_at j l) (λ j q.
      ap (trace_of c) (F.mul_assoc _ _ _) ∙ trace_times c (a j) (d j ⊗ y l) (rational j)
      ∙ ap (λ z. a j ⊗ z) (dual j q l b))
      ∙ below_single F (suc c.lower_degree) l (λ j. a j ⊗ unit_at j l) b
      (λ j q ne. ap (λ z. a j ⊗ z) (unit_other j l (λ e. ne (sym e))) ∙ mul_zero F (a j))
      ∙ ap (λ z. a l ⊗ z) (unit_here l) ∙ F.mul_one (a l)

  pub trace_minus : (z w : FunctionOf c) → trace_of c z ≡ trace_of c w → trace_of c (z ⊕ ⊖ w) ≡ 𝟘
  trace_minus z w e =
      add_cancel F (trace_of c (z ⊕ ⊖ w)) 𝟘 (trace_of c w)
      (sym (trace_plus c (z ⊕ ⊖ w) w) ∙ ap (trace_of c) (back z w) ∙ e ∙ sym (zero_add F (trace_of c w)))
    where
      back : (z w : FunctionOf c) → (ring_of c).◌⊕◌ ((ring_of c).◌⊕◌ z ((ring_of c).⊖◌ w)) w ≡ z
      back z w = ring (ring_of c) (z ∷ w ∷ []) λ q h. simp (reads, q, h 0, h 1) (q.equal _ _ refl)

  pub dual_basis : ¬ (discriminant c ≡ (polynomials k).𝟘) → (d : ℕ → FunctionOf c) × IsDualToPowers c d
  dual_basis some =
      let D : Choice IsDual (degree_of_y c) = choose IsDual (degree_of_y c) 𝟘 (dual_member some) in (
        D.chosen,
        record {
          same = λ i l. ap (trace_of c) (F.mul_comm _ _) ∙ D.holds i l i l ∙ unit_here i;
          other = λ i j l m ne. ap (trace_of c) (F.mul_comm _ _) ∙ D.holds j m i l ∙ unit_other j i ne;
          spanning = λ z. spans D.chosen D.holds z;
        },
      )
    where
      difference : (z w u : FunctionOf c)
          → (ring_of c).◌⊕◌ ((ring_of c).◌⊗◌ z u) ((ring_of c).⊖◌ ((ring_of c).◌⊗◌ w u))
          ≡ (ring_of c).◌⊗◌ ((ring_of c).◌⊕◌ z ((ring_of c).⊖◌ w)) u
      difference z w u = ring (ring_of c) (z ∷ w ∷ u ∷ []) λ q h. simp (reads, q, h 0, h 1, h 2) (q.equal _ _ refl)

      spans : (d : ℕ → FunctionOf c) → ((j : ℕ) → j < degree_of_y c → IsDual j (d j)) → (z : FunctionOf c)
          → z ≡ sum_below (ring_of c).ops (degree_of_y c)
          (λ i. (ring_of c).◌⊗◌ (trace_of c ((ring_of c).◌⊗◌ z (pow (ring_of c).ops (y_of c) i))) (d i))
      spans d dual z =
          let a : ℕ → FunctionOf c = λ i. trace_of c ((ring_of c).◌⊗◌ z (pow (ring_of c).ops (y_of c) i)) in
          let w = sum_below (ring_of c).ops (degree_of_y c) (λ i. (ring_of c).◌⊗◌ (a i) (d i)) in
          eq_of_sub (ring_of c) z w
          (zero_by_traces c ((ring_of c).◌⊕◌ z ((ring_of c).⊖◌ w)) some (λ l b.
          ap (trace_of c) (sym (difference z w (pow (ring_of c).ops (y_of c) l)))
          ∙ trace_minus _ _ (sym (dual_trace d dual a (λ i. trace_rational c _) l b))))
