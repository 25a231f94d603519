-- The discriminant of another basis.
use Rattle.std.proofs.Common.{◌≡◌, ℕ, suc, ◌<◌, ◌+◌, [], ◌∷◌, refl, sym, ◌∙◌, ap, ap₂}
use Rattle.ring_lemmas.specs.Ring.{CommRing, pow}
use Rattle.ring_lemmas.specs.Sums.{sum_below, matrix_product}
use Rattle.ring_theory.specs.Determinant.{determinant}
use Rattle.ring_lemmas.proofs.Ring.{pow_add}
use Rattle.ring_lemmas.proofs.Sums.{below_cong, below_scale_right}
use Rattle.ring_theory.proofs.Determinant.{determinant_product}
use Rattle.ring_lemmas.proofs.Solver.{ring, reads}
use Rattle.ff_fields.specs.Field.{CodeField}
use Rattle.function_field.specs.Functions.{Equation, FunctionOf, ring_of, of_poly, y_of, trace_of, degree_of_y}
use Rattle.function_field.specs.Discriminant.{discriminant}
use Rattle.places_theory.proofs.YRoot.{poly_hom}
use Rattle.trace_theory.specs.Traces.{IsRational}
use Rattle.trace_theory.proofs.Determinants.{determinant_cong, transposed, image_determinant}
use Rattle.trace_theory.proofs.RowForm.{gram}
use Rattle.trace_theory.proofs.FunctionTraces.{K, Y, one_some, y_power, trace_over, trace_times}
use Rattle.trace_theory.proofs.Reduced.{trace_sum}

module _ {k : CodeField} (c : Equation k) where
  infixl 70 ◌⊗◌
  open ring_of c use {◌⊗◌}

  abbrev F : CommRing (FunctionOf c)
  F = ring_of c

  abbrev N : ℕ
  N = suc c.lower_degree

  abbrev y : ℕ → FunctionOf c
  y j = pow (ring_of c).ops (y_of c) j

  -- the trace of a combination of the powers of y times z
  trace_combination : (b : ℕ → FunctionOf c) → ((j : ℕ) → j < N → IsRational c (b j)) → (z : FunctionOf c)
      → trace_of c (sum_below F.ops N (λ j. b j ⊗ y j) ⊗ z) ≡ sum_below F.ops N (λ j. b j ⊗ trace_of c (y j ⊗ z))
  trace_combination b h z =
      ap (trace_of c) (sym (below_scale_right F N z (λ j. b j ⊗ y j))) ∙ trace_sum c N _
      ∙ below_cong F N _ _ (λ j l. ap (trace_of c) (F.mul_assoc _ _ _) ∙ trace_times c (b j) (y j ⊗ z) (h j l))

  power_form : (i j : ℕ) → trace_of c (y i ⊗ y j) ≡ of_poly c (gram (K c) c.lower_degree c.coefficients i j)
  power_form i j =
      ap (trace_of c) (sym (pow_add F (y_of c) i j) ∙ y_power c (i + j))
      ∙ trace_over c (Y c (i + j)) (K c).𝟙 (one_some c)

  -- w_i is the sum of b_ij·y^j
  pub basis_discriminant : (w : ℕ → FunctionOf c) (b : ℕ → ℕ → FunctionOf c)
      → ((i j : ℕ) → i < degree_of_y c → j < degree_of_y c → IsRational c (b i j))
      → ((i : ℕ) → i < degree_of_y c → w i ≡ sum_below F.ops (degree_of_y c) (λ j. b i j ⊗ pow F.ops (y_of c) j))
      → determinant F.ops (degree_of_y c) (λ i j. trace_of c (w i ⊗ w j))
      ≡ determinant F.ops (degree_of_y c) b ⊗ determinant F.ops (degree_of_y c) b ⊗ of_poly c (discriminant c)
  basis_discriminant w b rational is =
      determinant_cong F N _ (matrix_product F.ops N b (matrix_product F.ops N G (λ l j. b j l))) entries
      ∙ determinant_product F N b (matrix_product F.ops N G (λ l j. b j l))
      ∙ ap (λ x. determinant F.ops N b ⊗ x)
      (determinant_product F N G (λ l j. b j l)
      ∙ ap₂ ◌⊗◌ (sym (image_determinant (K c) F (of_poly c) (poly_hom c) N
      (gram (K c) c.lower_degree c.coefficients))) (transposed F N b))
      ∙ turn (determinant F.ops N b) (of_poly c (discriminant c))
    where
      G : ℕ → ℕ → FunctionOf c
      G i j = of_poly c (gram (K c) c.lower_degree c.coefficients i j)

      turn : (d e : FunctionOf c) → (ring_of c).◌⊗◌ d ((ring_of c).◌⊗◌ e d) ≡ (ring_of c).◌⊗◌ ((ring_of c).◌⊗◌ d d) e
      turn d e = ring (ring_of c) (d ∷ e ∷ []) λ q h. simp (reads, q, h 0, h 1) (q.equal _ _ refl)

      -- the trace of y^l·w_j
      column : (l j : ℕ) → j < suc c.lower_degree
          → trace_of c ((ring_of c).◌⊗◌ (pow (ring_of c).ops (y_of c) l) (w j))
          ≡ matrix_product (ring_of c).ops (suc c.lower_degree) G (λ l j. b j l) l j
      column l j b_j =
          ap (trace_of c) ((ring_of c).mul_comm _ (w j)
          ∙ ap (λ z. (ring_of c).◌⊗◌ z (pow (ring_of c).ops (y_of c) l)) (is j b_j))
          ∙ trace_combination (b j) (λ m r. rational j m b_j r) (pow (ring_of c).ops (y_of c) l)
          ∙ below_cong (ring_of c) (suc c.lower_degree) _ _ (λ m r.
          ap ((ring_of c).◌⊗◌ (b j m)) (ap (trace_of c) ((ring_of c).mul_comm _ _) ∙ power_form l m)
          ∙ (ring_of c).mul_comm _ _)

      entries : (i j : ℕ) → i < suc c.lower_degree → j < suc c.lower_degree
          → trace_of c ((ring_of c).◌⊗◌ (w i) (w j))
          ≡ matrix_product (ring_of c).ops (suc c.lower_degree) b
          (matrix_product (ring_of c).ops (suc c.lower_degree) G (λ l j. b j l)) i j
      entries i j r s =
          ap (λ z. trace_of c ((ring_of c).◌⊗◌ z (w j))) (is i r)
          ∙ trace_combination (b i) (λ m q. rational i m r q) (w j)
          ∙ below_cong (ring_of c) (suc c.lower_degree) _ _ (λ l q. ap ((ring_of c).◌⊗◌ (b i l)) (column l j s))
